use Rattle.dx_cluster.proofs.Kept.{both_done, both_err, on_ok, snap_kept, snap_ended, snap_fits}
use Rattle.dx_cluster.proofs.cluster.Cluster.snap.Goals as goal

pub returns-clause-done : goal.returns-clause-done
returns-clause-done g c =
    both_done c.snap_node.result _ _ _ (λ answer told row w st h.
    snap_kept c.args.self.now w c.args.node c.index.result.now answer (g.K.Keeper.rows c.args.keeper.now) _ st c.requires.there c.index.ensures told row h)
    c.snap_node.ensures.done c.snap_node.ensures.row

pub returns-clause-breaks : goal.returns-clause-breaks
returns-clause-breaks g c =
    both_err c.snap_node.result _ _ _ (λ fault outside same w st h. snap_ended w c.args.node (g.K.Keeper.rows c.args.keeper.now) _ fault outside same h)
    c.snap_node.ensures.outside c.snap_node.ensures.rows

pub returns-clause-fits : goal.returns-clause-fits
returns-clause-fits g c =
    on_ok c.snap_node.result _ _ (λ names w st. snap_fits c.args.self.now w c.args.node c.index.result.now st c.requires.there c.index.ensures names) c.snap_node.ensures.fits
