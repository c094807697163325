use Rattle.std.proofs.Common.{refl}
use Rattle.dx_cluster.proofs.Kept.{restart_gone, restart_stands, restart_ended}
use Rattle.dx_cluster.proofs.cluster.Cluster.restart.Goals as goal

pub returns-in-Ok-clause-done : goal.returns-in-Ok-clause-done
returns-in-Ok-clause-done g c = λ w st h.
    restart_gone c.args.self.now _ w c.args.node c.index_mut.result.now c.restart_node.new.node (g.K.Keeper.rows c.args.keeper.now) _ c.in-Ok.height st c.requires.there c.index_mut.ensures.value c.in-Ok.ensures.started c.in-Ok.ensures.begun h refl refl

pub returns-in-Ok-clause-stands : goal.returns-in-Ok-clause-stands
returns-in-Ok-clause-stands g c =
    restart_stands c.args.self.now _ c.args.node c.index_mut.result.now c.restart_node.new.node (g.K.Keeper.rows c.args.keeper.now) c.in-Ok.height c.requires.stands c.requires.there c.index_mut.ensures.value c.in-Ok.ensures.started refl refl

pub returns-in-Err-clause-breaks : goal.returns-in-Err-clause-breaks
returns-in-Err-clause-breaks g c = λ w st h.
    restart_ended c.args.self.now w c.args.node c.index_mut.result.now (g.K.Keeper.rows c.args.keeper.now) _ c.in-Err.fault st c.requires.there c.index_mut.ensures.value c.in-Err.ensures.refused h
