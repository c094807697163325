use Rattle.std.proofs.Common.{refl}
use Rattle.std.proofs.lemmas.Result.{IfOk-weaker}
use Rattle.dx_cluster.proofs.Kept.{on_ok, if_err, resume_gone, resume_ended, turn_stands}
use Rattle.dx_cluster.proofs.cluster.Cluster.resume.Goals as goal

pub returns-clause-done : goal.returns-clause-done
returns-clause-done g c =
    IfOk-weaker c.resume_node.result _ _ (λ answer gives w st h.
    resume_gone c.args.self.now _ w c.args.node c.args.height c.index_mut.result.now c.resume_node.new.node answer (g.K.Keeper.rows c.args.keeper.now) _ st c.requires.there c.index_mut.ensures.value gives c.resume_node.ensures.rows h refl refl)
    c.resume_node.ensures.done

pub returns-clause-stands : goal.returns-clause-stands
returns-clause-stands g c =
    on_ok c.resume_node.result _ _ (λ stands. turn_stands c.args.self.now _ c.args.node c.index_mut.result.now c.resume_node.new.node c.requires.stands c.requires.there c.index_mut.ensures.value stands refl refl)
    c.resume_node.ensures.stands

pub returns-clause-breaks : goal.returns-clause-breaks
returns-clause-breaks g c =
    if_err c.resume_node.result _ _ (λ fault refused w st h.
    resume_ended c.args.self.now w c.args.node c.args.height c.index_mut.result.now (g.K.Keeper.rows c.args.keeper.now) _ fault st c.requires.there c.index_mut.ensures.value refused c.resume_node.ensures.rows h)
    c.resume_node.ensures.refused
