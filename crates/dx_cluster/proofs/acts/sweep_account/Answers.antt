use Rattle.std.proofs.Common.{refl}
use Rattle.dx_node_spec.specs.Events.{sweep}
use Rattle.dx_cluster.specs.Acts.{sweep_answer}
use Rattle.dx_cluster.proofs.Worlds.{has_refused}
use Rattle.dx_cluster.proofs.acts.sweep_account.Goals as goal

pub returns-in-Err : goal.returns-in-Err
returns-in-Err c =
    has_refused (λ p. sweep p c.args.who) sweep_answer c.args.node.now c.sweep.new.self c.refusal.result c.refused_or_memory.result (λ p cause. refl) c.in-Err.ensures.same (λ p st. rw c.refusal.ensures (c.in-Err.ensures.refused p st)) c.refused_or_memory.ensures
