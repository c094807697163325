use Rattle.std.proofs.Common.{refl}
use Rattle.dx_node_spec.specs.Placing.{place}
use Rattle.dx_cluster.specs.Acts.{place_answer}
use Rattle.dx_cluster.proofs.Worlds.{has_refused}
use Rattle.dx_cluster.proofs.acts.place_order.Goals as goal

pub returns-in-Err : goal.returns-in-Err
returns-in-Err c =
    has_refused (λ p. place p c.args.order.now) place_answer c.args.node.now c.place.new.self c.refusal.result c.refused_or_memory.result (λ p cause. refl) c.in-Err.ensures.same (λ p st. rw c.refusal.ensures (c.in-Err.ensures.refused p st)) c.refused_or_memory.ensures
