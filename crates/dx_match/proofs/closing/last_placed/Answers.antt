use Rattle.std.proofs.Common.{◌∙◌, ap, fold}
use Rattle.std.specs.FinMap.{get}
use Rattle.std.proofs.lemmas.List.{take_all}
use Rattle.dx_spec.specs.Operations.{Placed}
use Rattle.dx_node_spec.specs.Queue.{with_placed, placed_by}
use Rattle.dx_match.proofs.Groups.{placed_behind}
use Rattle.dx_match.proofs.closing.last_placed.Goals as goal

pub returns : goal.returns
returns c =
    c.loop-op.invariant
    ∙ ap (λ l. get (fold with_placed (placed_by c.args.queue.now) l) c.args.id.now) (take_all c.loop-op.op-index c.args.ops.now c.loop-op-test.false)
    ∙ ap (λ (p : Placed). get p c.args.id.now) (placed_behind c.args.queue.now c.args.ops.now)
