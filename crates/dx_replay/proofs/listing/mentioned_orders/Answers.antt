use Rattle.std.proofs.Common.{◌+◌, drop, sym, ◌∙◌}
use Rattle.std.specs.List.{filter_map}
use Rattle.dx_node_spec.specs.Queue.{named_by}
use Rattle.dx_replay.specs.Parts.{again_of}
use Rattle.dx_replay.proofs.Turns.{next_mentioned}
use Rattle.dx_replay.proofs.listing.mentioned_orders.Goals as goal

pub loop-number-preserved : goal.loop-number-preserved
loop-number-preserved g c =
    let f = again_of c.args.queue.now c.args.book.now.orders (g.L.Ledger.content c.args.after.now) in
    next_mentioned f (named_by c.args.queue.now) c.loop-number.number c.unwrap-id.result c.mentioned_order.result c.loop-number.list c.add_found.new.list _
    (sym c.named.ensures ∙ c.unwrap-id.ensures) c.mentioned_order.ensures (c.in_ok-add_found.ensures (filter_map f (drop (c.loop-number.number + 1) (named_by c.args.queue.now)))) c.loop-number.invariant
