use Rattle.std.proofs.Common.{◌≡◌, ◌++◌, drop}
use Rattle.std.specs.List.{filter_map}
use Rattle.dx_node_spec.specs.Queue.{named_by}
use Rattle.dx_replay.specs.Parts.{again_of}
use Rattle.dx_replay.proofs.listing.mentioned_orders.Given as goal

-- the ids that are left lead to the whole list
abbrev pub invariant-loop-number : goal.invariant-loop-number
invariant-loop-number g l =
    let f = again_of l.queue l.book.orders (g.L.Ledger.content l.after) in
    l.list ++ filter_map f (drop l.number (named_by l.queue)) ≡ filter_map f (named_by l.queue)
