use Rattle.std.proofs.Common.{◌≡◌, drop}
use Rattle.dx_node_spec.specs.Commits.{with_new}
use Rattle.dx_replay.specs.Parts.{new_orders}
use Rattle.dx_replay.proofs.listing.add_placed.Given as goal

-- the messages that are left lead to the whole list
abbrev pub invariant-loop-number : goal.invariant-loop-number
invariant-loop-number g l =
    let s = g.L.Ledger.content l.after in
    with_new l.list (new_orders s (drop l.number l.msgs) (drop l.number l.results)) ≡ with_new l.fn.list (new_orders s l.msgs l.results)
