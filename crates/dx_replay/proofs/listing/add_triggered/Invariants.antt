use Rattle.std.proofs.Common.{◌≡◌, drop}
use Rattle.dx_node_spec.specs.Commits.{with_new, triggered_orders}
use Rattle.dx_replay.proofs.listing.add_triggered.Given as goal

-- the ids that are left lead to the whole list
abbrev pub invariant-loop-id : goal.invariant-loop-id
invariant-loop-id g l =
    let s = g.L.Ledger.content l.after in
    with_new l.list (triggered_orders s (drop l.id-index l.triggered)) ≡ with_new l.fn.list (triggered_orders s l.triggered)
