use Rattle.std.proofs.Common.{◌≡◌, ◌++◌, drop}
use Rattle.dx_node_spec.specs.Reads.{book_in}
use Rattle.dx_node.proofs.reads.shown_orders.Given as goal

-- what is listed so far, and then the orders that are left
abbrev pub invariant-loop-order : goal.invariant-loop-order
invariant-loop-order g l = l.list ++ book_in (g.L.Ledger.content l.l) (drop l.order-index l.order-items) ≡ book_in (g.L.Ledger.content l.l) l.order-items
