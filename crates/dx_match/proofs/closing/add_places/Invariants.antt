use Rattle.std.proofs.Common.{◌≡◌, ◌++◌, List, drop}
use Rattle.dx_types.specs.declared.Order.{Order}
use Rattle.dx_node_spec.specs.Queue.{placed_by, places}
use Rattle.dx_node_spec.specs.Taking.{makers_in}
use Rattle.dx_match.specs.Seen.{group_of}
use Rattle.dx_match.proofs.closing.add_places.Given as goal

-- the makers that are left lead to what all lead to
abbrev pub invariant-loop-filled : goal.invariant-loop-filled
invariant-loop-filled l = (rest : List Order)
    → l.ops ++ places (placed_by (l.queue ++ l.ops)) (makers_in (group_of (drop l.filled-index l.group)) ++ rest)
    ≡ l.fn.ops ++ places (placed_by (l.queue ++ l.fn.ops)) (makers_in (group_of l.group) ++ rest)
