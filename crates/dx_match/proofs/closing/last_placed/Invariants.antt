use Rattle.std.proofs.Common.{◌≡◌, take, fold}
use Rattle.std.specs.FinMap.{get}
use Rattle.dx_node_spec.specs.Queue.{with_placed, placed_by}
use Rattle.dx_match.proofs.closing.last_placed.Given as goal

-- the last one so far
abbrev pub invariant-loop-op : goal.invariant-loop-op
invariant-loop-op l = l.found ≡ get (fold with_placed (placed_by l.queue) (take l.op-index l.ops)) l.id
