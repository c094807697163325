use Rattle.std.proofs.Common.{◌+◌, ◌≤◌, length, take, fold}
use Rattle.dx_spec.specs.Operations.{Placed}
use Rattle.dx_node_spec.specs.Queue.{with_placed}
use Rattle.indexmap.specs.IndexMap.{spare}
use Rattle.dx_queue.specs.Keys.{Agrees}
use Rattle.dx_queue.proofs.places.note_orders.Given as goal

abbrev pub invariant-loop-op : goal.invariant-loop-op
invariant-loop-op l = record {
  room : length l.ops ≤ spare l.placed + l.op-index;
  agrees : (m : Placed) → Agrees l.fn.placed.entries m → Agrees l.placed.entries (fold with_placed m (take l.op-index l.ops));
}
