use Rattle.std.proofs.Common.{◌≡◌, ◌≤◌, length, drop}
use Rattle.std.specs.Prelude.{flat_map}
use Rattle.dx_node_spec.specs.Queue.{mentioned}
use Rattle.indexmap.specs.IndexSet.{spare}
use Rattle.dx_queue.specs.Keys.{with_keys}
use Rattle.dx_queue.proofs.mentions.note_mentions.Given as goal

abbrev pub invariant-loop-op : goal.invariant-loop-op
invariant-loop-op l = record {
  keys : with_keys l.named.keys (flat_map mentioned (drop l.op-index l.ops)) ≡ with_keys l.fn.named.keys (flat_map mentioned l.ops);
  room : length (flat_map mentioned (drop l.op-index l.ops)) ≤ spare l.named;
}
