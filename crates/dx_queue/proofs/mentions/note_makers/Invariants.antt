use Rattle.std.proofs.Common.{◌≡◌, ◌+◌, ◌≤◌, drop, map}
use Rattle.indexmap.specs.IndexSet.{spare}
use Rattle.dx_queue.specs.Keys.{with_keys}
use Rattle.dx_queue.proofs.mentions.note_makers.Given as goal

abbrev pub invariant-loop-fill : goal.invariant-loop-fill
invariant-loop-fill l = record {
  keys : with_keys l.named.keys (map (λ f. f.maker) (drop l.fill-index l.fills)) ≡ with_keys l.fn.named.keys (map (λ f. f.maker) l.fills);
  room : spare l.fn.named ≤ spare l.named + l.fill-index;
}
