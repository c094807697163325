use Rattle.std.proofs.Common.{◌≡◌, ◌*◌, ◌^◌, ◌≤◌, take}
use Rattle.std.specs.Prelude.{sum_by}
use Rattle.dx_spec.specs.Blocks.{fills_in}
use Rattle.dx_operations.proofs.limits.fills_of.Given as goal

abbrev pub invariant-loop-op : goal.invariant-loop-op
invariant-loop-op l = record {
  sum : l.fills ≡ sum_by fills_in (take l.op-index l.ops);
  bound : l.fills ≤ 2 ^ 64 * l.op-index;
}
