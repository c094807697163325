use Rattle.std.proofs.Common.{◌≡◌, take}
use Rattle.dx_node_spec.specs.Taking.{fills_of}
use Rattle.dx_match.specs.Seen.{group_of}
use Rattle.dx_match.proofs.closing.fills_of.Given as goal

abbrev pub invariant-loop-filled : goal.invariant-loop-filled
invariant-loop-filled l = l.fills ≡ fills_of (group_of (take l.filled-index l.group))
