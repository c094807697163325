use Rattle.std.proofs.Common.{◌≡◌, ◌++◌, drop}
use Rattle.std.specs.Prelude.{flat_map}
use Rattle.dx_print.specs.Numbers.{spaced}
use Rattle.dx_follow.proofs.written.push_numbers.Given as goal

-- what is written so far, and then the numbers that are left
abbrev pub invariant-loop-number : goal.invariant-loop-number
invariant-loop-number l = l.out.items ++ flat_map spaced (drop l.number-index l.numbers) ≡ l.fn.out.items ++ flat_map spaced l.numbers
