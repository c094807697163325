use Rattle.std.proofs.Common.{◌-◌, ◌≤◌, length}
use Rattle.dx_book.specs.Arrivals.{place_in}
use Rattle.dx_book.proofs.arrivals.start_of.Given as goal

-- the place of the key is not before the lower bound
abbrev pub invariant-loop-low : goal.invariant-loop-low
invariant-loop-low l = record {
  above : l.low ≤ place_in l.key l.keys;
  within : l.high ≤ length l.keys;
}

abbrev pub decreases-loop-low : goal.decreases-loop-low
decreases-loop-low l = l.high - l.low
