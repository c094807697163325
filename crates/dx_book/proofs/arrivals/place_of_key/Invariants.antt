use Rattle.std.proofs.Common.{◌≤◌}
use Rattle.dx_book.specs.Arrivals.{place_in}
use Rattle.dx_book.proofs.arrivals.place_of_key.Given as goal

-- the key stands at no place so far
abbrev pub invariant-loop-place : goal.invariant-loop-place
invariant-loop-place l = l.place ≤ place_in l.key l.keys
