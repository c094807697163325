use Rattle.std.proofs.Common.{◌≡◌, drop, length}
use Rattle.dx_book.specs.Arrivals.{earliest}
use Rattle.dx_book.specs.Expiries.{is_over}
use Rattle.dx_book.proofs.ending.first_over.Given as goal

-- the rows that are left lead to where all lead
abbrev pub invariant-loop-number : goal.invariant-loop-number
invariant-loop-number l =
    earliest (is_over l.short_term l.bound) l.keys (drop l.number l.expiries) l.place
    ≡ earliest (is_over l.short_term l.bound) l.parts.arrivals.items l.parts.expiries.items (length l.parts.arrivals.items)
