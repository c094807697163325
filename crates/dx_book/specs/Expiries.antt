-- Whether orders of an end have ended.
use Rattle.std.specs.Prelude.{ℕ, Bool, true, false, not, ◌&&◌, ◌==◌, nat_lt, nat_le}
use Rattle.dx_book.specs.declared.names.Expiry.{Expiry}

-- short-term orders of this end have ended at the height, or stateful ones by the time
abbrev pub is_over : Bool → ℕ → Expiry → Bool
is_over true height e = (e.flags == 0) && nat_lt e.until height
is_over false time e = not (e.flags == 0) && nat_le e.until time

-- an end that no end of the sort stands before
abbrev pub start_of_term : Bool → Expiry
start_of_term true = record { flags = 0; until = 0 }
start_of_term false = record { flags = 1; until = 0 }
