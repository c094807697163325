-- The levels of a side, and of those behind a price.
use Rattle.std.specs.Prelude.{ℕ, Bool, false, not, ◌&&◌, ◌||◌, ◌==◌, nat_lt, if◌then◌else◌, List, Option, Some, None, find, option_map}
use Rattle.dx_spec.specs.Orders.{is_same_side}
use Rattle.dx_book.specs.declared.names.Level.{Level}
use Rattle.dx_book.specs.declared.ends.Ends.{Ends}

-- the first price is the better one on the side
abbrev pub is_better_price : Bool → ℕ → ℕ → Bool
is_better_price buy s t = if buy then nat_lt t s else nat_lt s t

-- a level of the side, behind this price if there is one
abbrev pub is_behind : ℕ → Bool → Option ℕ → Level → Bool
is_behind market buy None l = l.market == market && is_same_side buy l.buy
is_behind market buy (Some subticks) l = (l.market == market && is_same_side buy l.buy) && is_better_price buy subticks l.subticks

-- a level of a later market, or a bid of this one where asks are meant
abbrev pub is_past : ℕ → Bool → Level → Bool
is_past market buy l = nat_lt market l.market || (l.market == market && (l.buy && not buy))

-- the key of the first order of the first level that passes
abbrev pub first_level : (Level → Bool) → List (Level × Ends) → Option ℕ
first_level test levels = option_map (λ (row : Level × Ends). row.1.first) (find (λ row. test row.0) levels)

-- a level that no level of the side stands before
abbrev pub start_of : ℕ → Bool → Level
start_of market buy = record { market = market; buy = false; subticks = if buy then 18_446_744_073_709_551_615 else 0 }
