-- The numbers of arrival, and the places of keys among all.
use Rattle.std.specs.Prelude.{ℕ, suc, Bool, ◌==◌, ◌≤◌, T, nat_lt, if◌then◌else◌, List, [], ◌∷◌, Option, Some, None}
use Rattle.std.specs.Ordering.{nat_cmp}
use Rattle.std.specs.FinMap.Entries as rows
use Rattle.dx_book.specs.declared.names.Expiry.{Expiry}
use Rattle.dx_book.specs.declared.ends.Ends.{Ends}

-- how many keys stand before a key
abbrev pub place_in : ℕ → List ℕ → ℕ
place_in key [] = 0
place_in key (k ∷ ks) = if k == key then 0 else suc (place_in key ks)

-- the number that was found, else 0
abbrev pub number_or_none : Option ℕ → ℕ
number_or_none None = 0
number_or_none (Some number) = number

-- the number of a key in a table
abbrev pub number_of : List (ℕ × ℕ) → ℕ → ℕ
number_of table key = number_or_none (rows.find nat_cmp key table)

-- no key has a number below this one
abbrev pub AreFrom : (ℕ → ℕ) → ℕ → List ℕ → Type 0
AreFrom number least [] = Unit {0}
AreFrom number least (k ∷ ks) = (least ≤ number k) × AreFrom number least ks

-- no key has a number above this one
abbrev pub AreUpTo : (ℕ → ℕ) → ℕ → List ℕ → Type 0
AreUpTo number most [] = Unit {0}
AreUpTo number most (k ∷ ks) = (number k ≤ most) × AreUpTo number most ks

-- no key has a number above that of a later one
abbrev pub AreRising : (ℕ → ℕ) → List ℕ → Type 0
AreRising number [] = Unit {0}
AreRising number (k ∷ ks) = AreFrom number (number k) ks × AreRising number ks

-- the numbers rise with the places, up to that of the next arrival
pub record IsNumbered (keys : List ℕ) (table : List (ℕ × ℕ)) (next : ℕ) : Type 0 where
  pub sorted : T (rows.is_sorted nat_cmp table)
  pub rising : AreRising (number_of table) keys
  pub most : AreUpTo (number_of table) next keys

-- the lower of two places
abbrev pub lower : ℕ → ℕ → ℕ
lower place other = if nat_lt place other then place else other

-- the lowest place of the first orders of the chains that pass, where another one stands already
abbrev pub earliest : (Expiry → Bool) → List ℕ → List (Expiry × Ends) → ℕ → ℕ
earliest test keys [] place = place
earliest test keys (row ∷ rows) place = earliest test keys rows (if test row.0 then lower (place_in row.1.first keys) place else place)
