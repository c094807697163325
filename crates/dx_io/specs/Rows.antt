-- The rows that a keeper keeps: bytes, by node and height.
use Rattle.std.specs.Prelude.{◌≡◌, ℕ, ◌-◌, ◌^◌, ◌==◌, min, List, length, filter, Option, Some, None, ⊤}
use Rattle.std.specs.Coded.{Coded, coded_ℕ, coded_list}
use Rattle.std.specs.FinMap as map
use Rattle.dx_io.specs.declared.row_key.RowKey.{RowKey}
use Rattle.dx_io.specs.RowKeys.{row_cmp, coded_row_key}

-- bytes, by node and height
abbrev pub Rows : Type 0
Rows = map.FinMap row_cmp (List ℕ)

-- the code of the rows
abbrev pub coded_rows : Coded (map.FinMap row_cmp (List ℕ))
coded_rows = map.code coded_row_key (coded_list coded_ℕ)

-- known rows stay as they were
abbrev pub SameRows : Option Rows → Option Rows → Type 0
SameRows None new = ⊤
SameRows (Some rows) None = ⊥
SameRows (Some rows) (Some after) = after ≡ rows

-- one of the known rows is set, and all others stay
abbrev pub SetsRow : Option Rows → Option Rows → RowKey → List ℕ → Type 0
SetsRow None new key bytes = ⊤
SetsRow (Some rows) None key bytes = ⊥
SetsRow (Some rows) (Some after) key bytes = after ≡ map.insert rows key bytes

-- what is found at a place of the known rows
abbrev pub FindsRow : Option Rows → RowKey → Option (List ℕ) → Type 0
FindsRow None key found = ⊤
FindsRow (Some rows) key found = found ≡ map.get rows key

-- how many rows a node has, or the greatest number of 32 bits where there are more
abbrev pub row_count : Rows → ℕ → ℕ
row_count rows node = min (length (filter (λ key. key.node == node) (map.keys rows))) (2 ^ 32 - 1)

-- how many of the known rows a node has
abbrev pub CountsRows : Option Rows → ℕ → ℕ → Type 0
CountsRows None node count = ⊤
CountsRows (Some rows) node count = count ≡ row_count rows node
