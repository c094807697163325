-- The rows that a keeper keeps, in a database.
use Rattle.std.specs.Prelude.{◌≡◌, ℕ, ◌^◌, ◌<◌, ◌==◌, ◌&&◌, not, nat_lt, if◌then◌else◌, ℤ, pos, negsuc, Bool, true, false, List, [], ◌∷◌, map, Option, Some, None, ◌⊎◌}
use Rattle.std.specs.List.{list_all}
use Rattle.std.specs.Ordering.{is_lt}
use Rattle.std.specs.Coded.{coded_list}
use Rattle.std.specs.FinMap as finite
use Rattle.dx_io.specs.declared.row_key.RowKey.{RowKey}
use Rattle.dx_io.specs.Rows.{Rows}
use Rattle.sqlite.specs.declared.types.Value.{Value}
use Rattle.sqlite.specs.declared.types.Value.TheVariants.{Null, Int, Real, Text, Blob}
use Rattle.sqlite_value.specs.contracts.value.Value as value
use Rattle.sqlite_value.specs.Order.{Row, column, bytes, value_cmp}
use Rattle.sqlite_trees.specs.Tree.{rowid, IsTable}
use Rattle.sqlite_rules.specs.Edit.{id_in}
use Rattle.sqlite_rules.specs.Lists.{Has}
use Rattle.sqlite_schema.specs.contracts.schema.Schema as schema
use Rattle.sqlite.specs.Effect.{Database}
use Rattle.dx_sql.specs.Same.{same}
use Rattle.dx_sql.specs.Table.{block_schema, no_schema}

-- the whole number in a value, and 0 in any other
abbrev pub whole_in : Value → ℕ
whole_in Null = 0
whole_in (Int (pos n)) = n
whole_in (Int (negsuc n)) = 0
whole_in (Real x) = 0
whole_in (Text t) = 0
whole_in (Blob b) = 0

-- the place and the bytes of a kept row
abbrev pub key_of : Row → RowKey
key_of row = record { node = whole_in (column row 1); height = whole_in (column row 2) }

abbrev pub body_of : Row → List ℕ
body_of row = bytes (column row 3)

-- a kept row as it is stored
abbrev pub stored : ℤ → RowKey → List ℕ → Row
stored id key body = Int id ∷ Int (pos key.node) ∷ Int (pos key.height) ∷ Blob body ∷ []

-- the row that is stored for what a row says
abbrev pub restored : Row → Row
restored row = stored (id_in (rowid row)) (key_of row) (body_of row)

-- the row stands at this place
abbrev pub has_key : RowKey → Row → Bool
has_key key row = (key.node == (key_of row).node) && (key.height == (key_of row).height)

-- the row is as this keeper stores rows, with numbers of 32 bits
abbrev pub is_row : Row → Bool
is_row row = same (coded_list value.the_row.coded) row (restored row) && (nat_lt (key_of row).node (2 ^ 32) && nat_lt (key_of row).height (2 ^ 32))

-- the rowid is below that of a later row, which stands at another place
abbrev pub goes_before : Row → Row → Bool
goes_before row later = is_lt (value_cmp (rowid row) (rowid later)) && not (has_key (key_of row) later)

-- each row is a kept one, and no two stand at one place
abbrev pub are_kept : List Row → Bool
are_kept [] = true
are_kept (row ∷ rows) = is_row row && (list_all (goes_before row) rows && are_kept rows)

-- what a row adds to the map
abbrev pub entry_of : Row → RowKey × List ℕ
entry_of row = (key_of row, body_of row)

-- the map that kept rows make
abbrev pub kept_rows : List Row → Rows
kept_rows rows = finite.from_entries (map entry_of rows)

-- and none, where they are no kept rows
abbrev pub kept_if : Bool → List Row → Option Rows
kept_if kept rows = if kept then Some (kept_rows rows) else None

-- the rows of a database that is empty, or has the table of the rows alone
unfoldable pub rows_in : Database → Option Rows
rows_in db =
    if same schema.the_row.coded db.schema no_schema then Some finite.empty
    else (if same schema.the_row.coded db.schema block_schema then kept_if (are_kept (db.trees 0)) (db.trees 0) else None)

-- what `is_row` tests
pub record IsRow (row : Row) : Type 0 where
  pub is : row ≡ restored row
  pub node : (key_of row).node < 2 ^ 32
  pub height : (key_of row).height < 2 ^ 32

-- what `are_kept` tests
pub record AreKept (rows : List Row) : Type 0 where
  pub each : (row : Row) → Has rows row → IsRow row
  pub rising : IsTable rows
  pub once : (a b : Row) → Has rows a → Has rows b → key_of a ≡ key_of b → a ≡ b

-- one row is set, and all others stay
pub record SetsKept (rows after : List Row) (new : Row) : Type 0 where
  pub kept : AreKept after
  pub here : Has after new
  pub from : (row : Row) → Has after row → (row ≡ new) ⊎ (Has rows row × (has_key (key_of new) row ≡ false))
  pub others : (row : Row) → Has rows row → has_key (key_of new) row ≡ false → Has after row
