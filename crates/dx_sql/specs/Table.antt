-- The table of the rows, and the statements on it.
use Rattle.std.specs.Prelude.{true, false, [], ◌∷◌, None, codes, List, ℕ}
use Rattle.sqlite.specs.Collation.TheVariants.{Binary}
use Rattle.sqlite.specs.declared.types.Value.TheVariants.{Null}
use Rattle.sqlite.specs.Table.{Table}
use Rattle.sqlite.specs.Schema.{Schema}
use Rattle.sqlite.specs.Kind.TheVariants.{Integer, Blob}
use Rattle.sqlite.specs.Change.{created}
use Rattle.sqlite_schema.specs.declared.schema.Column.{Column}
use Rattle.sqlite_value.specs.Keys.{plain}
use Rattle.sqlite.specs.Kind.{Kind}

-- makes the table
abbrev pub make_text : List ℕ
make_text = codes "CREATE TABLE block (node INTEGER NOT NULL, height INTEGER NOT NULL, body BLOB NOT NULL, PRIMARY KEY (node, height)) STRICT"

-- sets the bytes of a node and a height
abbrev pub put_text : List ℕ
put_text = codes "INSERT INTO block (node, height, body) VALUES (?1, ?2, ?3) ON CONFLICT (node, height) DO UPDATE SET body = excluded.body"

-- shows the bytes of a node and a height
abbrev pub get_text : List ℕ
get_text = codes "SELECT body FROM block WHERE node = ?1 AND height = ?2"

-- shows how many rows a node has
abbrev pub count_text : List ℕ
count_text = codes "SELECT count(*) FROM block WHERE node = ?1"

-- a database with no table
abbrev pub no_schema : Schema
no_schema = record { tables = []; indexes = []; views = [] }

-- a column that takes no NULL
abbrev pub column_of : List ℕ → Kind → Column
column_of name kind = record { name = name; kind = kind; is_strict = true; not_null = true; default = Null; collation = Binary }

-- the table that `make_text` makes in a database with no table
abbrev pub block : Table
block = record {
  name = codes "block";
  tree = 0;
  columns = column_of (codes "node") Integer ∷ column_of (codes "height") Integer ∷ column_of (codes "body") Blob ∷ [];
  key = None;
  primary = 1 ∷ 2 ∷ [];
  uniques = (1 ∷ 2 ∷ []) ∷ [];
  orders = plain ∷ [];
  checks = [];
  references = [];
  computed = [];
  stamps = record { places = []; terms = []; formats = [] };
  is_counted = false;
}

-- a database with this table alone
abbrev pub block_schema : Schema
block_schema = created no_schema block
