-- Which block a row of a node keeps.
use Rattle.std.specs.Prelude.{◌≡◌, ℕ, Bool, nat_lt, if◌then◌else◌, List, Option, Some, None, Result, Ok, Err}
use Rattle.std.specs.List.{list_all}
use Rattle.std.specs.FinMap as map
use Rattle.dx_types.specs.declared.Block.{Block}
use Rattle.dx_io.specs.declared.row_key.RowKey.{RowKey}
use Rattle.dx_io.specs.Rows.{Rows}
use Rattle.dx_codec.specs.Blocks.{block_bytes, FitsBlock}
use Rattle.dx_codec.specs.Reading.{◌>>=◌, whole, read_block}
use Rattle.dx_history.specs.declared.fault.HistoryFault.{HistoryFault}
use Rattle.dx_history.specs.declared.fault.HistoryFault.TheVariants.{Failed, Bad, NoMemory}

-- the place of a node's row at a height
abbrev pub place_of : ℕ → ℕ → RowKey
place_of node height = record { node = node; height = height }

-- a row that is there is just the bytes of a block
pub record IsRowOf (row : Option (List ℕ)) (b : Block) : Type 0 where
  pub fits : FitsBlock b
  pub bytes : row ≡ Some (block_bytes b)

-- the rows keep a block for a node at a height
abbrev pub Keeps : Rows → ℕ → ℕ → Block → Type 0
Keeps rows node height b = IsRowOf (map.get rows (place_of node height)) b

-- all numbers are bytes
abbrev pub are_bytes : List ℕ → Bool
are_bytes bytes = list_all (λ n. nat_lt n 256) bytes

-- the block that bytes are read as, if they are read; other numbers are no block's
abbrev pub block_in : List ℕ → Option Block
block_in bytes = if are_bytes bytes then whole read_block bytes else None

-- the block that a row is read as, if it is there and is read
abbrev pub block_of : Option (List ℕ) → Option Block
block_of row = row >>= block_in

-- the block that the rows give for a node at a height
abbrev pub block_at : Rows → ℕ → ℕ → Option Block
block_at rows node height = block_of (map.get rows (place_of node height))

-- a good answer is that block, and a bad one comes where there is none
abbrev pub Tells : Result Block HistoryFault → Option Block → Type 0
Tells (Ok b) block = block ≡ Some b
Tells (Err Failed) block = Unit {0}
Tells (Err Bad) block = block ≡ None
Tells (Err NoMemory) block = Unit {0}
