-- Which chain of blocks the rows of a node are.
use Rattle.std.specs.Prelude.{◌≡◌, ℕ, IsOk, zero, suc, ◌+◌, ◌-◌, ◌==◌, List, [], ◌∷◌, length, Option, Some, None, Result, Ok, Err, if◌then◌else◌, ok_or, option_map, slice_get}
use Rattle.std.specs.Str.{bytes_eq}
use Rattle.std.specs.List.{AllByRecursion}
use Rattle.std.specs.FinMap as map
use Rattle.dx_types.specs.declared.Block.{Block}
use Rattle.dx_types.specs.declared.Genesis.{Genesis}
use Rattle.dx_types.specs.declared.Bad.{Bad}
use Rattle.dx_spec.specs.Step.{◌>>=◌}
use Rattle.dx_spec.specs.State.{State, genesis_state}
use Rattle.dx_spec.specs.Blocks.{Applied, block_step, fold_blocks}
use Rattle.dx_io.specs.Rows.{Rows, row_count}
use Rattle.dx_codec.specs.Blocks.{block_bytes, FitsBlock}
use Rattle.dx_codec.specs.Genesis.{digest_of}
use Rattle.dx_history.specs.Rows.{place_of, block_at}

-- the row of a chain at a height: the genesis's digest at 0, and above it the bytes of each block
abbrev pub row_at : Genesis → List Block → ℕ → Option (List ℕ)
row_at g bs zero = Some (digest_of g)
row_at g bs (suc number) = option_map block_bytes (slice_get bs number)

-- the rows of a node are just those of a chain
abbrev pub AreRowsOf : Rows → ℕ → Genesis → List Block → Type 0
AreRowsOf rows node g bs = (height : ℕ) → map.get rows (place_of node height) ≡ row_at g bs height

-- why rows are no chain of a genesis: the first height at which they are none, or the digest of another genesis
pub data Unkept : Type 0 where
  BadAt : (height : ℕ) → Unkept
  OtherGenesis : (digest : List ℕ) → Unkept

-- what is told of a chain, with one more block in front
abbrev pub behind : Block → Result (List Block) Unkept → Result (List Block) Unkept
behind b (Ok bs) = Ok (b ∷ bs)
behind b (Err unkept) = Err unkept

-- the state after a block that was good
abbrev pub after_good : Result Applied Bad → Option State
after_good (Ok told) = Some told.0
after_good (Err bad) = None

-- a block that is there and is good on a state, and the state after it
abbrev pub good_on : State → Option Block → Option (Block × State)
good_on s None = None
good_on s (Some b) = option_map (λ after. (b, after)) (after_good (block_step s b))

-- so many blocks of the rows from a height on, each good on the state before it, or the first height where none is
unfoldable pub kept_from : State → Rows → ℕ → ℕ → ℕ → Result (List Block) Unkept
kept_from s rows node height zero = Ok []
kept_from s rows node height (suc more) =
    ok_or (good_on s (block_at rows node height)) (BadAt height) >>= λ kept. behind kept.0 (kept_from kept.1 rows node (height + 1) more)

-- why row 0 is not the digest of the genesis: it is missing, or of another length than 32 bytes, or of another genesis
abbrev pub first_fault : Genesis → Option (List ℕ) → Option Unkept
first_fault g None = Some (BadAt 0)
first_fault g (Some row) =
    if bytes_eq row (digest_of g) then None
    else if length row == 32 then Some (OtherGenesis row)
    else Some (BadAt 0)

-- a fault of row 0 goes before what is told of the rows above it
abbrev pub first_of : Option Unkept → Result (List Block) Unkept → Result (List Block) Unkept
first_of None above = above
first_of (Some unkept) above = Err unkept

-- the chain of a node: none where it has no rows; else row 0 is the genesis's digest, and each row above it, as many as there are, is a good block
unfoldable pub kept : Genesis → Rows → ℕ → Result (List Block) Unkept
kept g rows node =
    if row_count rows node == 0 then Ok []
    else first_of (first_fault g (map.get rows (place_of node 0))) (kept_from (genesis_state g) rows node 1 (row_count rows node - 1))

-- the rows behind a start: a node that had none has the digest of its genesis as its first row
abbrev pub begun : Rows → ℕ → Genesis → Rows
begun rows node g = if row_count rows node == 0 then map.insert rows (place_of node 0) (digest_of g) else rows

-- the rows of a node are just those of a chain of blocks that are good from a genesis on and have bytes
pub record IsChain (rows : Rows) (node : ℕ) (g : Genesis) (bs : List Block) : Type 0 where
  -- its rows are just those
  pub rows_are : AreRowsOf rows node g bs
  -- so many are counted
  pub count : row_count rows node ≡ length bs + 1
  -- each block is that of its bytes alone
  pub fits : AllByRecursion FitsBlock bs
  -- all are good
  pub good : IsOk (fold_blocks g bs)
