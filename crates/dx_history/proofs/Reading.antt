-- What a row is read as, and what is known of the rows.
use Rattle.std.proofs.Common.{◌≡◌, ℕ, Bool, true, false, cond, List, Option, Some, None, refl, sym, ap, subst, ◌∙◌}
use Rattle.std.specs.Prelude.{◌≢◌, Result, Ok, Err, IfOk, IsErrOf}
use Rattle.std.specs.FinMap as map
use Rattle.dx_types.specs.declared.Block.{Block}
use Rattle.dx_io.specs.declared.row_key.RowKey.{RowKey}
use Rattle.dx_io.specs.Rows.{Rows, SameRows, FindsRow}
use Rattle.dx_codec.specs.Blocks.{block_bytes, FitsBlock}
use Rattle.dx_codec.specs.declared.fault.CodecFault.{CodecFault}
use Rattle.dx_codec.specs.declared.fault.CodecFault.TheVariants as codec
use Rattle.dx_codec.specs.Reading.{whole, read_block, Reads}
use Rattle.dx_codec.proofs.Formats.{same_value, whole_takes, whole_again}
use Rattle.dx_codec.proofs.BlockFormats.{block_format}
use Rattle.dx_history.specs.declared.fault.HistoryFault.{HistoryFault}
use Rattle.dx_history.specs.declared.fault.HistoryFault.TheVariants.{Failed, Bad, NoMemory}
use Rattle.dx_history.specs.Rows.{IsRowOf, are_bytes, block_in, block_of, Tells}
use Rattle.dx_history.proofs.Bytewise.{block_are, known}

-- rows stay as they are where nothing is done
pub same_rows : (rows : Option Rows) → SameRows rows rows
same_rows None = tt
same_rows (Some rows) = refl

-- what a keeper that tells its rows has found is a row of these
pub known_row : (known : Option Rows) (key : RowKey) (row : Option (List ℕ)) → FindsRow known key row → (rows : Rows) → known ≡ Some rows → row ≡ map.get rows key
known_row None key row h rows e = absurd (cc)
known_row (Some told) key row h rows e = h ∙ ap (λ (r : Rows). map.get r key) (same_value told rows e)

-- bytes of a block are read as that block
pub read_as : (b : Block) (bytes : List ℕ) → FitsBlock b → bytes ≡ block_bytes b → block_in bytes ≡ Some b
read_as b bytes fits e =
    ap block_in e ∙ ap (λ (t : Bool). cond t (whole read_block (block_bytes b)) None) (block_are b).test ∙ whole_again block_format b fits

-- and what is read as a block is its bytes
pub read_from : (bytes : List ℕ) (b : Block) → block_in bytes ≡ Some b → FitsBlock b × (bytes ≡ block_bytes b)
read_from bytes b e = go (are_bytes bytes) refl e
  where
    go : (t : Bool) → are_bytes bytes ≡ t → cond t (whole read_block bytes) None ≡ Some b → FitsBlock b × (bytes ≡ block_bytes b)
    go true i f = let taken = whole_takes block_format bytes b (known bytes i) f in (taken.1, taken.0)
    go false i f = absurd (cc)

-- bytes that are no block's are read as none
pub read_none : (bytes : List ℕ) → ((b : Block) → FitsBlock b → bytes ≢ block_bytes b) → block_in bytes ≡ None
read_none bytes none = go (block_in bytes) refl
  where
    go : (read : Option Block) → block_in bytes ≡ read → block_in bytes ≡ None
    go None e = e
    go (Some b) e = let t = read_from bytes b e in absurd (none b t.0 t.1)

-- so a reader's answer is what the bytes are read as, where it finds just the blocks whose bytes they are
pub decided : (r : Result Block CodecFault) (bytes : List ℕ) → IfOk r (λ b. FitsBlock b × (bytes ≡ block_bytes b))
    → (r ≡ Err codec.Malformed → (b : Block) → FitsBlock b → bytes ≢ block_bytes b) → Reads (λ b. b) r (block_in bytes)
decided (Ok b) bytes found none = read_as b bytes found.0 found.1
decided (Err codec.Malformed) bytes found none = read_none bytes (none refl)
decided (Err codec.NoMemory) bytes found none = tt

-- a row that is a block's bytes gives that block
pub gives_block : (row : Option (List ℕ)) (b : Block) → IsRowOf row b → block_of row ≡ Some b
gives_block row b h = ap block_of h.bytes ∙ read_as b (block_bytes b) h.fits refl

-- and a block is given by a row that is its bytes
pub given_by : (row : Option (List ℕ)) (b : Block) → block_of row ≡ Some b → IsRowOf row b
given_by None b e = absurd (cc)
given_by (Some bytes) b e = let taken = read_from bytes b e in record { fits = taken.0; bytes = ap (λ (xs : List ℕ). Some xs) taken.1 }

-- where a row is a block's bytes a good answer is that block
pub only_told : (r : Result Block HistoryFault) (row : Option (List ℕ)) (b : Block) → Tells r (block_of row) → IsRowOf row b → IfOk r (λ kept. kept ≡ b)
only_told (Ok kept) row b told h = same_value kept b (sym told ∙ gives_block row b h)
only_told (Err fault) row b told h = tt

-- and the answer is not bad
pub not_bad : (r : Result Block HistoryFault) (row : Option (List ℕ)) (b : Block) → Tells r (block_of row) → IsErrOf r Bad → IsRowOf row b → ⊥
not_bad (Ok kept) row b told bad h = cc
not_bad (Err Failed) row b told bad h = cc
not_bad (Err Bad) row b told bad h = let e : None ≡ Some b = sym told ∙ gives_block row b h in cc
not_bad (Err NoMemory) row b told bad h = cc

-- the same of what a keeper has found, where it tells its rows
pub only_known : (r : Result Block HistoryFault) (known : Option Rows) (key : RowKey) (row : Option (List ℕ)) → FindsRow known key row → Tells r (block_of row)
    → (rows : Rows) → known ≡ Some rows → (b : Block) → IsRowOf (map.get rows key) b → IfOk r (λ kept. kept ≡ b)
only_known r known key row found told rows e b h = only_told r row b told (subst (λ (o : Option (List ℕ)). IsRowOf o b) (sym (known_row known key row found rows e)) h)

-- and of a bad answer
pub not_bad_known : (r : Result Block HistoryFault) (known : Option Rows) (key : RowKey) (row : Option (List ℕ)) → FindsRow known key row → Tells r (block_of row)
    → (rows : Rows) → known ≡ Some rows → IsErrOf r Bad → (b : Block) → IsRowOf (map.get rows key) b → ⊥
not_bad_known r known key row found told rows e bad b h = not_bad r row b told bad (subst (λ (o : Option (List ℕ)). IsRowOf o b) (sym (known_row known key row found rows e)) h)
