-- The rows of a chain when one more row is set.
use Rattle.std.proofs.Common.{◌≡◌, ℕ, zero, suc, ◌+◌, Bool, true, false, cond, ◌==◌, ◌&&◌, List, [], ◌∷◌, ◌++◌, length, slice_get, Option, Some, option_map, refl, sym, ap, ◌∙◌, arith}
use Rattle.std.proofs.lemmas.Bool.{eqb-true}
use Rattle.std.specs.declared.cmp.Ordering.{Ordering}
use Rattle.std.specs.declared.cmp.Ordering.TheVariants.{Less, Equal, Greater}
use Rattle.std.specs.Ordering.{nat_cmp, ordering_then, is_eq, eq_by_cmp}
use Rattle.std.specs.Cmp.{unsigned_tied}
use Rattle.std.specs.FinMap as map
use Rattle.dx_types.specs.declared.Block.{Block}
use Rattle.dx_types.specs.declared.Genesis.{Genesis}
use Rattle.dx_io.specs.declared.row_key.RowKey.{RowKey}
use Rattle.dx_io.specs.RowKeys.{row_cmp, row_total}
use Rattle.dx_io.specs.Rows.{Rows}
use Rattle.dx_codec.specs.Blocks.{block_bytes}
use Rattle.dx_history.specs.Rows.{place_of}
use Rattle.dx_history.specs.Chains.{row_at, AreRowsOf}
use Rattle.dx_history.proofs.Rising.{itself}

then_tied : (x y : Ordering) → is_eq (ordering_then x y) ≡ (is_eq x && is_eq y)
then_tied Less y = refl
then_tied Equal y = refl
then_tied Greater y = refl

-- two places are one exactly where node and height are
pub place_tied : (a b : RowKey) → eq_by_cmp row_cmp a b ≡ ((a.node == b.node) && (a.height == b.height))
place_tied a b =
    then_tied (nat_cmp a.node b.node) (nat_cmp a.height b.height)
    ∙ ap (λ (t : Bool). t && is_eq (nat_cmp a.height b.height)) (unsigned_tied a.node b.node)
    ∙ ap (λ (t : Bool). (a.node == b.node) && t) (unsigned_tied a.height b.height)

-- one behind a list stands at its length
at_end : {X : Type 0} (xs : List X) (x : X) → slice_get (xs ++ x ∷ []) (length xs) ≡ Some x
at_end [] x = refl
at_end (y ∷ ys) x = at_end ys x

-- and at other places it is as it was
elsewhere : {X : Type 0} (xs : List X) (x : X) (n : ℕ) → (n ≡ length xs → ⊥) → slice_get (xs ++ x ∷ []) n ≡ slice_get xs n
elsewhere [] x zero apart = absurd (apart refl)
elsewhere [] x (suc n) apart = refl
elsewhere (y ∷ ys) x zero apart = refl
elsewhere (y ∷ ys) x (suc n) apart = elsewhere ys x n (λ e. apart (ap suc e))

not_same : (m n : ℕ) → (m == n) ≡ false → m ≡ n → ⊥
not_same m n e same = let i : (n == n) ≡ false = ap (λ (k : ℕ). k == n) (sym same) ∙ e in let j : (n == n) ≡ true = itself n in cc

-- the rows of a chain with one more block at its end
longer : (g : Genesis) (bs : List Block) (b : Block) (height : ℕ) (t : Bool) → (height == length bs + 1) ≡ t
    → cond t (Some (block_bytes b)) (row_at g bs height) ≡ row_at g (bs ++ b ∷ []) height
longer g bs b zero true e = absurd (let i = eqb-true 0 (length bs + 1) e in omega (arith, i))
longer g bs b zero false e = refl
longer g bs b (suc n) true e =
    let i : n ≡ length bs = (let j = eqb-true (suc n) (length bs + 1) e in omega (arith, j)) in
    ap (option_map block_bytes) (sym (at_end bs b)) ∙ ap (λ (k : ℕ). option_map block_bytes (slice_get (bs ++ b ∷ []) k)) (sym i)
longer g bs b (suc n) false e =
    ap (option_map block_bytes) (sym (elsewhere bs b n (λ i. not_same (suc n) (length bs + 1) e (omega (arith, i)))))

-- what a node has at a height behind a row of its own
pub own_row : (rows : Rows) (node height : ℕ) (bytes : List ℕ) (at : ℕ)
    → map.get (map.insert rows (place_of node height) bytes) (place_of node at) ≡ cond (at == height) (Some bytes) (map.get rows (place_of node at))
own_row rows node height bytes at =
    map.get-insert row_total rows (place_of node height) bytes (place_of node at)
    ∙ ap (λ (t : Bool). cond t (Some bytes) (map.get rows (place_of node at))) (place_tied (place_of node at) (place_of node height))
    ∙ ap (λ (t : Bool). cond (t && (at == height)) (Some bytes) (map.get rows (place_of node at))) (itself node)

-- and behind one of another node
pub other_row : (rows : Rows) (node other height : ℕ) (bytes : List ℕ) → (other == node) ≡ false → (at : ℕ)
    → map.get (map.insert rows (place_of node height) bytes) (place_of other at) ≡ map.get rows (place_of other at)
other_row rows node other height bytes differ at =
    map.get-insert row_total rows (place_of node height) bytes (place_of other at)
    ∙ ap (λ (t : Bool). cond t (Some bytes) (map.get rows (place_of other at))) (place_tied (place_of other at) (place_of node height))
    ∙ ap (λ (t : Bool). cond (t && (at == height)) (Some bytes) (map.get rows (place_of other at))) differ

-- a block that is put at the next height makes the rows those of the longer chain
pub grown : (rows : Rows) (node : ℕ) (g : Genesis) (bs : List Block) (b : Block) → AreRowsOf rows node g bs → b.height ≡ length bs + 1
    → AreRowsOf (map.insert rows (place_of node b.height) (block_bytes b)) node g (bs ++ b ∷ [])
grown rows node g bs b are next height =
    own_row rows node b.height (block_bytes b) height
    ∙ ap (λ (o : Option (List ℕ)). cond (height == b.height) (Some (block_bytes b)) o) (are height)
    ∙ ap (λ (k : ℕ). cond (height == k) (Some (block_bytes b)) (row_at g bs height)) next
    ∙ longer g bs b height (height == length bs + 1) refl

-- and leaves those of every other node
pub apart_from : (rows : Rows) (node other height : ℕ) (bytes : List ℕ) (g : Genesis) (bs : List Block) → (other == node) ≡ false → AreRowsOf rows other g bs
    → AreRowsOf (map.insert rows (place_of node height) bytes) other g bs
apart_from rows node other height bytes g bs differ are at = other_row rows node other height bytes differ at ∙ are at
