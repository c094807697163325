-- The chain of blocks that the rows of a node are, where they are just those of a good one.
use Rattle.std.proofs.Common.{◌≡◌, ℕ, suc, ◌+◌, ◌-◌, Bool, true, false, cond, ◌==◌, List, [], ◌∷◌, length, slice_get, Option, Some, None, Result, Ok, Err, option_map, refl, ap, ◌∙◌, arith}
use Rattle.std.specs.Prelude.{ok_or}
use Rattle.std.specs.List.{AllByRecursion}
use Rattle.std.specs.Str.{bytes_eq}
use Rattle.std.proofs.lemmas.Bool.Decides.{nat_tests}
use Rattle.std.proofs.lemmas.Slice.Eq.{bytes_eq-Decides}
use Rattle.std.specs.FinMap as map
use Rattle.dx_types.specs.declared.Block.{Block}
use Rattle.dx_types.specs.declared.Genesis.{Genesis}
use Rattle.dx_types.specs.declared.Bad.{Bad}
use Rattle.dx_spec.specs.Step.{◌>>=◌}
use Rattle.dx_spec.specs.State.{State, genesis_state}
use Rattle.dx_spec.specs.Blocks.{Applied, block_step, fold_from, fold_blocks}
use Rattle.dx_io.specs.Rows.{Rows, row_count}
use Rattle.dx_codec.specs.Blocks.{block_bytes, FitsBlock}
use Rattle.dx_codec.specs.Genesis.{digest_of}
use Rattle.dx_history.specs.Rows.{place_of, block_at}
use Rattle.dx_history.specs.Chains.{Unkept, BadAt, OtherGenesis, AreRowsOf, behind, after_good, good_on, kept_from, first_fault, first_of, kept}
use Rattle.dx_history.proofs.Reading.{gives_block}

-- a block that is there and is good goes before those above it
one_kept : (rows : Rows) (node done : ℕ) (bs : List Block) (b : Block) (s t : State) (r : Result Applied Bad) → block_step s b ≡ r
    → (r >>= λ after. fold_from after.0 bs) ≡ Ok t → block_at rows node (suc done) ≡ Some b
    → ((u : State) → fold_from u bs ≡ Ok t → kept_from u rows node (suc (suc done)) (length bs) ≡ Ok bs)
    → kept_from s rows node (suc done) (suc (length bs)) ≡ Ok (b ∷ bs)
unfolding kept_from
one_kept rows node done bs b s t (Ok after) step e here above =
    ap (λ (o : Option Block). ok_or (good_on s o) (BadAt (suc done)) >>= λ k. behind k.0 (kept_from k.1 rows node (suc done + 1) (length bs))) here
    ∙ ap (λ (q : Result Applied Bad). ok_or (option_map {T = State} {U = Block × State} (λ u. (b, u)) (after_good q)) (BadAt (suc done)) >>= λ k. behind k.0 (kept_from k.1 rows node (suc done + 1) (length bs))) step
    ∙ ap (λ (h : ℕ). behind b (kept_from after.0 rows node h (length bs))) (next done)
    ∙ ap (behind b) (above after.0 e)
  where
    next : (n : ℕ) → suc n + 1 ≡ suc (suc n)
    next n = omega arith
one_kept rows node done bs b s t (Err bad) step e here above = absurd (cc)

-- so the rows above a good chain's front are the rest of it
rest_kept : (rows : Rows) (node : ℕ) (g : Genesis) (all : List Block) → AreRowsOf rows node g all → (bs : List Block) (done : ℕ)
    → ((n : ℕ) → slice_get all (done + n) ≡ slice_get bs n) → AllByRecursion FitsBlock bs → (s t : State) → fold_from s bs ≡ Ok t
    → kept_from s rows node (suc done) (length bs) ≡ Ok bs
unfolding kept_from fold_from
rest_kept rows node g all are [] done at fits s t e = refl
rest_kept rows node g all are (b ∷ bs) done at fits s t e =
    let zero_on : done ≡ done + 0 = omega arith in
    let here : slice_get all done ≡ Some b = ap (slice_get all) zero_on ∙ at 0 in
    let row : map.get rows (place_of node (suc done)) ≡ Some (block_bytes b) = are (suc done) ∙ ap (option_map block_bytes) here in
    one_kept rows node done bs b s t (block_step s b) refl e (gives_block _ b (record { fits = fits.0; bytes = row }))
    (λ u f. rest_kept rows node g all are bs (suc done) (λ n. let on : suc done + n ≡ done + suc n = omega arith in ap (slice_get all) on ∙ at (suc n)) fits.1 u t f)

same_bytes : (xs : List ℕ) → bytes_eq xs xs ≡ true
same_bytes xs = (bytes_eq-Decides xs xs).1 refl

no_fault : (g : Genesis) → first_fault g (Some (digest_of g)) ≡ None
no_fault g = ap (λ (t : Bool). cond t None (cond (length (digest_of g) == 32) (Some (OtherGenesis (digest_of g))) (Some (BadAt 0)))) (same_bytes (digest_of g))

-- rows that are just those of a good chain are read as that chain
pub chain_kept : (rows : Rows) (node : ℕ) (g : Genesis) (bs : List Block) (s : State) → AreRowsOf rows node g bs → AllByRecursion FitsBlock bs
    → fold_blocks g bs ≡ Ok s → row_count rows node ≡ length bs + 1 → kept g rows node ≡ Ok bs
unfolding kept
chain_kept rows node g bs s are fits e count =
    let some : (length bs + 1 == 0) ≡ false = more (length bs) in
    let less : length bs + 1 - 1 ≡ length bs = omega arith in
    ap (λ (n : ℕ). cond (n == 0) (Ok []) (first_of (first_fault g (map.get rows (place_of node 0))) (kept_from (genesis_state g) rows node 1 (n - 1)))) count
    ∙ ap (λ (t : Bool). cond t (Ok []) (first_of (first_fault g (map.get rows (place_of node 0))) (kept_from (genesis_state g) rows node 1 (length bs + 1 - 1)))) some
    ∙ ap (λ (row : Option (List ℕ)). first_of (first_fault g row) (kept_from (genesis_state g) rows node 1 (length bs + 1 - 1))) (are 0)
    ∙ ap (λ (f : Option Unkept). first_of f (kept_from (genesis_state g) rows node 1 (length bs + 1 - 1))) (no_fault g)
    ∙ ap (kept_from (genesis_state g) rows node 1) less
    ∙ rest_kept rows node g bs are bs 0 (λ n. let on : 0 + n ≡ n = omega arith in ap (slice_get bs) on) fits (genesis_state g) s e
  where
    more : (n : ℕ) → (n + 1 == 0) ≡ false
    more n = grind (arith, nat_tests)
