-- The rows of a node above the state from which it has resumed.
use Rattle.std.proofs.Common.{◌≡◌, ℕ, zero, suc, ◌+◌, ◌-◌, ◌<◌, Bool, true, false, cond, ◌==◌, List, [], ◌∷◌, ◌++◌, length, slice_get, Option, Some, None, Result, Ok, Err, option_map, refl, ap, subst, ◌∙◌, arith}
use Rattle.std.specs.Prelude.{nat_le, is_ok}
use Rattle.std.specs.List.{AllByRecursion}
use Rattle.std.specs.Str.{bytes_eq}
use Rattle.std.specs.FinMap as map
use Rattle.std.proofs.lemmas.Bool.{eqb-true, eq-eqb}
use Rattle.std.proofs.lemmas.Bool.Decides.{nat_tests}
use Rattle.std.proofs.lemmas.Slice.Eq.{bytes_eq-Decides}
use Rattle.dx_types.specs.declared.Genesis.{Genesis}
use Rattle.dx_types.specs.declared.Block.{Block}
use Rattle.dx_types.specs.declared.Bad.{Bad}
use Rattle.dx_spec.specs.Step.{fail_as}
use Rattle.dx_spec.specs.State.{State}
use Rattle.dx_spec.specs.Blocks.{Applied, block_step, fold_from}
use Rattle.dx_io.specs.Rows.{Rows, row_count}
use Rattle.dx_codec.specs.Blocks.{block_bytes, FitsBlock}
use Rattle.dx_codec.specs.Genesis.{digest_of}
use Rattle.dx_history.specs.Rows.{place_of}
use Rattle.dx_history.specs.Chains.{Unkept, BadAt, OtherGenesis, kept_from, first_fault}
use Rattle.dx_history.proofs.Climbing.{block_height, fold_height}
use Rattle.dx_history.proofs.Growing.{own_row}
use Rattle.dx_history.proofs.Starting.{blocks_read}
use Rattle.dx_node.specs.Resumes.{AheadOf, Broken, chain_above, resumable, HasRowsAbove}
use Rattle.dx_node.proofs.Resumed.{none_before}

-- ---- what is read

not_failed : (r : Result (List Block) Unkept) (bs : List Block) → fail_as {D = Unkept} Broken r ≡ Ok bs → r ≡ Ok bs
not_failed (Ok cs) bs e = (let same : cs ≡ bs = cc in ap Ok same)
not_failed (Err unkept) bs e = absurd (cc)

not_ahead : (t : Bool) (count : ℕ) (r : Result (List Block) Unkept) (bs : List Block) → cond t (Err (AheadOf count)) (fail_as Broken r) ≡ Ok bs → r ≡ Ok bs
not_ahead true count r bs e = absurd (cc)
not_ahead false count r bs e = not_failed r bs e

digest_there : (g : Genesis) (row : Option (List ℕ)) → first_fault g row ≡ None → row ≡ Some (digest_of g)
digest_there g None e = absurd (cc)
digest_there g (Some row) e = go (bytes_eq row (digest_of g)) refl e
  where
    other : (t : Bool) → cond t (Some (OtherGenesis row)) (Some (BadAt 0)) ≡ None → Some row ≡ Some (digest_of g)
    other true f = absurd (cc)
    other false f = absurd (cc)

    go : (t : Bool) → bytes_eq row (digest_of g) ≡ t → cond t None (cond (length row == 32) (Some (OtherGenesis row)) (Some (BadAt 0))) ≡ None → Some row ≡ Some (digest_of g)
    go true i f = ap (λ (xs : List ℕ). Some xs) ((bytes_eq-Decides row (digest_of g)).0 i)
    go false i f = other (length row == 32) f

within : (bs : List Block) (n : ℕ) (b : Block) → slice_get bs n ≡ Some b → n < length bs
within [] n b e = absurd (cc)
within (x ∷ bs) zero b e = omega arith
within (x ∷ bs) (suc n) b e = let k = within bs n b e in omega (arith, k)

-- a node that resumes has the rows of its blocks
pub rows_above_read : (rows : Rows) (node : ℕ) (g : Genesis) (s : State) (bs : List Block) → resumable g s rows node ≡ Ok bs → HasRowsAbove rows node g s bs
unfolding resumable
rows_above_read rows node g s bs e =
    let count = row_count rows node in
    let above = not_ahead (nat_le count s.clock.height) count (chain_above g s rows node count) bs e in
    let p = none_before (first_fault g (map.get rows (place_of node 0))) (kept_from s rows node (s.clock.height + 1) (count - (s.clock.height + 1))) bs above in
    let r = blocks_read s rows node (s.clock.height + 1) (count - (s.clock.height + 1)) bs p.1 in
    let long = r.long in
    record {
      first = digest_there g (map.get rows (place_of node 0)) p.0;
      each = λ n b i. let k = within bs n b i in r.each n (omega (arith, k, long)) ∙ ap (option_map block_bytes) i;
    }

-- what is known of the blocks from which a node resumes: they lead to a state, the last row is that of the last one, and
-- each is that of its bytes alone
pub record Reaches (rows : Rows) (node : ℕ) (s : State) (bs : List Block) : Type 0 where
  pub state : State
  pub leads : fold_from s bs ≡ Ok state
  pub count : row_count rows node ≡ s.clock.height + length bs + 1
  pub fits : AllByRecursion FitsBlock bs

ahead_not : (t : Bool) (count : ℕ) (r : Result (List Block) Unkept) (bs : List Block) → cond t (Err (AheadOf count)) (fail_as Broken r) ≡ Ok bs → t ≡ false
ahead_not true count r bs e = absurd (cc)
ahead_not false count r bs e = refl

good_state : (r : Result State Bad) → is_ok r ≡ true → (t : State) × (r ≡ Ok t)
good_state (Ok t) e = (t, refl)
good_state (Err bad) e = absurd (cc)

pub reaches : (rows : Rows) (node : ℕ) (g : Genesis) (s : State) (bs : List Block) → resumable g s rows node ≡ Ok bs → Reaches rows node s bs
unfolding resumable
reaches rows node g s bs e =
    let count = row_count rows node in
    let test = ahead_not (nat_le count s.clock.height) count (chain_above g s rows node count) bs e in
    let above = not_ahead (nat_le count s.clock.height) count (chain_above g s rows node count) bs e in
    let p = none_before (first_fault g (map.get rows (place_of node 0))) (kept_from s rows node (s.clock.height + 1) (count - (s.clock.height + 1))) bs above in
    let r = blocks_read s rows node (s.clock.height + 1) (count - (s.clock.height + 1)) bs p.1 in
    let t = good_state (fold_from s bs) r.good in
    record { state = t.0; leads = t.1; count = counted count s.clock.height (length bs) test r.long; fits = r.fits }
  where
    counted : (count height long : ℕ) → nat_le count height ≡ false → long ≡ count - (height + 1) → count ≡ height + long + 1
    counted count height long t e = grind (arith, nat_tests, t, e)

-- ---- what grows

at_end : (bs : List Block) (b c : Block) → slice_get (bs ++ b ∷ []) (length bs) ≡ Some c → b ≡ c
at_end [] b c e = cc
at_end (x ∷ bs) b c e = at_end bs b c e

elsewhere : (bs : List Block) (b c : Block) (n : ℕ) → (n ≡ length bs → ⊥) → slice_get (bs ++ b ∷ []) n ≡ Some c → slice_get bs n ≡ Some c
elsewhere [] b c zero apart e = absurd (apart refl)
elsewhere [] b c (suc n) apart e = absurd (cc)
elsewhere (x ∷ bs) b c zero apart e = e
elsewhere (x ∷ bs) b c (suc n) apart e = elsewhere bs b c n (λ i. apart (ap suc i)) e

-- a row of its own at another height leaves the first
first_stays : (rows : Rows) (node height : ℕ) (bytes : List ℕ) (row : List ℕ) → 0 < height → map.get rows (place_of node 0) ≡ Some row
    → map.get (map.insert rows (place_of node height) bytes) (place_of node 0) ≡ Some row
first_stays rows node height bytes row some e =
    own_row rows node height bytes 0 ∙ ap (λ (t : Bool). cond t (Some bytes) (map.get rows (place_of node 0))) (other height some) ∙ e
  where
    other : (n : ℕ) → 0 < n → (0 == n) ≡ false
    other n lt = grind (arith, nat_tests, lt)

unequal : (n m : ℕ) → (n == m) ≡ false → n ≡ m → ⊥
unequal n m e same = let i : (n == m) ≡ true = eq-eqb n m same in cc

at_height : (rows : Rows) (node base height n : ℕ) (bs : List Block) (b c : Block) → height ≡ base + length bs + 1
    → ((n : ℕ) (x : Block) → slice_get bs n ≡ Some x → map.get rows (place_of node (base + 1 + n)) ≡ Some (block_bytes x))
    → slice_get (bs ++ b ∷ []) n ≡ Some c → (q : Bool) → (base + 1 + n == height) ≡ q
    → cond q (Some (block_bytes b)) (map.get rows (place_of node (base + 1 + n))) ≡ Some (block_bytes c)
at_height rows node base height n bs b c next each i true e =
    let k = eqb-true (base + 1 + n) height e in
    let at : n ≡ length bs = omega (arith, k, next) in
    let same : b ≡ c = at_end bs b c (subst (λ (m : ℕ). slice_get (bs ++ b ∷ []) m ≡ Some c) at i) in
    ap (λ (x : Block). Some (block_bytes x)) same
at_height rows node base height n bs b c next each i false e =
    each n c (elsewhere bs b c n (λ at. unequal (base + 1 + n) height e (omega (arith, at, next))) i)

-- and with a block that is good behind them it has the rows of the longer list
pub rows_above_grow : (rows : Rows) (node : ℕ) (g : Genesis) (s t : State) (bs : List Block) (b : Block) (r : Applied) → HasRowsAbove rows node g s bs
    → fold_from s bs ≡ Ok t → block_step t b ≡ Ok r → HasRowsAbove (map.insert rows (place_of node b.height) (block_bytes b)) node g s (bs ++ b ∷ [])
rows_above_grow rows node g s t bs b r h e good =
    let up = fold_height s bs t e in
    let next = (block_height t b r good).0 in
    let at : b.height ≡ s.clock.height + length bs + 1 = omega (arith, up, next) in
    record {
      first = first_stays rows node b.height (block_bytes b) (digest_of g) (omega (arith, next)) h.first;
      each = λ n c i. own_row rows node b.height (block_bytes b) (s.clock.height + 1 + n)
          ∙ at_height rows node s.clock.height b.height n bs b c at h.each i (s.clock.height + 1 + n == b.height) refl;
    }
