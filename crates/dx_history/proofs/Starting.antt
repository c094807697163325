-- Rows that are read as a chain are just those of it, behind a start and after each commit.
use Rattle.std.proofs.Common.{◌≡◌, ℕ, zero, suc, ◌+◌, ◌-◌, ◌<◌, ◌≤◌, Bool, true, false, cond, ◌==◌, nat_lt, List, [], ◌∷◌, ◌++◌, length, slice_get, Option, Some, None, Result, Ok, Err, option_map, refl, sym, ap, subst, ◌∙◌, arith}
use Rattle.std.specs.Prelude.{is_ok, is_some, ok_or}
use Rattle.std.specs.List.{AllByRecursion}
use Rattle.std.specs.Str.{bytes_eq}
use Rattle.std.specs.FinMap as map
use Rattle.std.proofs.lemmas.Bool.{eqb-true, ltb-false}
use Rattle.std.proofs.lemmas.Bool.Decides.{nat_tests}
use Rattle.std.proofs.lemmas.Slice.Eq.{bytes_eq-Decides}
use Rattle.std.proofs.lemmas.Option.{slice_get_past}
use Rattle.dx_types.specs.declared.OrderId.{OrderId}
use Rattle.dx_types.specs.declared.Block.{Block}
use Rattle.dx_types.specs.declared.Genesis.{Genesis}
use Rattle.dx_types.specs.declared.Bad.{Bad}
use Rattle.dx_spec.specs.Step.{◌>>=◌}
use Rattle.dx_spec.specs.State.{State, genesis_state}
use Rattle.dx_spec.specs.Blocks.{Applied, block_step, fold_from, fold_blocks}
use Rattle.dx_spec.proofs.Each.{all_push}
use Rattle.dx_io.specs.Rows.{Rows, row_count}
use Rattle.dx_codec.specs.Blocks.{block_bytes, FitsBlock}
use Rattle.dx_codec.specs.Genesis.{digest_of}
use Rattle.dx_history.specs.Rows.{place_of, block_of, block_at}
use Rattle.dx_history.specs.Chains.{row_at, AreRowsOf, Unkept, BadAt, OtherGenesis, behind, after_good, good_on, kept_from, first_fault, first_of, kept, begun, IsChain}
use Rattle.dx_history.proofs.Reading.{given_by}
use Rattle.dx_history.proofs.Growing.{own_row, other_row, grown, apart_from}
use Rattle.dx_history.proofs.Counting.{same_count, row_there, chain_counted, no_others, no_rows}
use Rattle.dx_spec.proofs.Folds.{fold_more}
use Rattle.dx_history.proofs.Climbing.{block_height, chain_height}
use Rattle.dx_history.proofs.Chained.{chain_kept}

-- ---- a chain is read

is_good : {A E : Type 0} (r : Result A E) → is_ok r ≡ true → (x : A) × (r ≡ Ok x)
is_good (Ok x) e = (x, refl)
is_good (Err error) e = absurd (cc)

pub chain_read : (rows : Rows) (node : ℕ) (g : Genesis) (bs : List Block) → IsChain rows node g bs → kept g rows node ≡ Ok bs
chain_read rows node g bs h = let s = is_good (fold_blocks g bs) h.good in chain_kept rows node g bs s.0 h.rows_are h.fits s.1 h.count

-- ---- what is read is a chain

-- what is known of blocks that are read from a height on, each good on the state before it
pub record IsRead (s : State) (rows : Rows) (node height count : ℕ) (bs : List Block) : Type 0 where
  pub long : length bs ≡ count
  pub fits : AllByRecursion FitsBlock bs
  pub good : is_ok (fold_from s bs) ≡ true
  pub each : (n : ℕ) → n < count → map.get rows (place_of node (height + n)) ≡ option_map block_bytes (slice_get bs n)

one_more : (s u : State) (rows : Rows) (node height more : ℕ) (b : Block) (bs : List Block) (told : List ℕ) (ids : List OrderId) → block_at rows node height ≡ Some b → block_step s b ≡ Ok (u, told, ids)
    → IsRead u rows node (height + 1) more bs → IsRead s rows node height (suc more) (b ∷ bs)
unfolding fold_from
one_more s u rows node height more b bs told ids found step h =
    let row = given_by (map.get rows (place_of node height)) b found in
    record {
      long = ap suc h.long;
      fits = (row.fits, h.fits);
      good = ap (λ (r : Result Applied Bad). is_ok (r >>= λ after. fold_from after.0 bs)) step ∙ h.good;
      each = each row.bytes;
    }
  where
    each : map.get rows (place_of node height) ≡ Some (block_bytes b) → (n : ℕ) → n < suc more → map.get rows (place_of node (height + n)) ≡ option_map block_bytes (slice_get (b ∷ bs) n)
    each row zero lt = let at : height + 0 ≡ height = omega arith in ap (λ (k : ℕ). map.get rows (place_of node k)) at ∙ row
    each row (suc n) lt =
        let at : height + suc n ≡ height + 1 + n = omega arith in
        ap (λ (k : ℕ). map.get rows (place_of node k)) at ∙ h.each n (omega (arith, lt))

read_behind : (s u : State) (rows : Rows) (node height more : ℕ) (b : Block) (bs : List Block) (told : List ℕ) (ids : List OrderId) (rest : Result (List Block) Unkept)
    → block_at rows node height ≡ Some b → block_step s b ≡ Ok (u, told, ids)
    → ((cs : List Block) → rest ≡ Ok cs → IsRead u rows node (height + 1) more cs) → behind b rest ≡ Ok bs → IsRead s rows node height (suc more) bs
read_behind s u rows node height more b bs told ids (Err unkept) found step h e = absurd (cc)
read_behind s u rows node height more b bs told ids (Ok cs) found step h e =
    let same : b ∷ cs ≡ bs = cc in
    subst (IsRead s rows node height (suc more)) same (one_more s u rows node height more b cs told ids found step (h cs refl))

read_step : (s : State) (rows : Rows) (node height more : ℕ) (bs : List Block) (o : Option Block) → block_at rows node height ≡ o
    → ((u : State) (cs : List Block) → kept_from u rows node (height + 1) more ≡ Ok cs → IsRead u rows node (height + 1) more cs)
    → (ok_or (good_on s o) (BadAt height) >>= λ k. behind k.0 (kept_from k.1 rows node (height + 1) more)) ≡ Ok bs → IsRead s rows node height (suc more) bs
read_step s rows node height more bs None found rest e = absurd (cc)
read_step s rows node height more bs (Some b) found rest e = go (block_step s b) refl e
  where
    go : (r : Result Applied Bad) → block_step s b ≡ r
        → (ok_or (option_map {T = State} {U = Block × State} (λ u. (b, u)) (after_good r)) (BadAt height) >>= λ k. behind k.0 (kept_from k.1 rows node (height + 1) more)) ≡ Ok bs
        → IsRead s rows node height (suc more) bs
    go (Err bad) step f = absurd (cc)
    go (Ok after) step f =
        read_behind s after.0 rows node height more b bs after.1 after.2 (kept_from after.0 rows node (height + 1) more) found step (λ cs k. rest after.0 cs k) f

pub blocks_read : (s : State) (rows : Rows) (node height count : ℕ) (bs : List Block) → kept_from s rows node height count ≡ Ok bs → IsRead s rows node height count bs
unfolding kept_from fold_from
blocks_read s rows node height zero bs e =
    let nil : [] ≡ bs = cc in
    subst (IsRead s rows node height 0) nil (record { long = refl; fits = tt; good = refl; each = λ n lt. absurd (omega (arith, lt)) })
blocks_read s rows node height (suc more) bs e =
    read_step s rows node height more bs (block_at rows node height) refl (λ u cs f. blocks_read u rows node (height + 1) more cs f) e

-- row 0 has no fault exactly where it is the digest
digest_read : (g : Genesis) (row : Option (List ℕ)) (above : Result (List Block) Unkept) (bs : List Block) → first_of (first_fault g row) above ≡ Ok bs
    → (row ≡ Some (digest_of g)) × (above ≡ Ok bs)
digest_read g None above bs e = absurd (cc)
digest_read g (Some row) above bs e = go (bytes_eq row (digest_of g)) refl e
  where
    other : (t : Bool) → first_of (cond t (Some (OtherGenesis row)) (Some (BadAt 0))) above ≡ Ok bs → (Some row ≡ Some (digest_of g)) × (above ≡ Ok bs)
    other true f = absurd (cc)
    other false f = absurd (cc)

    go : (t : Bool) → bytes_eq row (digest_of g) ≡ t → first_of (cond t None (cond (length row == 32) (Some (OtherGenesis row)) (Some (BadAt 0)))) above ≡ Ok bs
        → (Some row ≡ Some (digest_of g)) × (above ≡ Ok bs)
    go true i f = (ap (λ (xs : List ℕ). Some xs) ((bytes_eq-Decides row (digest_of g)).0 i), f)
    go false i f = other (length row == 32) f

-- so the rows up to there are those of the chain
rows_below : (rows : Rows) (node : ℕ) (g : Genesis) (bs : List Block) (count : ℕ) → map.get rows (place_of node 0) ≡ Some (digest_of g)
    → IsRead (genesis_state g) rows node 1 count bs → (h : ℕ) → h ≤ length bs → map.get rows (place_of node h) ≡ row_at g bs h
rows_below rows node g bs count first read zero le = first
rows_below rows node g bs count first read (suc n) le =
    let at : suc n ≡ 1 + n = omega arith in
    let long = read.long in
    ap (λ (k : ℕ). map.get rows (place_of node k)) at ∙ read.each n (omega (arith, le, long))

-- and above it a chain has none
row_past : (g : Genesis) (bs : List Block) (h : ℕ) → length bs < h → row_at g bs h ≡ None
row_past g bs zero past = absurd (omega (arith, past))
row_past g bs (suc n) past = ap (option_map block_bytes) (slice_get_past bs n (omega (arith, past)))

just_rows : (rows : Rows) (node : ℕ) (g : Genesis) (bs : List Block) → ((h : ℕ) → h ≤ length bs → map.get rows (place_of node h) ≡ row_at g bs h)
    → ((h : ℕ) → length bs < h → map.get rows (place_of node h) ≡ None) → AreRowsOf rows node g bs
just_rows rows node g bs below above h = go (nat_lt (length bs) h) refl
  where
    past : (n m : ℕ) → nat_lt n m ≡ true → n < m
    past n m e = grind (arith, nat_tests)

    go : (t : Bool) → nat_lt (length bs) h ≡ t → map.get rows (place_of node h) ≡ row_at g bs h
    go true i = let more = past (length bs) h i in above h more ∙ sym (row_past g bs h more)
    go false i = below h (ltb-false (length bs) h i)

-- where a node has rows and they are read as a chain, they are just those of it
begun_before : (rows : Rows) (node : ℕ) (g : Genesis) (bs : List Block) → (row_count rows node == 0) ≡ false
    → first_of (first_fault g (map.get rows (place_of node 0))) (kept_from (genesis_state g) rows node 1 (row_count rows node - 1)) ≡ Ok bs → IsChain rows node g bs
begun_before rows node g bs some e =
    let first = digest_read g (map.get rows (place_of node 0)) (kept_from (genesis_state g) rows node 1 (row_count rows node - 1)) bs e in
    let read = blocks_read (genesis_state g) rows node 1 (row_count rows node - 1) bs first.1 in
    let state = is_good (fold_blocks g bs) read.good in
    let few = (chain_height g bs state.0 state.1).1 in
    let count = one_less (row_count rows node) (length bs) some read.long in
    let below = rows_below rows node g bs (row_count rows node - 1) first.0 read in
    let above = no_others rows node (length bs) count few (λ h le. ap is_some (below h le) ∙ row_there g bs h le) in
    record { rows_are = just_rows rows node g bs below above; count = count; fits = read.fits; good = read.good }
  where
    one_less : (n m : ℕ) → (n == 0) ≡ false → m ≡ n - 1 → n ≡ m + 1
    one_less zero m i f = absurd (cc)
    one_less (suc n) m i f = omega (arith, f)

-- and where it had none, the digest alone is the chain of no blocks
begun_now : (rows : Rows) (node : ℕ) (g : Genesis) → row_count rows node ≡ 0 → IsChain (map.insert rows (place_of node 0) (digest_of g)) node g []
unfolding fold_from
begun_now rows node g count =
    record { rows_are = first; count = chain_counted (map.insert rows (place_of node 0) (digest_of g)) node g [] first (omega arith); fits = tt; good = refl }
  where
    above : (n : ℕ) → (suc n == 0) ≡ false
    above n = grind (arith, nat_tests)

    only : (h : ℕ) → cond (h == 0) (Some (digest_of g)) None ≡ row_at g [] h
    only zero = refl
    only (suc n) = ap (λ (t : Bool). cond t (Some (digest_of g)) None) (above n)

    first : AreRowsOf (map.insert rows (place_of node 0) (digest_of g)) node g []
    first h =
        own_row rows node 0 (digest_of g) h
        ∙ ap (λ (o : Option (List ℕ)). cond (h == 0) (Some (digest_of g)) o) (no_rows rows node count h) ∙ only h

-- rows that are read as a chain are behind a start just those of it
pub read_chain : (rows : Rows) (node : ℕ) (g : Genesis) (bs : List Block) → kept g rows node ≡ Ok bs → IsChain (begun rows node g) node g bs
unfolding kept
read_chain rows node g bs e = go (row_count rows node == 0) refl e
  where
    go : (t : Bool) → (row_count rows node == 0) ≡ t
        → cond t (Ok []) (first_of (first_fault g (map.get rows (place_of node 0))) (kept_from (genesis_state g) rows node 1 (row_count rows node - 1))) ≡ Ok bs
        → IsChain (cond t (map.insert rows (place_of node 0) (digest_of g)) rows) node g bs
    go true i f =
        let nil : [] ≡ bs = cc in
        subst (IsChain (map.insert rows (place_of node 0) (digest_of g)) node g) nil (begun_now rows node g (eqb-true (row_count rows node) 0 i))
    go false i f = begun_before rows node g bs i f

-- ---- a commit

pub chain_grown : (rows : Rows) (node : ℕ) (g : Genesis) (bs : List Block) (s : State) (b : Block) (r : Applied) → IsChain rows node g bs
    → fold_blocks g bs ≡ Ok s → block_step s b ≡ Ok r → FitsBlock b → IsChain (map.insert rows (place_of node b.height) (block_bytes b)) node g (bs ++ b ∷ [])
chain_grown rows node g bs s b r h e good fits =
    let next : b.height ≡ length bs + 1 = (block_height s b r good).0 ∙ ap (λ (n : ℕ). n + 1) (chain_height g bs s e).0 in
    let are = grown rows node g bs b h.rows_are next in
    let more = fold_more (genesis_state g) bs s b r e good in
    record {
      rows_are = are;
      count = chain_counted (map.insert rows (place_of node b.height) (block_bytes b)) node g (bs ++ b ∷ []) are (chain_height g (bs ++ b ∷ []) r.0 more).1;
      fits = all_push FitsBlock bs b h.fits fits;
      good = ap is_ok more;
    }

-- ---- other nodes

other_count : (rows : Rows) (node other height : ℕ) (bytes : List ℕ) → (other == node) ≡ false → row_count (map.insert rows (place_of node height) bytes) other ≡ row_count rows other
other_count rows node other height bytes differ =
    same_count (map.insert rows (place_of node height) bytes) rows other other (λ h. ap is_some (other_row rows node other height bytes differ h))

pub other_chain : (rows : Rows) (node other height : ℕ) (bytes : List ℕ) (g : Genesis) (bs : List Block) → (other == node) ≡ false → IsChain rows other g bs
    → IsChain (map.insert rows (place_of node height) bytes) other g bs
other_chain rows node other height bytes g bs differ h = record {
  rows_are = apart_from rows node other height bytes g bs differ h.rows_are;
  count = other_count rows node other height bytes differ ∙ h.count;
  fits = h.fits;
  good = h.good;
}

same_next : {A B E : Type 0} (r : Result A E) (f g : A → Result B E) → ((x : A) → f x ≡ g x) → (r >>= f) ≡ (r >>= g)
same_next (Ok x) f g h = h x
same_next (Err error) f g h = refl

same_from : (rows after : Rows) (node : ℕ) → ((h : ℕ) → map.get after (place_of node h) ≡ map.get rows (place_of node h))
    → (count : ℕ) (s : State) (height : ℕ) → kept_from s after node height count ≡ kept_from s rows node height count
unfolding kept_from
same_from rows after node same zero s height = refl
same_from rows after node same (suc more) s height =
    ap (λ (row : Option (List ℕ)). ok_or (good_on s (block_of row)) (BadAt height) >>= λ k. behind k.0 (kept_from k.1 after node (height + 1) more)) (same height)
    ∙ same_next (ok_or (good_on s (block_at rows node height)) (BadAt height)) (λ k. behind k.0 (kept_from k.1 after node (height + 1) more))
    (λ k. behind k.0 (kept_from k.1 rows node (height + 1) more)) (λ k. ap (behind k.0) (same_from rows after node same more k.1 (height + 1)))

-- what is set for one node is not read for another
pub other_kept : (rows : Rows) (node other height : ℕ) (bytes : List ℕ) (g : Genesis) → (other == node) ≡ false
    → kept g (map.insert rows (place_of node height) bytes) other ≡ kept g rows other
unfolding kept
other_kept rows node other height bytes g differ =
    let after = map.insert rows (place_of node height) bytes in
    ap (λ (n : ℕ). cond (n == 0) (Ok []) (first_of (first_fault g (map.get after (place_of other 0))) (kept_from (genesis_state g) after other 1 (n - 1)))) (other_count rows node other height bytes differ)
    ∙ ap (λ (row : Option (List ℕ)). cond (row_count rows other == 0) (Ok []) (first_of (first_fault g row) (kept_from (genesis_state g) after other 1 (row_count rows other - 1)))) (other_row rows node other height bytes differ 0)
    ∙ ap (λ (above : Result (List Block) Unkept). cond (row_count rows other == 0) (Ok []) (first_of (first_fault g (map.get rows (place_of other 0))) above))
    (same_from rows after other (other_row rows node other height bytes differ) (row_count rows other - 1) (genesis_state g) 1)
