-- Rows by rising names: the place of a name, and a row put in or taken out there.
use Rattle.std.proofs.lemmas.Option.{get_or_from_slice_get, slice_get-get_or}
use Rattle.std.proofs.Common.{get_or, ◌≡◌, ℕ, zero, suc, ◌+◌, ◌-◌, ◌<◌, ◌≤◌, Bool, true, false, not, cond, T, Option, None, Some, List, [], ◌∷◌, ◌++◌, filter, drop, length, refl, sym, ap, ◌∙◌, subst, arith}
use Rattle.std.proofs.Common.{Result, Ok}
use Rattle.std.specs.Prelude.{slice_get, slice_set, ◌&&◌, IsSome, is_ok}
use Rattle.std.specs.Prelude.{find as first_row}
use Rattle.std.specs.List.{insert, remove}
use Rattle.std.specs.declared.cmp.Ordering.{Ordering}
use Rattle.std.specs.declared.cmp.Ordering.TheVariants.{Less, Equal, Greater}
use Rattle.std.specs.Ordering.{eq_by_cmp, is_eq, is_lt, is_gt, ordering_reverse}
use Rattle.std.specs.Cmp.{IsTotalOrder, tied_itself}
use Rattle.std.specs.FinMap.{IsAntisymmetric}
use Rattle.std.specs.FinMap.Entries.{by_order, put, find, where_key, is_sorted, below_all}
use Rattle.dx_book.specs.Tables.{places_below, has_name}

pub first : (a b : Bool) → T (a && b) → T a
first true b p = tt
first false b p = p

pub second : (a b : Bool) → T (a && b) → T b
second true b p = p
second false b p = absurd p

pub less : (o : Ordering) → T (is_lt o) → o ≡ Less
less Less p = refl
less Equal p = absurd p
less Greater p = absurd p

-- a row that was put in
pub put_in_place : {U E : Type 0} {X : Type 0} (r : Result U E) (u : U) (xs ys zs : List X) → r ≡ Ok u → ys ≡ cond (is_ok r) xs zs → ys ≡ xs
put_in_place r u xs ys zs e f = f ∙ ap (λ z. cond (is_ok z) xs zs) e

-- the first row whose name passes
abbrev pub look : {N V : Type 0} → (N → Bool) → List (N × V) → Option (N × V)
look test rows = first_row (λ row. test row.0) rows

module _ {N : Type 0} (R : N → N → Ordering) (total : IsTotalOrder R) where
  greater : (a b : N) → R a b ≡ Less → R b a ≡ Greater
  greater a b e = total.antisymm b a ∙ ap ordering_reverse e

  lesser : (a b : N) → R a b ≡ Greater → R b a ≡ Less
  lesser a b e = total.antisymm b a ∙ ap ordering_reverse e

tied : {N : Type 0} (R : N → N → Ordering) (a b : N) → eq_by_cmp R a b ≡ true → R a b ≡ Equal
tied R a b e = go (R a b) e
  where
    go : (o : Ordering) → is_eq o ≡ true → o ≡ Equal
    go Less e = absurd (cc)
    go Equal e = refl
    go Greater e = absurd (cc)

module _ {N V : Type 0} (R : N → N → Ordering) (total : IsTotalOrder R) where
  at_below : (x : N) (rows : List (N × V)) (i : ℕ) (row : N × V) → T (below_all R x rows) → slice_get rows i ≡ Some row → R x row.0 ≡ Less
  at_below x [] i row h e = absurd (cc)
  at_below x (r ∷ rs) zero row h e = let same : r ≡ row = cc in ap (λ (z : N × V). R x z.0) (sym same) ∙ less _ (first _ _ h)
  at_below x (r ∷ rs) (suc i) row h e = at_below x rs i row (second _ _ h) e

  -- a row below the name stands before its place
  pub place_after : (n : N) (rows : List (N × V)) (i : ℕ) (row : N × V) → T (is_sorted R rows) → slice_get rows i ≡ Some row → R n row.0 ≡ Greater → i + 1 ≤ places_below R n rows
  place_after n [] i row s e g = absurd (cc)
  place_after n (r ∷ rs) zero row s e g =
      let same : r ≡ row = cc in
      let here : R n r.0 ≡ Greater = ap (λ (z : N × V). R n z.0) same ∙ g in
      rw here (omega arith)
  place_after n (r ∷ rs) (suc i) row s e g =
      let up : R r.0 row.0 ≡ Less = at_below r.0 rs i row (first _ _ s) e in
      let here : R n r.0 ≡ Greater = greater R total r.0 n (total.trans r.0 row.0 n up (lesser R total n row.0 g)) in
      let more = place_after n rs i row (second _ _ s) e g in
      rw here (omega (arith, more))

  -- any other row does not
  pub place_upto : (n : N) (rows : List (N × V)) (i : ℕ) (row : N × V) → slice_get rows i ≡ Some row → is_gt (R n row.0) ≡ false → places_below R n rows ≤ i
  place_upto n [] i row e g = absurd (cc)
  place_upto n (r ∷ rs) zero row e g =
      let same : r ≡ row = cc in
      go (R n r.0) (ap (λ (z : N × V). is_gt (R n z.0)) same ∙ g)
    where
      go : (o : Ordering) → is_gt o ≡ false → by_order o 0 0 (suc (places_below R n rs)) ≤ 0
      go Less h = omega arith
      go Equal h = omega arith
      go Greater h = absurd (cc)
  place_upto n (r ∷ rs) (suc i) row e g = go (R n r.0) (place_upto n rs i row e g)
    where
      go : (o : Ordering) → places_below R n rs ≤ i → by_order o 0 0 (suc (places_below R n rs)) ≤ suc i
      go Less h = omega arith
      go Equal h = omega arith
      go Greater h = omega arith

  pub place_within : (n : N) (rows : List (N × V)) → places_below R n rows ≤ length rows
  place_within n [] = omega arith
  place_within n (r ∷ rs) = go (R n r.0) (place_within n rs)
    where
      go : (o : Ordering) → places_below R n rs ≤ length rs → by_order o 0 0 (suc (places_below R n rs)) ≤ suc (length rs)
      go Less h = omega arith
      go Equal h = omega arith
      go Greater h = omega arith

  -- the row at the place of a name is its row
  pub found_at : (n : N) (rows : List (N × V)) (row : N × V) → slice_get rows (places_below R n rows) ≡ Some row → eq_by_cmp R n row.0 ≡ true → find R n rows ≡ Some row.1
  found_at n [] row e t = absurd (cc)
  found_at n (r ∷ rs) row e t = go (R n r.0) refl e (found_at n rs row)
    where
      go : (o : Ordering) → R n r.0 ≡ o → slice_get (r ∷ rs) (by_order o 0 0 (suc (places_below R n rs))) ≡ Some row
          → (slice_get rs (places_below R n rs) ≡ Some row → eq_by_cmp R n row.0 ≡ true → find R n rs ≡ Some row.1)
          → cond (is_eq o) (Some r.1) (find R n rs) ≡ Some row.1
      go Less f e more =
          let same : r ≡ row = cc in
          let no : eq_by_cmp R n row.0 ≡ false = ap (λ (z : N × V). eq_by_cmp R n z.0) (sym same) ∙ ap is_eq f in
          absurd (let g : true ≡ false = sym t ∙ no in cc)
      go Equal f e more = let same : r ≡ row = cc in ap (λ (z : N × V). Some z.1) same
      go Greater f e more = more e t

  none_below : (n x : N) (rows : List (N × V)) → R n x ≡ Less → T (below_all R x rows) → find R n rows ≡ None
  none_below n x [] l h = refl
  none_below n x (r ∷ rs) l h =
      let up : R n r.0 ≡ Less = total.trans n x r.0 l (less _ (first _ _ h)) in
      (λ i. cond (is_eq (up i)) (Some r.1) (find R n rs)) ∙ none_below n x rs l (second _ _ h)

  -- where another row stands there, or none, the name has no row
  pub not_found : (n : N) (rows : List (N × V)) → T (is_sorted R rows) → has_name R n (slice_get rows (places_below R n rows)) ≡ false → find R n rows ≡ None
  not_found n [] s h = refl
  not_found n (r ∷ rs) s h = go (R n r.0) refl h (not_found n rs (second _ _ s))
    where
      go : (o : Ordering) → R n r.0 ≡ o → has_name R n (slice_get (r ∷ rs) (by_order o 0 0 (suc (places_below R n rs)))) ≡ false
          → (has_name R n (slice_get rs (places_below R n rs)) ≡ false → find R n rs ≡ None) → cond (is_eq o) (Some r.1) (find R n rs) ≡ None
      go Less f h more = none_below n r.0 rs f (first _ _ s)
      go Equal f h more = absurd (let g : true ≡ false = sym (ap is_eq f) ∙ h in cc)
      go Greater f h more = more h

  -- a new value at the place of a name that has a row
  pub put_over : IsAntisymmetric R → (n : N) (v : V) (rows : List (N × V)) → has_name R n (slice_get rows (places_below R n rows)) ≡ true
      → slice_set rows (places_below R n rows) (n, v) ≡ put R n v rows
  put_over exact n v [] h = absurd (cc)
  put_over exact n v (r ∷ rs) h = go (R n r.0) refl h (put_over exact n v rs)
    where
      go : (o : Ordering) → R n r.0 ≡ o → has_name R n (slice_get (r ∷ rs) (by_order o 0 0 (suc (places_below R n rs)))) ≡ true
          → (has_name R n (slice_get rs (places_below R n rs)) ≡ true → slice_set rs (places_below R n rs) (n, v) ≡ put R n v rs)
          → slice_set (r ∷ rs) (by_order o 0 0 (suc (places_below R n rs))) (n, v) ≡ by_order o ((n, v) ∷ r ∷ rs) ((r.0, v) ∷ rs) (r ∷ put R n v rs)
      go Less f h more = absurd (let g : true ≡ false = sym h ∙ ap is_eq f in cc)
      go Equal f h more = ap (λ (m : N). (m, v) ∷ rs) (exact n r.0 f)
      go Greater f h more = ap (λ l. r ∷ l) (more h)

  -- a new row at the place of a name that has none
  pub put_before : (n : N) (v : V) (rows : List (N × V)) → has_name R n (slice_get rows (places_below R n rows)) ≡ false
      → insert rows (places_below R n rows) (n, v) ≡ put R n v rows
  put_before n v [] h = refl
  put_before n v (r ∷ rs) h = go (R n r.0) refl h (put_before n v rs)
    where
      go : (o : Ordering) → R n r.0 ≡ o → has_name R n (slice_get (r ∷ rs) (by_order o 0 0 (suc (places_below R n rs)))) ≡ false
          → (has_name R n (slice_get rs (places_below R n rs)) ≡ false → insert rs (places_below R n rs) (n, v) ≡ put R n v rs)
          → insert (r ∷ rs) (by_order o 0 0 (suc (places_below R n rs))) (n, v) ≡ by_order o ((n, v) ∷ r ∷ rs) ((r.0, v) ∷ rs) (r ∷ put R n v rs)
      go Less f h more = refl
      go Equal f h more = absurd (let g : true ≡ false = sym (ap is_eq f) ∙ h in cc)
      go Greater f h more = ap (λ l. r ∷ l) (more h)

  -- no row of a name that is not there is left out
  pub all_left : (n : N) (rows : List (N × V)) → find R n rows ≡ None → where_key R (λ m. not (eq_by_cmp R n m)) rows ≡ rows
  all_left n [] h = refl
  all_left n (r ∷ rs) h = go (eq_by_cmp R n r.0) h (all_left n rs)
    where
      go : (b : Bool) → cond b (Some r.1) (find R n rs) ≡ None → (find R n rs ≡ None → where_key R (λ m. not (eq_by_cmp R n m)) rs ≡ rs)
          → cond (not b) (r ∷ where_key R (λ m. not (eq_by_cmp R n m)) rs) (where_key R (λ m. not (eq_by_cmp R n m)) rs) ≡ r ∷ rs
      go true h more = absurd (cc)
      go false h more = ap (λ l. r ∷ l) (more h)

  none_tied : (n x : N) (rows : List (N × V)) → R n x ≡ Equal → T (below_all R x rows) → find R n rows ≡ None
  none_tied n x [] l h = refl
  none_tied n x (r ∷ rs) l h =
      let up : R n r.0 ≡ Less = total.congr n x r.0 l ∙ less _ (first _ _ h) in
      (λ i. cond (is_eq (up i)) (Some r.1) (find R n rs)) ∙ none_tied n x rs l (second _ _ h)

  -- the name of a later row is not the first one's
  pub row_apart : (r : N × V) (n : N) (v : V) (rows : List (N × V)) → T (is_sorted R (r ∷ rows)) → find R n rows ≡ Some v → eq_by_cmp R n r.0 ≡ false
  row_apart r n v rows s f = go (R n r.0) refl
    where
      go : (o : Ordering) → R n r.0 ≡ o → is_eq o ≡ false
      go Less e = refl
      go Equal e = absurd (let g : None ≡ Some v = sym (none_tied n r.0 rows e (first _ _ s)) ∙ f in cc)
      go Greater e = refl

  pub sorted_from : (rows : List (N × V)) (i : ℕ) → T (is_sorted R rows) → T (is_sorted R (drop i rows))
  sorted_from [] zero s = tt
  sorted_from [] (suc i) s = tt
  sorted_from (r ∷ rs) zero s = s
  sorted_from (r ∷ rs) (suc i) s = sorted_from rs i (second _ _ s)

  -- later rows have later names
  pub later_rows : (rows : List (N × V)) (i : ℕ) (d : N × V) → T (is_sorted R rows) → i < length rows → T (below_all R (get_or rows i d).0 (drop (suc i) rows))
  later_rows [] i d s w = absurd (omega arith)
  later_rows (r ∷ rs) zero d s w = first _ _ s
  later_rows (r ∷ rs) (suc i) d s w = later_rows rs i d (second _ _ s) (omega arith)

  -- from the place of a name on no row stands before it
  pub not_before : (n : N) (rows : List (N × V)) (i : ℕ) (d : N × V) → T (is_sorted R rows) → i < length rows → places_below R n rows ≤ i → is_gt (R n (get_or rows i d).0) ≡ false
  not_before n rows i d s w l = go (R n (get_or rows i d).0) refl
    where
      go : (o : Ordering) → R n (get_or rows i d).0 ≡ o → is_gt o ≡ false
      go Less e = refl
      go Equal e = refl
      go Greater e = let up = place_after n rows i (get_or rows i d) s (slice_get-get_or rows i d w) e in absurd (omega (arith, up, l))

  pub rest_sorted : (r : N × V) (rows : List (N × V)) → T (is_sorted R (r ∷ rows)) → T (is_sorted R rows)
  rest_sorted r rows s = second _ _ s

  -- the row at the place of a name that has one is left out
  pub taken_at : (n : N) (rows : List (N × V)) → T (is_sorted R rows) → has_name R n (slice_get rows (places_below R n rows)) ≡ true
      → remove rows (places_below R n rows) ≡ where_key R (λ m. not (eq_by_cmp R n m)) rows
  taken_at n [] s h = absurd (cc)
  taken_at n (r ∷ rs) s h = go (R n r.0) refl h (taken_at n rs (second _ _ s))
    where
      go : (o : Ordering) → R n r.0 ≡ o → has_name R n (slice_get (r ∷ rs) (by_order o 0 0 (suc (places_below R n rs)))) ≡ true
          → (has_name R n (slice_get rs (places_below R n rs)) ≡ true → remove rs (places_below R n rs) ≡ where_key R (λ m. not (eq_by_cmp R n m)) rs)
          → remove (r ∷ rs) (by_order o 0 0 (suc (places_below R n rs))) ≡ cond (not (is_eq o)) (r ∷ where_key R (λ m. not (eq_by_cmp R n m)) rs) (where_key R (λ m. not (eq_by_cmp R n m)) rs)
      go Less f h more = absurd (let g : true ≡ false = sym h ∙ ap is_eq f in cc)
      go Equal f h more = sym (all_left n rs (none_tied n r.0 rs f (first _ _ s)))
      go Greater f h more = ap (λ l. r ∷ l) (more h)

  -- the first row that passes is the one of its name
  pub row_own : (test : N → Bool) (rows : List (N × V)) (row : N × V) → T (is_sorted R rows) → look test rows ≡ Some row → find R row.0 rows ≡ Some row.1
  row_own test [] row s e = absurd (cc)
  row_own test (r ∷ rs) row s e = go (test r.0) e (row_own test rs row (second _ _ s))
    where
      apart : look test rs ≡ Some row → eq_by_cmp R row.0 r.0 ≡ false
      apart f = ap is_eq (greater R total r.0 row.0 (above rs (first _ _ s) f))
        where
          above : (ls : List (N × V)) → T (below_all R r.0 ls) → look test ls ≡ Some row → R r.0 row.0 ≡ Less
          above [] h f = absurd (cc)
          above (l ∷ ls) h f = go2 (test l.0) f (above ls (second _ _ h))
            where
              go2 : (b : Bool) → cond b (Some l) (look test ls) ≡ Some row → (look test ls ≡ Some row → R r.0 row.0 ≡ Less) → R r.0 row.0 ≡ Less
              go2 true f more = let same : l ≡ row = cc in ap (λ (z : N × V). R r.0 z.0) (sym same) ∙ less _ (first _ _ h)
              go2 false f more = more f

      go : (b : Bool) → cond b (Some r) (look test rs) ≡ Some row → (look test rs ≡ Some row → find R row.0 rs ≡ Some row.1)
          → cond (eq_by_cmp R row.0 r.0) (Some r.1) (find R row.0 rs) ≡ Some row.1
      go true e more =
          let same : r ≡ row = cc in
          let own : eq_by_cmp R row.0 r.0 ≡ true = ap (λ (z : N × V). eq_by_cmp R row.0 z.0) same ∙ ap is_eq (tied_itself total row.0) in
          (λ i. cond (own i) (Some r.1) (find R row.0 rs)) ∙ ap (λ (z : N × V). Some z.1) same
      go false e more = (λ i. cond (apart e i) (Some r.1) (find R row.0 rs)) ∙ more e

  -- no name of a row that passes is below the first one's
  pub rows_first : IsAntisymmetric R → (test : N → Bool) (rows : List (N × V)) (row : N × V) (n : N) → T (is_sorted R rows) → look test rows ≡ Some row → IsSome (find R n rows) → test n ≡ true
      → is_gt (R row.0 n) ≡ false
  rows_first exact test [] row n s e f t = absurd (cc)
  rows_first exact test (r ∷ rs) row n s e f t = go (test r.0) refl (eq_by_cmp R n r.0) refl e f (λ e f. rows_first exact test rs row n (second _ _ s) e f t)
    where
      below : (ls : List (N × V)) → T (below_all R r.0 ls) → IsSome (find R n ls) → R r.0 n ≡ Less
      below [] h f = absurd (cc)
      below (l ∷ ls) h f = go2 (R n l.0) refl f (below ls (second _ _ h))
        where
          go2 : (o : Ordering) → R n l.0 ≡ o → IsSome (cond (is_eq o) (Some l.1) (find R n ls)) → (IsSome (find R n ls) → R r.0 n ≡ Less) → R r.0 n ≡ Less
          go2 Less g f more = more f
          go2 Equal g f more =
              let swapped : R l.0 n ≡ Equal = total.antisymm l.0 n ∙ ap ordering_reverse g in
              ap (R r.0) (exact n l.0 g) ∙ less _ (first _ _ h)
          go2 Greater g f more = more f

      go : (b : Bool) → test r.0 ≡ b → (c : Bool) → eq_by_cmp R n r.0 ≡ c → cond b (Some r) (look test rs) ≡ Some row → IsSome (cond c (Some r.1) (find R n rs))
          → (look test rs ≡ Some row → IsSome (find R n rs) → is_gt (R row.0 n) ≡ false) → is_gt (R row.0 n) ≡ false
      go true g true h e f more =
          let same : r ≡ row = cc in
          let one : n ≡ r.0 = exact n r.0 (tied R n r.0 h) in
          ap (λ (z : N × V). is_gt (R z.0 n)) (sym same) ∙ ap (λ m. is_gt (R r.0 m)) one ∙ ap is_gt (tied_itself total r.0)
      go true g false h e f more =
          let same : r ≡ row = cc in
          ap (λ (z : N × V). is_gt (R z.0 n)) (sym same) ∙ ap is_gt (below rs (first _ _ s) f)
      go false g true h e f more =
          let one : n ≡ r.0 = exact n r.0 (tied R n r.0 h) in
          absurd (let i : true ≡ false = sym t ∙ ap test one ∙ g in cc)
      go false g false h e f more = more e f

  -- where no row passes, no name of a row does
  pub none_passes : IsAntisymmetric R → (test : N → Bool) (rows : List (N × V)) (n : N) → look test rows ≡ None → IsSome (find R n rows) → test n ≡ false
  none_passes exact test [] n e f = absurd (cc)
  none_passes exact test (r ∷ rs) n e f = go (test r.0) refl (eq_by_cmp R n r.0) refl e f (none_passes exact test rs n)
    where
      go : (b : Bool) → test r.0 ≡ b → (c : Bool) → eq_by_cmp R n r.0 ≡ c → cond b (Some r) (look test rs) ≡ None → IsSome (cond c (Some r.1) (find R n rs))
          → (look test rs ≡ None → IsSome (find R n rs) → test n ≡ false) → test n ≡ false
      go true g c h e f more = absurd (cc)
      go false g true h e f more = ap test (exact n r.0 (tied R n r.0 h)) ∙ g
      go false g false h e f more = more e f

  -- the value at the place of a name
  pub got : (n : N) (rows : List (N × V)) (i : ℕ) (b : Bool) (d : N × V) → i ≡ places_below R n rows → b ≡ has_name R n (slice_get rows i) → b ≡ true → Some (get_or rows i d).1 ≡ find R n rows
  got n rows i b d e f t = go (slice_get rows i) refl (sym f ∙ t)
    where
      go : (o : Option (N × V)) → slice_get rows i ≡ o → has_name R n o ≡ true → Some (get_or rows i d).1 ≡ find R n rows
      go None p h = absurd (cc)
      go (Some row) p h = ap (λ (z : N × V). Some z.1) (get_or_from_slice_get rows i row d p) ∙ sym (found_at n rows row (ap (slice_get rows) (sym e) ∙ p) h)

  pub got_none : (n : N) (rows : List (N × V)) (i : ℕ) (b : Bool) → T (is_sorted R rows) → i ≡ places_below R n rows → b ≡ has_name R n (slice_get rows i) → b ≡ false → None ≡ find R n rows
  got_none n rows i b s e f t = sym (not_found n rows s (ap (λ j. has_name R n (slice_get rows j)) (sym e) ∙ sym f ∙ t))

  here : (n : N) (rows a c : List (N × V)) (i : ℕ) (b t : Bool) → a ≡ rows → c ≡ rows → i ≡ places_below R n a → b ≡ has_name R n (slice_get c i) → b ≡ t → has_name R n (slice_get rows (places_below R n rows)) ≡ t
  here n rows a c i b t p q e f h =
      (λ k. has_name R n (slice_get (sym q k) ((ap (places_below R n) (sym p) ∙ sym e) k))) ∙ sym f ∙ h

  pub set_there : IsAntisymmetric R → (n : N) (v : V) (rows a c : List (N × V)) (i : ℕ) (b : Bool) → a ≡ rows → c ≡ rows → i ≡ places_below R n a → b ≡ has_name R n (slice_get c i) → b ≡ true
      → slice_set rows i (n, v) ≡ put R n v rows
  set_there exact n v rows a c i b p q e f h =
      ap (λ j. slice_set rows j (n, v)) (e ∙ ap (places_below R n) p) ∙ put_over exact n v rows (here n rows a c i b true p q e f h)

  pub inserted : (n : N) (v : V) (rows a c : List (N × V)) (i : ℕ) (b : Bool) → a ≡ rows → c ≡ rows → i ≡ places_below R n a → b ≡ has_name R n (slice_get c i) → b ≡ false
      → insert rows i (n, v) ≡ put R n v rows
  inserted n v rows a c i b p q e f h =
      ap (λ j. insert rows j (n, v)) (e ∙ ap (places_below R n) p) ∙ put_before n v rows (here n rows a c i b false p q e f h)

  pub is_absent : (n : N) (rows a c : List (N × V)) (i : ℕ) (b : Bool) → T (is_sorted R rows) → a ≡ rows → c ≡ rows → i ≡ places_below R n a → b ≡ has_name R n (slice_get c i) → b ≡ false → find R n rows ≡ None
  is_absent n rows a c i b s p q e f h = not_found n rows s (here n rows a c i b false p q e f h)

  pub taken_out : (n : N) (rows a c : List (N × V)) (i : ℕ) (b : Bool) → T (is_sorted R rows) → a ≡ rows → c ≡ rows → i ≡ places_below R n a → b ≡ has_name R n (slice_get c i) → b ≡ true
      → remove rows i ≡ where_key R (λ m. not (eq_by_cmp R n m)) rows
  taken_out n rows a c i b s p q e f h =
      ap (λ j. remove rows j) (e ∙ ap (places_below R n) p) ∙ taken_at n rows s (here n rows a c i b true p q e f h)

  pub not_taken : (n : N) (rows a c : List (N × V)) (i : ℕ) (b : Bool) → T (is_sorted R rows) → a ≡ rows → c ≡ rows → i ≡ places_below R n a → b ≡ has_name R n (slice_get c i) → b ≡ false
      → rows ≡ where_key R (λ m. not (eq_by_cmp R n m)) rows
  not_taken n rows a c i b s p q e f h = sym (all_left n rows (is_absent n rows a c i b s p q e f h))

  pub passed : (n : N) (rows : List (N × V)) (i : ℕ) (d : N × V) (o : Ordering) (b : Bool) → i < length rows → T (is_sorted R rows) → o ≡ R n (get_or rows i d).0 → b ≡ is_gt o → b ≡ true → i + 1 ≤ places_below R n rows
  passed n rows i d o b w s e f t = place_after n rows i (get_or rows i d) s (slice_get-get_or rows i d w) (greatest (R n (get_or rows i d).0) (ap is_gt (sym e) ∙ sym f ∙ t))
    where
      greatest : (r : Ordering) → is_gt r ≡ true → r ≡ Greater
      greatest Less h = absurd (cc)
      greatest Equal h = absurd (cc)
      greatest Greater h = refl

  pub reached : (n : N) (rows : List (N × V)) (i : ℕ) (d : N × V) (o : Ordering) (b : Bool) → i < length rows → o ≡ R n (get_or rows i d).0 → b ≡ is_gt o → b ≡ false → places_below R n rows ≤ i
  reached n rows i d o b w e f t = place_upto n rows i (get_or rows i d) (slice_get-get_or rows i d w) (ap is_gt (sym e) ∙ sym f ∙ t)
