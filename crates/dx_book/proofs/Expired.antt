-- The earliest order that has ended is the earliest of the first ones of the chains that have.
use Rattle.std.proofs.Common.{◌≡◌, ℕ, suc, ◌+◌, ◌<◌, ◌≤◌, ◌==◌, Bool, true, false, cond, T, Option, None, Some, List, [], ◌∷◌, filter, map, drop, get_or, length, refl, sym, ap, ◌∙◌, subst, arith}
use Rattle.std.specs.Prelude.{find, nat_lt, slice_get}
use Rattle.std.specs.declared.cmp.Ordering.{Ordering}
use Rattle.std.specs.declared.cmp.Ordering.TheVariants.{Less, Equal, Greater}
use Rattle.std.specs.Ordering.{eq_by_cmp, is_gt}
use Rattle.std.specs.Cmp.{IsEquivalence, eq_by_cmp_equiv}
use Rattle.std.specs.FinMap.Entries as rows
use Rattle.std.proofs.lemmas.List.{at_drop_more, drop_all}
use Rattle.std.proofs.lemmas.Bool.{eqb-true, ltb-true, ltb-false}
use Rattle.std.proofs.lemmas.Bool.Decides.{nat_tests}
use Rattle.dx_types.specs.declared.Order.{Order}
use Rattle.dx_spec.proofs.Entries.{is_key}
use Rattle.dx_book.specs.Arrivals.{place_in, lower, earliest}
use Rattle.dx_book.specs.Chains.{last_from, ends_of}
use Rattle.dx_book.specs.Names.{expiry_cmp, expiry_of}
use Rattle.dx_book.specs.Orders.{expiry_total, expiry_exact}
use Rattle.dx_book.specs.Tables.{places_below}
use Rattle.dx_book.specs.Held.{Item, chain_of}
use Rattle.dx_book.specs.Standing.{has, AreDistinct, Stands}
use Rattle.dx_book.specs.declared.names.Expiry.{Expiry}
use Rattle.dx_book.specs.declared.ends.Ends.{Ends}
use Rattle.dx_book.specs.declared.parts.Parts.{Parts}
use Rattle.dx_book.proofs.Keys.{same_key}
use Rattle.dx_book.proofs.Named.{key_of, keys_of}
use Rattle.dx_book.proofs.Rows.{first, second, less, later_rows, not_before, row_apart, rest_sorted}

own : (l : Expiry) → eq_by_cmp expiry_cmp l l ≡ true
own l = let q : IsEquivalence (eq_by_cmp expiry_cmp) = eq_by_cmp_equiv expiry_total in q.refl l

lower_upto : (a b : ℕ) → (lower a b ≤ a) × (lower a b ≤ b)
lower_upto a b = (grind (arith, nat_tests), grind (arith, nat_tests))

lower_above : (m a b : ℕ) → m ≤ a → m ≤ b → m ≤ lower a b
lower_above m a b h k = go (nat_lt a b)
  where
    go : (c : Bool) → m ≤ cond c a b
    go true = h
    go false = k

module _ (test : Expiry → Bool) where
  -- the rows that are left, behind one that has ended
  pub seen_over : (keys : List ℕ) (table : List (Expiry × Ends)) (place number : ℕ) (d : Expiry × Ends) (b : Bool) (first next whole : ℕ) → number < length table
      → b ≡ test (get_or table number d).0 → b ≡ true → first ≡ place_in (get_or table number d).1.first keys → next ≡ lower first place
      → earliest test keys (drop number table) place ≡ whole → earliest test keys (drop (number + 1) table) next ≡ whole
  seen_over keys table place number d b first next whole w e t f g h =
      ap (earliest test keys (drop (number + 1) table)) (g ∙ ap (λ m. lower m place) f)
      ∙ (λ i. earliest test keys (drop (number + 1) table) (cond ((sym t ∙ e) i) (lower (place_in (get_or table number d).1.first keys) place) place))
      ∙ sym (at_drop_more (λ l. earliest test keys l place) table number d w) ∙ h

  -- the rows behind one that has not ended, where none behind it has
  none_later : (keys : List ℕ) (table : List (Expiry × Ends)) (place : ℕ) (a : Expiry) → T (rows.below_all expiry_cmp a table) → ((b : Expiry) → expiry_cmp a b ≡ Less → test b ≡ false) → earliest test keys table place ≡ place
  none_later keys [] place a l h = refl
  none_later keys (r ∷ rs) place a l h =
      (λ i. earliest test keys rs (cond (h r.0 (less _ (first _ _ l)) i) (lower (place_in r.1.first keys) place) place)) ∙ none_later keys rs place a (second _ _ l) h

  -- the rows before a name, where none of them has ended
  pub none_before : (keys : List ℕ) (table : List (Expiry × Ends)) (place : ℕ) (n : Expiry) → ((b : Expiry) → expiry_cmp n b ≡ Greater → test b ≡ false)
      → earliest test keys (drop (places_below expiry_cmp n table) table) place ≡ earliest test keys table place
  none_before keys [] place n h = refl
  none_before keys (r ∷ rs) place n h = go (expiry_cmp n r.0) refl (none_before keys rs place n h)
    where
      go : (o : Ordering) → expiry_cmp n r.0 ≡ o → earliest test keys (drop (places_below expiry_cmp n rs) rs) place ≡ earliest test keys rs place
          → earliest test keys (drop (rows.by_order o 0 0 (suc (places_below expiry_cmp n rs))) (r ∷ rs)) place ≡ earliest test keys rs (cond (test r.0) (lower (place_in r.1.first keys) place) place)
      go Less e more = refl
      go Equal e more = refl
      go Greater e more = more ∙ (λ i. earliest test keys rs (cond (sym (h r.0 e) i) (lower (place_in r.1.first keys) place) place))

  -- the rows that are left, from one that has not ended on
  pub seen_all : (keys : List ℕ) (table : List (Expiry × Ends)) (place number : ℕ) (d : Expiry × Ends) (n : Expiry) (start : ℕ) (b : Bool) (whole : ℕ)
      → ((x y : Expiry) → is_gt (expiry_cmp n x) ≡ false → test x ≡ false → expiry_cmp x y ≡ Less → test y ≡ false)
      → T (rows.is_sorted expiry_cmp table) → number < length table → start ≡ places_below expiry_cmp n table → start ≤ number → b ≡ test (get_or table number d).0 → b ≡ false
      → earliest test keys (drop number table) place ≡ whole → place ≡ whole
  seen_all keys table place number d n start b whole closed s w at up e f h =
      sym (at_drop_more (λ l. earliest test keys l place) table number d w
      ∙ (λ i. earliest test keys (drop (number + 1) table) (cond (fails i) (lower (place_in (get_or table number d).1.first keys) place) place))
      ∙ ap (λ j. earliest test keys (drop j table) place) one
      ∙ none_later keys (drop (suc number) table) place (get_or table number d).0 (later_rows expiry_cmp expiry_total table number d s w) (λ y l. closed (get_or table number d).0 y not_first fails l))
      ∙ h
    where
      fails : test (get_or table number d).0 ≡ false
      fails = sym e ∙ f

      one : number + 1 ≡ suc number
      one = omega arith

      not_first : is_gt (expiry_cmp n (get_or table number d).0) ≡ false
      not_first = not_before expiry_cmp expiry_total n table number d s w (omega (arith, at, up))

  -- no row is left
  pub all_seen : (keys : List ℕ) (table : List (Expiry × Ends)) (place number whole : ℕ) → length table ≤ number → earliest test keys (drop number table) place ≡ whole → place ≡ whole
  all_seen keys table place number whole w h = sym (ap (λ l. earliest test keys l place) (drop_all number table w)) ∙ h

  -- the place of the first that has ended
  abbrev at_first : List Item → ℕ
  at_first [] = 0
  at_first (x ∷ xs) = cond (test (expiry_of x.order)) 0 (suc (at_first xs))

  found_there : (items : List Item) → slice_get (map (λ (x : Item). x.order) items) (at_first items) ≡ find (λ o. test (expiry_of o)) (map (λ x. x.order) items)
  found_there [] = refl
  found_there (x ∷ xs) = go (test (expiry_of x.order)) (found_there xs)
    where
      go : (b : Bool) → slice_get (map (λ (y : Item). y.order) xs) (at_first xs) ≡ find (λ o. test (expiry_of o)) (map (λ y. y.order) xs)
          → slice_get (x.order ∷ map (λ (y : Item). y.order) xs) (cond b 0 (suc (at_first xs))) ≡ cond b (Some x.order) (find (λ o. test (expiry_of o)) (map (λ y. y.order) xs))
      go true e = refl
      go false e = e

  first_most : (items : List Item) → at_first items ≤ length (keys_of items)
  first_most [] = omega arith
  first_most (x ∷ xs) = go (test (expiry_of x.order)) (first_most xs)
    where
      go : (b : Bool) → at_first xs ≤ length (keys_of xs) → cond b 0 (suc (at_first xs)) ≤ suc (length (keys_of xs))
      go true h = omega arith
      go false h = omega (arith, h)

  -- the first of a chain is held
  first_held : (items : List Item) (n : Expiry) (e : Ends) → ends_of (chain_of expiry_cmp expiry_of n items) ≡ Some e → has e.first (keys_of items) ≡ true
  first_held [] n e h = absurd (cc)
  first_held (x ∷ xs) n e h = go (eq_by_cmp expiry_cmp n (expiry_of x.order)) (x.key == e.first) refl h (first_held xs n e)
    where
      go : (b c : Bool) → (x.key == e.first) ≡ c → ends_of (map key_of (cond b (x ∷ filter (λ y. eq_by_cmp expiry_cmp n (expiry_of y.order)) xs) (filter (λ y. eq_by_cmp expiry_cmp n (expiry_of y.order)) xs))) ≡ Some e
          → (ends_of (chain_of expiry_cmp expiry_of n xs) ≡ Some e → has e.first (keys_of xs) ≡ true) → cond c true (has e.first (keys_of xs)) ≡ true
      go true true f h more = refl
      go true false f h more =
          let one : x.key ≡ e.first = cc in
          absurd (let g : true ≡ false = sym (ap (λ j. j == e.first) one ∙ same_key e.first) ∙ f in cc)
      go false true f h more = refl
      go false false f h more = more h

  -- no chain that has ended begins before that place
  first_above : (items : List Item) (n : Expiry) (e : Ends) → AreDistinct (keys_of items) → test n ≡ true → ends_of (chain_of expiry_cmp expiry_of n items) ≡ Some e → at_first items ≤ place_in e.first (keys_of items)
  first_above [] n e d t h = absurd (cc)
  first_above (x ∷ xs) n e d t h = go (test (expiry_of x.order)) refl (eq_by_cmp expiry_cmp n (expiry_of x.order)) refl h (first_above xs n e d.1 t)
    where
      away : (c : Bool) → (x.key == e.first) ≡ c → has e.first (keys_of xs) ≡ true → suc (at_first xs) ≤ suc (place_in e.first (keys_of xs)) → suc (at_first xs) ≤ cond c 0 (suc (place_in e.first (keys_of xs)))
      away true f g l =
          let one : x.key ≡ e.first = eqb-true x.key e.first f in
          absurd (let k : true ≡ false = sym g ∙ ap (λ j. has j (keys_of xs)) (sym one) ∙ d.0 in cc)
      away false f g l = l

      go : (b : Bool) → test (expiry_of x.order) ≡ b → (c : Bool) → eq_by_cmp expiry_cmp n (expiry_of x.order) ≡ c
          → ends_of (map key_of (cond c (x ∷ filter (λ y. eq_by_cmp expiry_cmp n (expiry_of y.order)) xs) (filter (λ y. eq_by_cmp expiry_cmp n (expiry_of y.order)) xs))) ≡ Some e
          → (ends_of (chain_of expiry_cmp expiry_of n xs) ≡ Some e → at_first xs ≤ place_in e.first (keys_of xs))
          → cond b 0 (suc (at_first xs)) ≤ cond (x.key == e.first) 0 (suc (place_in e.first (keys_of xs)))
      go true f c g h more = omega arith
      go false f true g h more =
          let one : n ≡ expiry_of x.order = is_key expiry_cmp expiry_exact n (expiry_of x.order) g in
          absurd (let k : true ≡ false = sym t ∙ ap test one ∙ f in cc)
      go false f false g h more = let up = more h in away (x.key == e.first) refl (first_held xs n e h) (omega (arith, up))

  -- a chain that has ended, and begins at a place or before it
  record Ended (items : List Item) (place : ℕ) : Type 0 where
    name : Expiry
    ends : Ends
    passes : test name ≡ true
    here : ends_of (chain_of expiry_cmp expiry_of name items) ≡ Some ends
    before : place_in ends.first (keys_of items) ≤ place

  -- the chain of the first that has ended
  first_ended : (items : List Item) → at_first items < length (keys_of items) → Ended items (at_first items)
  first_ended [] w = absurd (omega arith)
  first_ended (x ∷ xs) w = go (test (expiry_of x.order)) refl w (first_ended xs)
    where
      go : (b : Bool) → test (expiry_of x.order) ≡ b → cond b 0 (suc (at_first xs)) < suc (length (keys_of xs)) → (at_first xs < length (keys_of xs) → Ended xs (at_first xs)) → Ended (x ∷ xs) (cond b 0 (suc (at_first xs)))
      go true f w more = record {
        name = expiry_of x.order;
        ends = record { first = x.key; last = last_from x.key (chain_of expiry_cmp expiry_of (expiry_of x.order) xs) };
        passes = f;
        here = λ i. ends_of (map key_of (cond (own (expiry_of x.order) i) (x ∷ filter (λ y. eq_by_cmp expiry_cmp (expiry_of x.order) (expiry_of y.order)) xs) (filter (λ y. eq_by_cmp expiry_cmp (expiry_of x.order) (expiry_of y.order)) xs)));
        before = subst (λ b. cond b 0 (suc (place_in x.key (keys_of xs))) ≤ 0) (sym (same_key x.key)) (omega arith);
      }
      go false f w more =
          let m : Ended xs (at_first xs) = more (omega (arith, w)) in
          record {
            name = m.name;
            ends = m.ends;
            passes = m.passes;
            here = (λ i. ends_of (map key_of (cond (others m (eq_by_cmp expiry_cmp m.name (expiry_of x.order)) refl i) (x ∷ filter (λ y. eq_by_cmp expiry_cmp m.name (expiry_of y.order)) xs) (filter (λ y. eq_by_cmp expiry_cmp m.name (expiry_of y.order)) xs)))) ∙ m.here;
            before = behind (x.key == m.ends.first) m.before;
          }
        where
          others : (m : Ended xs (at_first xs)) (c : Bool) → eq_by_cmp expiry_cmp m.name (expiry_of x.order) ≡ c → eq_by_cmp expiry_cmp m.name (expiry_of x.order) ≡ false
          others m true g =
              let one : m.name ≡ expiry_of x.order = is_key expiry_cmp expiry_exact m.name (expiry_of x.order) g in
              absurd (let k : true ≡ false = sym m.passes ∙ ap test one ∙ f in cc)
          others m false g = g

          behind : {p : ℕ} (c : Bool) → p ≤ at_first xs → cond c 0 (suc p) ≤ suc (at_first xs)
          behind true h = omega arith
          behind false h = omega (arith, h)

  -- no place that is found is behind the one it began with
  earliest_upto : (keys : List ℕ) (table : List (Expiry × Ends)) (place : ℕ) → earliest test keys table place ≤ place
  earliest_upto keys [] place = omega arith
  earliest_upto keys (r ∷ rs) place = go (test r.0) (λ p. earliest_upto keys rs p)
    where
      go : (b : Bool) → ((p : ℕ) → earliest test keys rs p ≤ p) → earliest test keys rs (cond b (lower (place_in r.1.first keys) place) place) ≤ place
      go true more =
          let a = more (lower (place_in r.1.first keys) place) in
          let b : lower (place_in r.1.first keys) place ≤ place = (lower_upto (place_in r.1.first keys) place).1 in
          omega (arith, a, b)
      go false more = more place

  -- nor behind the beginning of a chain that has ended
  earliest_row : (keys : List ℕ) (table : List (Expiry × Ends)) (place : ℕ) (n : Expiry) (e : Ends) → rows.find expiry_cmp n table ≡ Some e → test n ≡ true → earliest test keys table place ≤ place_in e.first keys
  earliest_row keys [] place n e h t = absurd (cc)
  earliest_row keys (r ∷ rs) place n e h t = go (eq_by_cmp expiry_cmp n r.0) refl (test r.0) refl h (λ p f. earliest_row keys rs p n e f t)
    where
      go : (b : Bool) → eq_by_cmp expiry_cmp n r.0 ≡ b → (c : Bool) → test r.0 ≡ c → cond b (Some r.1) (rows.find expiry_cmp n rs) ≡ Some e
          → ((p : ℕ) → rows.find expiry_cmp n rs ≡ Some e → earliest test keys rs p ≤ place_in e.first keys)
          → earliest test keys rs (cond c (lower (place_in r.1.first keys) place) place) ≤ place_in e.first keys
      go true f true g h more =
          let one : r.1 ≡ e = cc in
          let a = earliest_upto keys rs (lower (place_in r.1.first keys) place) in
          let b : lower (place_in r.1.first keys) place ≤ place_in r.1.first keys = (lower_upto (place_in r.1.first keys) place).0 in
          subst (λ (m : Ends). earliest test keys rs (lower (place_in r.1.first keys) place) ≤ place_in m.first keys) one (omega (arith, a, b))
      go true f false g h more =
          let one : n ≡ r.0 = is_key expiry_cmp expiry_exact n r.0 f in
          absurd (let k : true ≡ false = sym t ∙ ap test one ∙ g in cc)
      go false f c g h more = more (cond c (lower (place_in r.1.first keys) place) place) h

  -- nor before all of those
  earliest_above : (keys : List ℕ) (table : List (Expiry × Ends)) (place m : ℕ) → T (rows.is_sorted expiry_cmp table) → m ≤ place
      → ((n : Expiry) (e : Ends) → rows.find expiry_cmp n table ≡ Some e → test n ≡ true → m ≤ place_in e.first keys) → m ≤ earliest test keys table place
  earliest_above keys [] place m s l h = l
  earliest_above keys (r ∷ rs) place m s l h = go (test r.0) refl (λ p k. earliest_above keys rs p m (rest_sorted expiry_cmp expiry_total r rs s) k rest)
    where
      rest : (n : Expiry) (e : Ends) → rows.find expiry_cmp n rs ≡ Some e → test n ≡ true → m ≤ place_in e.first keys
      rest n e f t = h n e ((λ i. cond (row_apart expiry_cmp expiry_total r n e rs s f i) (Some r.1) (rows.find expiry_cmp n rs)) ∙ f) t

      go : (b : Bool) → test r.0 ≡ b → ((p : ℕ) → m ≤ p → m ≤ earliest test keys rs p) → m ≤ earliest test keys rs (cond b (lower (place_in r.1.first keys) place) place)
      go true f more =
          let here : m ≤ place_in r.1.first keys = h r.0 r.1 (λ i. cond (own r.0 i) (Some r.1) (rows.find expiry_cmp r.0 rs)) f in
          more (lower (place_in r.1.first keys) place) (lower_above m (place_in r.1.first keys) place here l)
      go false f more = more place l

  -- the order at the place that is found
  pub order_there : (items : List Item) (p : Parts) (i : ℕ) → Stands items p → i ≡ earliest test p.arrivals.items p.expiries.items (length p.arrivals.items)
      → slice_get (map (λ (x : Item). x.order) items) i ≡ find (λ o. test (expiry_of o)) (map (λ (x : Item). x.order) items)
  order_there items p i s e =
      ap (slice_get (map (λ (x : Item). x.order) items)) (e ∙ ap (λ k. earliest test k p.expiries.items (length k)) s.keys ∙ same) ∙ found_there items
    where
      above : at_first items ≤ earliest test (keys_of items) p.expiries.items (length (keys_of items))
      above = earliest_above (keys_of items) p.expiries.items (length (keys_of items)) (at_first items) s.sorted.expiries (first_most items)
          (λ n f g t. first_above items n f s.distinct t (sym (s.expiries n) ∙ g))

      upto : at_first items < length (keys_of items) → earliest test (keys_of items) p.expiries.items (length (keys_of items)) ≤ at_first items
      upto w =
          let m : Ended items (at_first items) = first_ended items w in
          let a = earliest_row (keys_of items) p.expiries.items (length (keys_of items)) m.name m.ends (s.expiries m.name ∙ m.here) m.passes in
          let b = m.before in
          omega (arith, a, b)

      same : earliest test (keys_of items) p.expiries.items (length (keys_of items)) ≡ at_first items
      same = go (nat_lt (at_first items) (length (keys_of items))) refl
        where
          go : (b : Bool) → nat_lt (at_first items) (length (keys_of items)) ≡ b → earliest test (keys_of items) p.expiries.items (length (keys_of items)) ≡ at_first items
          go true f = let a = upto (ltb-true (at_first items) (length (keys_of items)) f) in omega (arith, above, a)
          go false f =
              let a = earliest_upto (keys_of items) p.expiries.items (length (keys_of items)) in
              let b = first_most items in
              let c : length (keys_of items) ≤ at_first items = ltb-false (at_first items) (length (keys_of items)) f in
              omega (arith, above, a, b, c)
