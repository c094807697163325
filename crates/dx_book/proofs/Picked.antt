-- The best order of a side, and of those behind a price, by the first of its levels.
use Rattle.std.proofs.Common.{◌≡◌, ℕ, ◌==◌, ◌<◌, Bool, true, false, not, ◌&&◌, cond, T, Option, None, Some, List, [], ◌∷◌, ◌++◌, filter, map, drop, suc, refl, sym, ap, ◌∙◌, subst, arith}
use Rattle.std.specs.Prelude.{IsSome, IfSome, option_map, find, nat_lt}
use Rattle.std.specs.List.{AllByRecursion}
use Rattle.std.specs.declared.cmp.Ordering.{Ordering}
use Rattle.std.specs.declared.cmp.Ordering.TheVariants.{Less, Equal, Greater}
use Rattle.std.specs.Ordering.{eq_by_cmp, is_eq, is_lt, is_gt, nat_cmp, ordering_then}
use Rattle.std.specs.Cmp.{nat_cmp_is, IsEquivalence, eq_by_cmp_equiv}
use Rattle.std.specs.FinMap.Entries as rows
use Rattle.std.proofs.lemmas.Bool.{and_parts, eqb-true, eq-eqb, ltb-true}
use Rattle.std.proofs.lemmas.Bool.Decides.{nat_tests}
use Rattle.dx_types.specs.declared.Order.{Order}
use Rattle.dx_spec.specs.Orders.{is_same_side}
use Rattle.dx_spec.proofs.Entries.{is_key}
use Rattle.dx_book.specs.Picks.{before, front, pick}
use Rattle.dx_book.specs.Chains.{ends_of}
use Rattle.dx_book.specs.Names.{price_cmp, level_cmp, level_of}
use Rattle.dx_book.specs.Orders.{level_total, level_exact}
use Rattle.dx_book.specs.Levels.{is_better_price, is_behind, first_level, start_of}
use Rattle.dx_book.specs.Tables.{places_below}
use Rattle.dx_book.specs.Held.{Item, item_at, item_at_key, chain_of}
use Rattle.dx_book.specs.Standing.{has, AreDistinct, HasEnds, Stands}
use Rattle.dx_book.specs.declared.names.Level.{Level}
use Rattle.dx_book.specs.declared.ends.Ends.{Ends}
use Rattle.dx_book.specs.declared.parts.Parts.{Parts}
use Rattle.dx_book.proofs.Rows.{look, row_own, rows_first, none_passes}
use Rattle.dx_book.proofs.Chained as chained
use Rattle.dx_book.proofs.Named.{key_of, keys_of}
use Rattle.dx_book.proofs.Items.{all_at}

-- a price that is not behind is not worse
pub not_worse : (buy : Bool) (s t : ℕ) → is_gt (price_cmp buy s buy t) ≡ false → is_better_price buy t s ≡ false
not_worse true s t h = go (nat_lt s t) refl
  where
    go : (b : Bool) → nat_lt s t ≡ b → b ≡ false
    go true e =
        let g : Greater ≡ nat_cmp t s = nat_cmp_is t s Greater (ltb-true s t e) in
        absurd (let k : true ≡ false = ap is_gt g ∙ h in cc)
    go false e = refl
not_worse false s t h = go (nat_lt t s) refl
  where
    go : (b : Bool) → nat_lt t s ≡ b → b ≡ false
    go true e =
        let g : Greater ≡ nat_cmp s t = nat_cmp_is s t Greater (ltb-true t s e) in
        absurd (let k : true ≡ false = ap is_gt g ∙ h in cc)
    go false e = refl

-- and another one is better
pub better : (buy : Bool) (s t : ℕ) → is_gt (price_cmp buy s buy t) ≡ false → is_eq (price_cmp buy s buy t) ≡ false → is_better_price buy s t ≡ true
better true s t g e = go (nat_lt t s) (t == s) g e
  where
    go : (b c : Bool) → is_gt (cond b Less (cond c Equal Greater)) ≡ false → is_eq (cond b Less (cond c Equal Greater)) ≡ false → b ≡ true
    go true c g e = refl
    go false true g e = absurd (cc)
    go false false g e = absurd (cc)
better false s t g e = go (nat_lt s t) (s == t) g e
  where
    go : (b c : Bool) → is_gt (cond b Less (cond c Equal Greater)) ≡ false → is_eq (cond b Less (cond c Equal Greater)) ≡ false → b ≡ true
    go true c g e = refl
    go false true g e = absurd (cc)
    go false false g e = absurd (cc)

sides_one : (buy other : Bool) → is_same_side buy other ≡ true → other ≡ buy
sides_one true true e = refl
sides_one true false e = absurd (cc)
sides_one false true e = absurd (cc)
sides_one false false e = refl

same_market : (n : ℕ) → nat_cmp n n ≡ Equal
same_market n = sym (nat_cmp_is n n Equal refl)

-- two levels of a side compare by their prices
pub on_side : (market : ℕ) (buy : Bool) (a b : Level) → (a.market == market && is_same_side buy a.buy) ≡ true → (b.market == market && is_same_side buy b.buy) ≡ true
    → level_cmp a b ≡ price_cmp buy a.subticks buy b.subticks
on_side market buy a b e f =
    let l = and_parts (a.market == market) (is_same_side buy a.buy) e in
    let r = and_parts (b.market == market) (is_same_side buy b.buy) f in
    let one : a.market ≡ market = eqb-true a.market market l.0 in
    let two : b.market ≡ market = eqb-true b.market market r.0 in
    (λ i. ordering_then (nat_cmp (one i) (two i)) (price_cmp (sides_one buy a.buy l.1 i) a.subticks (sides_one buy b.buy r.1 i) b.subticks))
    ∙ ap (λ o. ordering_then o (price_cmp buy a.subticks buy b.subticks)) (same_market market)

-- a level behind a price is of the side
pub of_side : (market : ℕ) (buy : Bool) (price : Option ℕ) (l : Level) → is_behind market buy price l ≡ true → (l.market == market && is_same_side buy l.buy) ≡ true
of_side market buy None l e = e
of_side market buy (Some s) l e = (and_parts (l.market == market && is_same_side buy l.buy) (is_better_price buy s l.subticks) e).0

-- what holds of each that passes holds of the one picked
picked : {X : Type 0} (lt : X → X → Bool) (test : X → Bool) (P : X → Type 0) (xs : List X) → AllByRecursion (λ x. test x ≡ true → P x) xs → IfSome (pick lt test xs None) P
picked lt test P [] a = tt
picked lt test P (x ∷ xs) a = go (test x) refl (picked lt test P xs a.1)
  where
    one : (r : Option _) → P x → IfSome r P → P (front lt x r)
    one None p q = p
    one (Some y) p q = go2 (lt y x)
      where
        go2 : (b : Bool) → P (cond b y x)
        go2 true = q
        go2 false = p

    go : (b : Bool) → test x ≡ b → IfSome (pick lt test xs None) P → IfSome (cond b (Some (front lt x (pick lt test xs None))) (pick lt test xs None)) P
    go true e more = one (pick lt test xs None) (a.0 e) more
    go false e more = more

-- x is among the best that pass, those that are as good are the same, and they pass
abbrev pub Fits : {X : Type 0} → (X → X → Bool) → (X → Bool) → (X → Bool) → X → X → Type 0
Fits lt same test x z = (same z ≡ true → test z ≡ true) × (test z ≡ true → lt z x ≡ false) × (test z ≡ true → same z ≡ false → lt x z ≡ true)

-- then the first of the same is picked
pub pick_first : {X : Type 0} (lt : X → X → Bool) (same test : X → Bool) (x : X) (xs : List X) → find same xs ≡ Some x → AllByRecursion (Fits lt same test x) xs → pick lt test xs None ≡ Some x
pick_first lt same test x [] e a = absurd (cc)
pick_first lt same test x (z ∷ zs) e a = go (same z) (test z) refl refl e (pick_first lt same test x zs)
  where
    weaker : (ys : List _) → AllByRecursion (Fits lt same test x) ys → AllByRecursion (λ y. test y ≡ true → lt y x ≡ false) ys
    weaker [] b = tt
    weaker (y ∷ ys) b = (b.0.1, weaker ys b.1)

    stays : z ≡ x → (r : Option _) → IfSome r (λ y. lt y x ≡ false) → Some (front lt z r) ≡ Some x
    stays s None h = ap Some s
    stays s (Some y) h = (λ i. Some (cond (lt y (s i)) y (s i))) ∙ (λ i. Some (cond (h i) y x))

    go : (b c : Bool) → same z ≡ b → test z ≡ c → cond b (Some z) (find same zs) ≡ Some x → (find same zs ≡ Some x → AllByRecursion (Fits lt same test x) zs → pick lt test zs None ≡ Some x)
        → cond c (Some (front lt z (pick lt test zs None))) (pick lt test zs None) ≡ Some x
    go true false f g e more = absurd (let i : true ≡ false = sym (a.0.0 f) ∙ g in cc)
    go true true f g e more =
        let one : z ≡ x = cc in
        stays one (pick lt test zs None) (picked lt test (λ y. lt y x ≡ false) zs (weaker zs a.1))
    go false true f g e more =
        let worse : lt x z ≡ true = a.0.2 g f in
        ap (λ r. Some (front lt z r)) (more e a.1) ∙ (λ i. Some (cond (worse i) x z))
    go false false f g e more = more e a.1

pub pick_none : {X : Type 0} (lt : X → X → Bool) (test : X → Bool) (xs : List X) → AllByRecursion (λ x. test x ≡ false) xs → pick lt test xs None ≡ None
pick_none lt test [] a = refl
pick_none lt test (x ∷ xs) a = (λ i. cond (a.0 i) (Some (front lt x (pick lt test xs None))) (pick lt test xs None)) ∙ pick_none lt test xs a.1

-- what is found among the orders of items
pub find_order : (test : Order → Bool) (items : List Item) → find test (map (λ x. x.order) items) ≡ option_map (λ (x : Item). x.order) (find (λ x. test x.order) items)
find_order test [] = refl
find_order test (x ∷ xs) = go (test x.order) (find_order test xs)
  where
    go : (b : Bool) → find test (map (λ x. x.order) xs) ≡ option_map (λ (x : Item). x.order) (find (λ x. test x.order) xs)
        → cond b (Some x.order) (find test (map (λ x. x.order) xs)) ≡ option_map (λ (x : Item). x.order) (cond b (Some x) (find (λ x. test x.order) xs))
    go true e = refl
    go false e = e

pub all_orders : (P : Order → Type 0) (items : List Item) → AllByRecursion (λ x. P x.order) items → AllByRecursion P (map (λ x. x.order) items)
all_orders P [] a = tt
all_orders P (x ∷ xs) a = (a.0, all_orders P xs a.1)

-- the item found is at its key, and passes
pub found_item : (test : Item → Bool) (all items : List Item) (x : Item) → AllByRecursion (λ y. item_at y.key all ≡ Some y) items → find test items ≡ Some x → (item_at x.key all ≡ Some x) × (test x ≡ true)
found_item test all [] x a e = absurd (cc)
found_item test all (y ∷ ys) x a e = go (test y) refl e (found_item test all ys x a.1)
  where
    go : (b : Bool) → test y ≡ b → cond b (Some y) (find test ys) ≡ Some x → (find test ys ≡ Some x → (item_at x.key all ≡ Some x) × (test x ≡ true)) → (item_at x.key all ≡ Some x) × (test x ≡ true)
    go true f e more =
        let one : y ≡ x = cc in
        (subst (λ z. item_at z.key all ≡ Some z) one a.0, ap test (sym one) ∙ f)
    go false f e more = more e

-- the first key of a chain is that of the first that passes
pub record FirstOf (test : Item → Bool) (items : List Item) (key : ℕ) : Type 0 where
  pub item : Item
  pub found : find test items ≡ Some item
  pub at : item.key ≡ key

pub chain_first : (test : Item → Bool) (items : List Item) (e : Ends) → ends_of (map (λ x. x.key) (filter test items)) ≡ Some e → FirstOf test items e.first
chain_first test [] e f = absurd (cc)
chain_first test (x ∷ xs) e f = go (test x) refl f (chain_first test xs e)
  where
    go : (b : Bool) → test x ≡ b → ends_of (map (λ y. y.key) (cond b (x ∷ filter test xs) (filter test xs))) ≡ Some e → (ends_of (map (λ y. y.key) (filter test xs)) ≡ Some e → FirstOf test xs e.first) → FirstOf test (x ∷ xs) e.first
    go true g f more = record { item = x; found = (λ i. cond (g i) (Some x) (find test xs)); at = ap first_or f }
      where
        first_or : Option Ends → ℕ
        first_or None = 0
        first_or (Some d) = d.first
    go false g f more = let m = more f in record { item = m.item; found = (λ i. cond (g i) (Some x) (find test xs)) ∙ m.found; at = m.at }

pub ends_some : (k : ℕ) (ks : List ℕ) → has k ks ≡ true → IsSome (ends_of ks)
ends_some k [] h = absurd (cc)
ends_some k (x ∷ xs) h = refl

module _ (items : List Item) (p : Parts) (stands : Stands items p) where
  own_level : (l : Level) → eq_by_cmp level_cmp l l ≡ true
  own_level l = let e : IsEquivalence (eq_by_cmp level_cmp) = eq_by_cmp_equiv level_total in e.refl l

  -- the level of each order has its row
  has_row : (xs : List Item) → AllByRecursion (λ x. item_at x.key items ≡ Some x) xs → AllByRecursion (λ x. IsSome (rows.find level_cmp (level_of x.order) p.levels.items)) xs
  has_row [] a = tt
  has_row (x ∷ xs) a = (
    subst IsSome (sym (stands.levels (level_of x.order)))
        (ends_some x.key _ (chained.in_own key_of (eq_by_cmp level_cmp) (λ b c e. is_key level_cmp level_exact b c e) own_level (λ y. level_of y.order) x.key items x a.0)),
    has_row xs a.1,
  )

  -- the first order of the first level that passes is the best of the orders of such levels
  pub level_best : (market : ℕ) (buy : Bool) (price : Option ℕ)
      → (option_map (λ (x : Item). x.order) (item_at_key (first_level (is_behind market buy price) p.levels.items) items) ≡ pick (before buy) (λ o. is_behind market buy price (level_of o)) (map (λ x. x.order) items) None)
      × IfSome (first_level (is_behind market buy price) p.levels.items) (λ key. IsSome (item_at key items))
  level_best market buy price = go (look (is_behind market buy price) p.levels.items) refl
    where
      passes : Order → Bool
      passes o = is_behind market buy price (level_of o)

      none : look (is_behind market buy price) p.levels.items ≡ None → (xs : List Item) → AllByRecursion (λ x. IsSome (rows.find level_cmp (level_of x.order) p.levels.items)) xs
          → AllByRecursion (λ x. is_behind market buy price (level_of x.order) ≡ false) xs
      none e [] a = tt
      none e (x ∷ xs) a = (none_passes level_cmp level_total level_exact (is_behind market buy price) p.levels.items (level_of x.order) e a.0, none e xs a.1)

      fits : (row : Level × Ends) (x : Item) → look (is_behind market buy price) p.levels.items ≡ Some row → row.0 ≡ level_of x.order → is_behind market buy price row.0 ≡ true → (xs : List Item)
          → AllByRecursion (λ z. IsSome (rows.find level_cmp (level_of z.order) p.levels.items)) xs
          → AllByRecursion (λ z. Fits (before buy) (λ o. eq_by_cmp level_cmp row.0 (level_of o)) (λ o. is_behind market buy price (level_of o)) x.order z.order) xs
      fits row x e at t [] a = tt
      fits row x e at t (z ∷ zs) a = (
        (
          λ same. ap (is_behind market buy price) (sym (is_key level_cmp level_exact row.0 (level_of z.order) same)) ∙ t,
          λ h. not_worse buy x.order.subticks z.order.subticks (ap is_gt (sym (cmp h)) ∙ after h),
          λ h apart. better buy x.order.subticks z.order.subticks (ap is_gt (sym (cmp h)) ∙ after h) (ap is_eq (sym (cmp h)) ∙ apart),
        ),
        fits row x e at t zs a.1,
      )
        where
          after : is_behind market buy price (level_of z.order) ≡ true → is_gt (level_cmp row.0 (level_of z.order)) ≡ false
          after h = rows_first level_cmp level_total level_exact (is_behind market buy price) p.levels.items row (level_of z.order) stands.sorted.levels e a.0 h

          cmp : is_behind market buy price (level_of z.order) ≡ true → level_cmp row.0 (level_of z.order) ≡ price_cmp buy x.order.subticks buy z.order.subticks
          cmp h =
              on_side market buy row.0 (level_of z.order) (of_side market buy price row.0 t) (of_side market buy price (level_of z.order) h)
              ∙ ap (λ (l : Level). price_cmp buy l.subticks buy z.order.subticks) at

      found : (row : Level × Ends) → look (is_behind market buy price) p.levels.items ≡ Some row → FirstOf (λ x. eq_by_cmp level_cmp row.0 (level_of x.order)) items row.1.first → is_behind market buy price row.0 ≡ true
          → (option_map (λ (x : Item). x.order) (item_at row.1.first items) ≡ pick (before buy) (λ o. is_behind market buy price (level_of o)) (map (λ x. x.order) items) None) × IsSome (item_at row.1.first items)
      found row e f t =
          let here = found_item (λ x. eq_by_cmp level_cmp row.0 (level_of x.order)) items items f.item (all_at items stands.distinct) f.found in
          let at : item_at row.1.first items ≡ Some f.item = ap (λ k. item_at k items) (sym f.at) ∙ here.0 in
          let level : row.0 ≡ level_of f.item.order = is_key level_cmp level_exact row.0 (level_of f.item.order) here.1 in
          let best : pick (before buy) (λ o. is_behind market buy price (level_of o)) (map (λ x. x.order) items) None ≡ Some f.item.order =
          pick_first (before buy) (λ o. eq_by_cmp level_cmp row.0 (level_of o)) (λ o. is_behind market buy price (level_of o)) f.item.order (map (λ x. x.order) items)
          (find_order (λ o. eq_by_cmp level_cmp row.0 (level_of o)) items ∙ ap (option_map (λ (x : Item). x.order)) f.found)
          (all_orders (Fits (before buy) (λ o. eq_by_cmp level_cmp row.0 (level_of o)) (λ o. is_behind market buy price (level_of o)) f.item.order) items
          (fits row f.item e level t items (has_row items (all_at items stands.distinct)))) in
          (ap (option_map (λ (x : Item). x.order)) at ∙ sym best, subst IsSome (sym at) refl)

      passing : (rs : List (Level × Ends)) (row : Level × Ends) → look (is_behind market buy price) rs ≡ Some row → is_behind market buy price row.0 ≡ true
      passing [] row e = absurd (cc)
      passing (r ∷ rs) row e = go3 (is_behind market buy price r.0) refl e (passing rs row)
        where
          go3 : (b : Bool) → is_behind market buy price r.0 ≡ b → cond b (Some r) (look (is_behind market buy price) rs) ≡ Some row → (look (is_behind market buy price) rs ≡ Some row → is_behind market buy price row.0 ≡ true)
              → is_behind market buy price row.0 ≡ true
          go3 true f e more = let one : r ≡ row = cc in ap (λ (z : Level × Ends). is_behind market buy price z.0) (sym one) ∙ f
          go3 false f e more = more e

      go : (r : Option (Level × Ends)) → look (is_behind market buy price) p.levels.items ≡ r
          → (option_map (λ (x : Item). x.order) (item_at_key (first_level (is_behind market buy price) p.levels.items) items) ≡ pick (before buy) (λ o. is_behind market buy price (level_of o)) (map (λ x. x.order) items) None)
          × IfSome (first_level (is_behind market buy price) p.levels.items) (λ key. IsSome (item_at key items))
      go None e =
          let key : first_level (is_behind market buy price) p.levels.items ≡ None = ap (option_map (λ (row : Level × Ends). row.1.first)) e in (
            ap (λ k. option_map (λ (x : Item). x.order) (item_at_key k items)) key
                ∙ sym (pick_none (before buy) (λ o. is_behind market buy price (level_of o)) (map (λ x. x.order) items)
                (all_orders (λ o. is_behind market buy price (level_of o) ≡ false) items (none e items (has_row items (all_at items stands.distinct))))),
            subst (λ k. IfSome k (λ key. IsSome (item_at key items))) (sym key) tt,
          )
      go (Some row) e =
          let key : first_level (is_behind market buy price) p.levels.items ≡ Some row.1.first = ap (option_map (λ (row : Level × Ends). row.1.first)) e in
          let both = found row e
          (chain_first (λ x. eq_by_cmp level_cmp row.0 (level_of x.order)) items row.1
          (sym (stands.levels row.0) ∙ row_own level_cmp level_total (is_behind market buy price) p.levels.items row stands.sorted.levels e))
          (passing p.levels.items row e) in
          (ap (λ k. option_map (λ (x : Item). x.order) (item_at_key k items)) key ∙ both.0, subst (λ k. IfSome k (λ key. IsSome (item_at key items))) (sym key) both.1)

-- where all rows before the place of a name fail, the search may begin there
from_there : (test : Level → Bool) (n : Level) → ((l : Level) → level_cmp n l ≡ Greater → test l ≡ false) → (levels : List (Level × Ends)) → look test (drop (places_below level_cmp n levels) levels) ≡ look test levels
from_there test n fails [] = refl
from_there test n fails (r ∷ rs) = go (level_cmp n r.0) refl (from_there test n fails rs)
  where
    go : (o : Ordering) → level_cmp n r.0 ≡ o → look test (drop (places_below level_cmp n rs) rs) ≡ look test rs
        → look test (drop (rows.by_order o 0 0 (suc (places_below level_cmp n rs))) (r ∷ rs)) ≡ cond (test r.0) (Some r) (look test rs)
    go Less e more = refl
    go Equal e more = refl
    go Greater e more = more ∙ (λ i. cond (sym (fails r.0 e) i) (Some r) (look test rs))

worse_fails : (buy : Bool) (s t : ℕ) → price_cmp buy s buy t ≡ Greater → is_better_price buy s t ≡ false
worse_fails true s t e = go (nat_lt t s) (t == s) e
  where
    go : (b c : Bool) → cond b Less (cond c Equal Greater) ≡ Greater → b ≡ false
    go true c e = absurd (cc)
    go false c e = refl
worse_fails false s t e = go (nat_lt s t) (s == t) e
  where
    go : (b c : Bool) → cond b Less (cond c Equal Greater) ≡ Greater → b ≡ false
    go true c e = absurd (cc)
    go false c e = refl

own_side : (l : Level) → (l.market == l.market && is_same_side l.buy l.buy) ≡ true
own_side l = (λ i. eq-eqb l.market l.market refl i && is_same_side l.buy l.buy) ∙ go l.buy
  where
    go : (b : Bool) → is_same_side b b ≡ true
    go true = refl
    go false = refl

-- a level before another is not behind it
before_fails : (n l : Level) → level_cmp n l ≡ Greater → is_behind n.market n.buy (Some n.subticks) l ≡ false
before_fails n l e = go (l.market == n.market && is_same_side n.buy l.buy) refl
  where
    go : (b : Bool) → (l.market == n.market && is_same_side n.buy l.buy) ≡ b → (b && is_better_price n.buy n.subticks l.subticks) ≡ false
    go false f = refl
    go true f = worse_fails n.buy n.subticks l.subticks (sym (on_side n.market n.buy n l (own_side n) f) ∙ e)

-- and none before the start of a side is of it
start_fails : (market : ℕ) (buy : Bool) (l : Level) → level_cmp (start_of market buy) l ≡ Greater → is_behind market buy None l ≡ false
start_fails market buy l e = go (l.market == market && is_same_side buy l.buy) refl
  where
    price : (b : Bool) (t : ℕ) → price_cmp false (cond b 18_446_744_073_709_551_615 0) b t ≡ Greater → false ≡ true
    price true t h = absurd (cc)
    price false t h = go2 (nat_lt 0 t) (0 == t) refl refl h
      where
        none : nat_lt 0 t ≡ false → (0 == t) ≡ false → false ≡ true
        none f g = grind (arith, nat_tests)

        go2 : (b c : Bool) → nat_lt 0 t ≡ b → (0 == t) ≡ c → cond b Less (cond c Equal Greater) ≡ Greater → false ≡ true
        go2 true c f g h = absurd (cc)
        go2 false true f g h = absurd (cc)
        go2 false false f g h = none f g

    go : (b : Bool) → (l.market == market && is_same_side buy l.buy) ≡ b → b ≡ false
    go false f = refl
    go true f =
        let parts = and_parts (l.market == market) (is_same_side buy l.buy) f in
        let one : l.market ≡ market = eqb-true l.market market parts.0 in
        let same : level_cmp (start_of market buy) l ≡ price_cmp false (cond buy 18_446_744_073_709_551_615 0) buy l.subticks =
        (λ i. ordering_then (nat_cmp market (one i)) (price_cmp false (cond buy 18_446_744_073_709_551_615 0) (sides_one buy l.buy parts.1 i) l.subticks))
        ∙ ap (λ o. ordering_then o (price_cmp false (cond buy 18_446_744_073_709_551_615 0) buy l.subticks)) (same_market market) in
        sym (price buy l.subticks (sym same ∙ e))

pub best_from : (market : ℕ) (buy : Bool) (levels rest : List (Level × Ends)) (i : ℕ) (n : Level) (r : Option ℕ) → n ≡ start_of market buy → i ≡ places_below level_cmp n levels → rest ≡ drop i levels
    → r ≡ first_level (is_behind market buy None) rest → r ≡ first_level (is_behind market buy None) levels
best_from market buy levels rest i n r a b c d =
    d ∙ ap (first_level (is_behind market buy None)) (c ∙ ap (λ j. drop j levels) (b ∙ ap (λ m. places_below level_cmp m levels) a))
    ∙ ap (option_map (λ (row : Level × Ends). row.1.first)) (from_there (is_behind market buy None) (start_of market buy) (start_fails market buy) levels)

pub behind_from : (n : Level) (levels rest : List (Level × Ends)) (i : ℕ) (r : Option ℕ) → i ≡ places_below level_cmp n levels → rest ≡ drop i levels
    → r ≡ first_level (is_behind n.market n.buy (Some n.subticks)) rest → r ≡ first_level (is_behind n.market n.buy (Some n.subticks)) levels
behind_from n levels rest i r b c d =
    d ∙ ap (first_level (is_behind n.market n.buy (Some n.subticks))) (c ∙ ap (λ j. drop j levels) b)
    ∙ ap (option_map (λ (row : Level × Ends). row.1.first)) (from_there (is_behind n.market n.buy (Some n.subticks)) n (before_fails n) levels)
