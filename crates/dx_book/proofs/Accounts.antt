-- The short-term orders of an account, along its chain.
use Rattle.std.proofs.Common.{◌≡◌, ℕ, zero, suc, ◌+◌, ◌<◌, ◌≤◌, ◌==◌, Bool, true, false, not, ◌&&◌, cond, Option, None, Some, List, [], ◌∷◌, ◌++◌, filter, map, length, refl, sym, ap, ◌∙◌, subst, arith}
use Rattle.std.specs.Prelude.{IsSome, IfSome, option_map, find, slice_get}
use Rattle.std.specs.List.{AllByRecursion}
use Rattle.std.specs.Ordering.{eq_by_cmp}
use Rattle.std.specs.Cmp.{IsEquivalence, eq_by_cmp_equiv}
use Rattle.std.specs.FinMap.Entries as rows
use Rattle.std.proofs.lemmas.Bool.{eqb-true}
use Rattle.dx_types.specs.Keys.{order_id_cmp, subaccount_cmp, subaccount_total, subaccount_exact}
use Rattle.dx_types.specs.declared.SubaccountId.{SubaccountId}
use Rattle.dx_types.specs.declared.OrderId.{OrderId}
use Rattle.dx_types.specs.declared.Order.{Order}
use Rattle.dx_spec.specs.State.{is_short_term, is_same_account}
use Rattle.dx_spec.specs.Orders.{is_same_id}
use Rattle.dx_spec.proofs.Entries.{is_key}
use Rattle.dx_spec.proofs.Each.{neither}
use Rattle.dx_node_spec.specs.Book.{resting, HasOnePerId}
use Rattle.dx_spec.proofs.Same.{own_id, swapped_ids, one_id}
use Rattle.dx_arena.specs.Nodes.{node_at}
use Rattle.dx_arena.specs.declared.node.Node.{Node}
use Rattle.dx_book.specs.Chains.{after_in, ends_of}
use Rattle.dx_book.specs.Ways.{behind, has_id, is_short_term_of, of_account, after_of_account}
use Rattle.dx_book.specs.Held.{Item, item_at, node_in, chain_of}
use Rattle.dx_book.specs.Walking.{of_who, from_key}
use Rattle.dx_book.specs.Standing.{has, AreDistinct, Stands}
use Rattle.dx_book.specs.declared.ends.Ends.{Ends}
use Rattle.dx_book.specs.declared.parts.Parts.{Parts}
use Rattle.dx_book.proofs.Keys.{same_key, key_swap}
use Rattle.dx_book.proofs.Chained as chained
use Rattle.dx_book.proofs.Named.{key_of, keys_of}
use Rattle.dx_book.proofs.Items.{all_at}
use Rattle.dx_book.proofs.Walks.{filter_shorter}
use Rattle.dx_book.proofs.Next.{Around, around_item, map_append}
use Rattle.dx_book.proofs.Ids.{no_other}

some_key : (k : ℕ) (xs : List Item) → IsSome (item_at k xs) → has k (keys_of xs) ≡ true
some_key k [] h = absurd (cc)
some_key k (x ∷ xs) h = go (x.key == k) h (some_key k xs)
  where
    go : (b : Bool) → IsSome (cond b (Some x) (item_at k xs)) → (IsSome (item_at k xs) → has k (keys_of xs) ≡ true) → cond b true (has k (keys_of xs)) ≡ true
    go true h more = refl
    go false h more = more h

-- one step along a chain
pub record Step (c : List Item) (k : ℕ) (x : Item) : Type 0 where
  pub later : List Item
  pub from : from_key (Some k) c ≡ x ∷ later
  pub after : from_key (after_in (keys_of c) k) c ≡ later
  pub held : IfSome (after_in (keys_of c) k) (λ j. IsSome (item_at j c))

pub step : (c : List Item) (k : ℕ) (x : Item) → AreDistinct (keys_of c) → item_at k c ≡ Some x → Step c k x
step [] k x d e = absurd (cc)
step (y ∷ ys) k x d e = go (y.key == k) refl e (λ f. step ys k x d.1 f)
  where
    second : (zs : List Item) → has y.key (keys_of zs) ≡ false → (from_key (slice_get (keys_of zs) 0) (y ∷ zs) ≡ zs) × IfSome (slice_get (keys_of zs) 0) (λ j. IsSome (item_at j (y ∷ zs)))
    second [] h = (refl, tt)
    second (z ∷ zs) h = go2 (z.key == y.key) refl h
      where
        go2 : (b : Bool) → (z.key == y.key) ≡ b → cond b true (has y.key (keys_of zs)) ≡ false → (from_key (Some z.key) (y ∷ z ∷ zs) ≡ z ∷ zs) × IsSome (item_at z.key (y ∷ z ∷ zs))
        go2 true f h = absurd (cc)
        go2 false f h =
            let apart : (y.key == z.key) ≡ false = key_swap y.key z.key ∙ f in (
              (λ i. cond (apart i) (y ∷ z ∷ zs) (cond (same_key z.key i) (z ∷ zs) (from_key (Some z.key) zs))),
              subst IsSome (sym (λ i. cond (apart i) (Some y) (cond (same_key z.key i) (Some z) (item_at z.key zs)))) refl,
            )

    past : (o : Option ℕ) (l : List Item) → has y.key (keys_of ys) ≡ false → from_key o ys ≡ l → IfSome o (λ j. IsSome (item_at j ys)) → (from_key o (y ∷ ys) ≡ l) × IfSome o (λ j. IsSome (item_at j (y ∷ ys)))
    past None l n f h = (f, tt)
    past (Some j) l n f h = go3 (y.key == j) refl
      where
        go3 : (b : Bool) → (y.key == j) ≡ b → (cond b (y ∷ ys) (from_key (Some j) ys) ≡ l) × IsSome (cond b (Some y) (item_at j ys))
        go3 true g = absurd (let i : true ≡ false = sym (some_key j ys h) ∙ ap (λ m. has m (keys_of ys)) (sym (eqb-true y.key j g)) ∙ n in cc)
        go3 false g = (f, h)

    go : (b : Bool) → (y.key == k) ≡ b → cond b (Some y) (item_at k ys) ≡ Some x → (item_at k ys ≡ Some x → Step ys k x) → Step (y ∷ ys) k x
    go true f e more =
        let one : y ≡ x = cc in
        let s = second ys d.0 in
        record {
          later = ys;
          from = (λ i. cond (f i) (y ∷ ys) (from_key (Some k) ys)) ∙ ap (λ z. z ∷ ys) one;
          after = (λ i. from_key (cond (f i) (slice_get (keys_of ys) 0) (after_in (keys_of ys) k)) (y ∷ ys)) ∙ s.0;
          held = subst (λ o. IfSome o (λ j. IsSome (item_at j (y ∷ ys)))) (sym (λ i. cond (f i) (slice_get (keys_of ys) 0) (after_in (keys_of ys) k))) s.1;
        }
    go false f e more =
        let m = more e in
        let p = past (after_in (keys_of ys) k) m.later d.0 m.after m.held in
        record {
          later = m.later;
          from = (λ i. cond (f i) (y ∷ ys) (from_key (Some k) ys)) ∙ m.from;
          after = (λ i. from_key (cond (f i) (slice_get (keys_of ys) 0) (after_in (keys_of ys) k)) (y ∷ ys)) ∙ p.0;
          held = subst (λ o. IfSome o (λ j. IsSome (item_at j (y ∷ ys)))) (sym (λ i. cond (f i) (slice_get (keys_of ys) 0) (after_in (keys_of ys) k))) p.1;
        }

-- an item of an account's chain is an item
in_chain : (who : SubaccountId) (all items : List Item) (k : ℕ) (x : Item) → AllByRecursion (λ y. item_at y.key all ≡ Some y) items → item_at k (of_who who items) ≡ Some x → (item_at k all ≡ Some x) × (eq_by_cmp subaccount_cmp who x.order.id.who ≡ true)
in_chain who all [] k x a e = absurd (cc)
in_chain who all (y ∷ ys) k x a e = go (eq_by_cmp subaccount_cmp who y.order.id.who) refl e (in_chain who all ys k x a.1)
  where
    go : (b : Bool) → eq_by_cmp subaccount_cmp who y.order.id.who ≡ b → item_at k (cond b (y ∷ of_who who ys) (of_who who ys)) ≡ Some x
        → (item_at k (of_who who ys) ≡ Some x → (item_at k all ≡ Some x) × (eq_by_cmp subaccount_cmp who x.order.id.who ≡ true)) → (item_at k all ≡ Some x) × (eq_by_cmp subaccount_cmp who x.order.id.who ≡ true)
    go true f e more = go2 (y.key == k) refl e more
      where
        go2 : (c : Bool) → (y.key == k) ≡ c → cond c (Some y) (item_at k (of_who who ys)) ≡ Some x
            → (item_at k (of_who who ys) ≡ Some x → (item_at k all ≡ Some x) × (eq_by_cmp subaccount_cmp who x.order.id.who ≡ true)) → (item_at k all ≡ Some x) × (eq_by_cmp subaccount_cmp who x.order.id.who ≡ true)
        go2 true g e more =
            let one : y ≡ x = cc in
            (ap (λ m. item_at m all) (sym (eqb-true y.key k g)) ∙ a.0 ∙ ap (λ z. Some z) one, ap (λ (z : Item). eq_by_cmp subaccount_cmp who z.order.id.who) (sym one) ∙ f)
        go2 false g e more = more e
    go false f e more = more e

-- one step of the walk over an account
pub record Walked (who : SubaccountId) (items : List Item) (p : Parts) (k : ℕ) (n : Node) : Type 0 where
  pub later : List Item
  pub item : Item
  pub from : from_key (Some k) (of_who who items) ≡ item ∷ later
  pub order : n.order ≡ item.order
  pub after : from_key n.account.after (of_who who items) ≡ later
  pub held : IfSome n.account.after (λ j. IsSome (item_at j (of_who who items)))

pub walked : (who : SubaccountId) (items : List Item) (p : Parts) (k : ℕ) (n : Node) → Stands items p → IsSome (item_at k (of_who who items)) → node_at p.arena k ≡ Some n → Walked who items p k n
walked who items p k n s h f = go (item_at k (of_who who items)) refl h
  where
    own : (a : SubaccountId) → eq_by_cmp subaccount_cmp a a ≡ true
    own a = let l : IsEquivalence (eq_by_cmp subaccount_cmp) = eq_by_cmp_equiv subaccount_total in l.refl a

    distinct : AreDistinct (keys_of (of_who who items))
    distinct = chained.distinct_chain key_of (eq_by_cmp subaccount_cmp) (λ a b e. is_key subaccount_cmp subaccount_exact a b e) own (λ x. x.order.id.who) who items s.distinct

    go : (x : Option Item) → item_at k (of_who who items) ≡ x → IsSome x → Walked who items p k n
    go None e h = absurd (cc)
    go (Some x) e h =
        let there = in_chain who items items k x (all_at items s.distinct) e in
        let g : Some n ≡ Some (node_in items x) = sym f ∙ s.nodes k ∙ ap (option_map (node_in items)) there.0 in
        let same : n ≡ node_in items x = cc in
        let at : x.key ≡ k = chained.key_at key_of (λ (b c : OrderId). is_same_id b c) (λ b c h. one_id b c h) (λ b. own_id b) (λ x. x.order.id) k items x there.0 in
        let account : who ≡ x.order.id.who = is_key subaccount_cmp subaccount_exact who x.order.id.who there.1 in
        let link : n.account.after ≡ after_in (keys_of (of_who who items)) k =
        ap (λ (m : Node). m.account.after) same ∙ (λ i. after_in (keys_of (of_who (sym account i) items)) (at i)) in
        let m = step (of_who who items) k x distinct e in
        record {
          later = m.later;
          item = x;
          from = m.from;
          order = ap (λ (m : Node). m.order) same;
          after = ap (λ o. from_key o (of_who who items)) link ∙ m.after;
          held = subst (λ o. IfSome o (λ j. IsSome (item_at j (of_who who items)))) (sym link) m.held;
        }

-- of the items of an account, the first that is short-term, is the first short-term order of the account
pub found_of : (who : SubaccountId) (items : List Item) → option_map (λ (x : Item). x.order.id) (find (λ x. is_short_term x.order.id) (of_who who items)) ≡ option_map (λ (o : Order). o.id) (find (is_short_term_of who) (map (λ x. x.order) items))
found_of who [] = refl
found_of who (x ∷ xs) = go (eq_by_cmp subaccount_cmp who x.order.id.who) refl (is_short_term x.order.id) refl (found_of who xs)
  where
    turned : is_same_account x.order.id.who who ≡ eq_by_cmp subaccount_cmp who x.order.id.who
    turned = let l : IsEquivalence (eq_by_cmp subaccount_cmp) = eq_by_cmp_equiv subaccount_total in l.symm x.order.id.who who

    go : (b : Bool) → eq_by_cmp subaccount_cmp who x.order.id.who ≡ b → (c : Bool) → is_short_term x.order.id ≡ c
        → option_map (λ (y : Item). y.order.id) (find (λ y. is_short_term y.order.id) (of_who who xs)) ≡ option_map (λ (o : Order). o.id) (find (is_short_term_of who) (map (λ y. y.order) xs))
        → option_map (λ (y : Item). y.order.id) (find (λ y. is_short_term y.order.id) (cond b (x ∷ of_who who xs) (of_who who xs)))
        ≡ option_map (λ (o : Order). o.id) (cond (is_short_term x.order.id && is_same_account x.order.id.who who) (Some x.order) (find (is_short_term_of who) (map (λ y. y.order) xs)))
    go true e true f more =
        (λ i. option_map (λ (y : Item). y.order.id) (cond (f i) (Some x) (find (λ y. is_short_term y.order.id) (of_who who xs))))
        ∙ (λ i. option_map (λ (o : Order). o.id) (cond (sym f i && (sym e ∙ sym turned) i) (Some x.order) (find (is_short_term_of who) (map (λ y. y.order) xs))))
    go true e false f more =
        (λ i. option_map (λ (y : Item). y.order.id) (cond (f i) (Some x) (find (λ y. is_short_term y.order.id) (of_who who xs))))
        ∙ more
        ∙ (λ i. option_map (λ (o : Order). o.id) (cond (sym f i && is_same_account x.order.id.who who) (Some x.order) (find (is_short_term_of who) (map (λ y. y.order) xs))))
    go false e true f more =
        more ∙ (λ i. option_map (λ (o : Order). o.id) (cond (sym f i && (sym e ∙ sym turned) i) (Some x.order) (find (is_short_term_of who) (map (λ y. y.order) xs))))
    go false e false f more =
        more ∙ (λ i. option_map (λ (o : Order). o.id) (cond (sym f i && is_same_account x.order.id.who who) (Some x.order) (find (is_short_term_of who) (map (λ y. y.order) xs))))

-- the walk from the first key is over the whole chain
pub from_first : (items : List Item) (e : Option Ends) → e ≡ ends_of (keys_of items) → (from_key (option_map (λ (d : Ends). d.first) e) items ≡ items) × IfSome (option_map (λ (d : Ends). d.first) e) (λ k. IsSome (item_at k items))
from_first items e f = subst (λ (d : Option Ends). (from_key (option_map (λ (g : Ends). g.first) d) items ≡ items) × IfSome (option_map (λ (g : Ends). g.first) d) (λ k. IsSome (item_at k items))) (sym f) (go items)
  where
    go : (xs : List Item) → (from_key (option_map (λ (g : Ends). g.first) (ends_of (keys_of xs))) xs ≡ xs) × IfSome (option_map (λ (g : Ends). g.first) (ends_of (keys_of xs))) (λ k. IsSome (item_at k xs))
    go [] = (refl, tt)
    go (x ∷ xs) = ((λ i. cond (same_key x.key i) (x ∷ xs) (from_key (Some x.key) xs)), subst IsSome (sym (λ i. cond (same_key x.key i) (Some x) (item_at x.key xs))) refl)

-- the first of the account
pub account_found : (who : SubaccountId) (items : List Item) (p : Parts) (e : Option Ends) (r : Option OrderId) → Stands items p → e ≡ rows.find subaccount_cmp who p.accounts.items
    → r ≡ option_map (λ x. x.order.id) (find (λ x. is_short_term x.order.id) (from_key (option_map (λ (d : Ends). d.first) e) (of_who who items))) → r ≡ of_account (map (λ x. x.order) items) who
unfolding of_account
account_found who items p e r s f g =
    g ∙ ap (λ l. option_map (λ (x : Item). x.order.id) (find (λ x. is_short_term x.order.id) l)) (from_first (of_who who items) e (f ∙ s.accounts who)).0 ∙ found_of who items

pub account_from : (who : SubaccountId) (items : List Item) (p : Parts) (e : Option Ends) → Stands items p → e ≡ rows.find subaccount_cmp who p.accounts.items
    → IfSome (option_map (λ (d : Ends). d.first) e) (λ k. IsSome (item_at k (of_who who items)))
account_from who items p e s f = (from_first (of_who who items) e (f ∙ s.accounts who)).1

filter_append : {X : Type 0} (test : X → Bool) (xs ys : List X) → filter test (xs ++ ys) ≡ filter test xs ++ filter test ys
filter_append test [] ys = refl
filter_append test (x ∷ xs) ys = go (test x) (filter_append test xs ys)
  where
    go : (b : Bool) → filter test (xs ++ ys) ≡ filter test xs ++ filter test ys → cond b (x ∷ filter test (xs ++ ys)) (filter test (xs ++ ys)) ≡ cond b (x ∷ filter test xs) (filter test xs) ++ filter test ys
    go true e = ap (λ l. x ∷ l) e
    go false e = e

from_around : (who : SubaccountId) (k : ℕ) (earlier : List Item) (y : Item) (later : List Item) → has k (keys_of earlier) ≡ false → y.key ≡ k → from_key (Some k) (of_who who earlier ++ y ∷ later) ≡ y ∷ later
from_around who k [] y later n e =
    let own : (y.key == k) ≡ true = ap (λ m. m == k) e ∙ same_key k in
    (λ i. cond (own i) (y ∷ later) (from_key (Some k) later))
from_around who k (x ∷ xs) y later n e = go (eq_by_cmp subaccount_cmp who x.order.id.who) (x.key == k) refl n (λ m. from_around who k xs y later m e)
  where
    go : (b c : Bool) → (x.key == k) ≡ c → cond c true (has k (keys_of xs)) ≡ false → (has k (keys_of xs) ≡ false → from_key (Some k) (of_who who xs ++ y ∷ later) ≡ y ∷ later)
        → from_key (Some k) (cond b (x ∷ of_who who xs) (of_who who xs) ++ y ∷ later) ≡ y ∷ later
    go b true f n more = absurd (cc)
    go true false f n more = (λ i. cond (f i) (x ∷ (of_who who xs ++ y ∷ later)) (from_key (Some k) (of_who who xs ++ y ∷ later))) ∙ more n
    go false false f n more = more n

behind_around : (o : Order) (es ls : List Order) → AllByRecursion (λ p. has_id o.id p ≡ false) es → behind (has_id o.id) (es ++ o ∷ ls) ≡ ls
behind_around o [] ls a = λ i. cond (own_id o.id i) ls (behind (has_id o.id) ls)
behind_around o (e ∷ es) ls a = (λ i. cond (a.0 i) (es ++ o ∷ ls) (behind (has_id o.id) (es ++ o ∷ ls))) ∙ behind_around o es ls a.1

-- the next of the account
pub account_next : (id : OrderId) (items : List Item) (p : Parts) (k : ℕ) (y : Item) (n : Node) (r : Option OrderId) → Stands items p → item_at k items ≡ Some y → y.order.id ≡ id → node_at p.arena k ≡ Some n
    → r ≡ option_map (λ x. x.order.id) (find (λ x. is_short_term x.order.id) (from_key n.account.after (of_who id.who items))) → r ≡ after_of_account (map (λ x. x.order) items) id
unfolding after_of_account
account_next id items p k y n r s e same f g =
    g
    ∙ ap (λ l. option_map (λ (x : Item). x.order.id) (find (λ x. is_short_term x.order.id) l)) (m.after ∙ tails)
    ∙ found_of id.who w.later
    ∙ ap (λ l. option_map (λ (o : Order). o.id) (find (is_short_term_of id.who) l)) (sym rest)
  where
    own : (a : SubaccountId) → eq_by_cmp subaccount_cmp a a ≡ true
    own a = let l : IsEquivalence (eq_by_cmp subaccount_cmp) = eq_by_cmp_equiv subaccount_total in l.refl a

    w : Around items k y
    w = around_item items k y e

    at : y.key ≡ k
    at = chained.key_at key_of (λ (b c : OrderId). is_same_id b c) (λ b c h. one_id b c h) (λ b. own_id b) (λ x. x.order.id) k items y e

    mine : eq_by_cmp subaccount_cmp id.who y.order.id.who ≡ true
    mine = ap (λ (i : OrderId). eq_by_cmp subaccount_cmp id.who i.who) same ∙ own id.who

    chain : of_who id.who items ≡ of_who id.who w.earlier ++ y ∷ of_who id.who w.later
    chain =
        ap (of_who id.who) w.whole ∙ filter_append (λ x. eq_by_cmp subaccount_cmp id.who x.order.id.who) w.earlier (y ∷ w.later)
        ∙ (λ i. of_who id.who w.earlier ++ cond (mine i) (y ∷ of_who id.who w.later) (of_who id.who w.later))

    there : from_key (Some k) (of_who id.who items) ≡ y ∷ of_who id.who w.later
    there = ap (from_key (Some k)) chain ∙ from_around id.who k w.earlier y (of_who id.who w.later) w.new at

    held : IsSome (item_at k (of_who id.who items))
    held = chained.some_at key_of (eq_by_cmp subaccount_cmp) (λ a b e. is_key subaccount_cmp subaccount_exact a b e) own (λ x. x.order.id.who) k (of_who id.who items)
        (ap (λ (i : OrderId). has k (keys_of (of_who i.who items))) (sym same) ∙ chained.in_own key_of (eq_by_cmp subaccount_cmp) (λ a b e. is_key subaccount_cmp subaccount_exact a b e) own (λ x. x.order.id.who) k items y e)

    m : Walked id.who items p k n
    m = walked id.who items p k n s held f

    tails : m.later ≡ of_who id.who w.later
    tails = ap rest_of (sym m.from ∙ there)
      where
        rest_of : List Item → List Item
        rest_of [] = []
        rest_of (x ∷ xs) = xs

    rest : behind (has_id id) (map (λ x. x.order) items) ≡ map (λ x. x.order) w.later
    rest =
        ap (λ i. behind (has_id i) (map (λ x. x.order) items)) (sym same)
        ∙ ap (behind (has_id y.order.id)) (ap (map (λ (x : Item). x.order)) w.whole ∙ map_append (λ (x : Item). x.order) w.earlier (y ∷ w.later))
        ∙ behind_around y.order (map (λ x. x.order) w.earlier) (map (λ x. x.order) w.later)
        (no_other (map (λ x. x.order) w.earlier) y.order (map (λ x. x.order) w.later)
        (subst HasOnePerId (ap (map (λ (x : Item). x.order)) w.whole ∙ map_append (λ (x : Item). x.order) w.earlier (y ∷ w.later)) s.one_per_id)).0

pub next_from : (id : OrderId) (items : List Item) (p : Parts) (k : ℕ) (y : Item) (n : Node) → Stands items p → item_at k items ≡ Some y → y.order.id ≡ id → node_at p.arena k ≡ Some n
    → IfSome n.account.after (λ j. IsSome (item_at j (of_who id.who items)))
next_from id items p k y n s e same f = (walked id.who items p k n s held f).held
  where
    own : (a : SubaccountId) → eq_by_cmp subaccount_cmp a a ≡ true
    own a = let l : IsEquivalence (eq_by_cmp subaccount_cmp) = eq_by_cmp_equiv subaccount_total in l.refl a

    held : IsSome (item_at k (of_who id.who items))
    held = chained.some_at key_of (eq_by_cmp subaccount_cmp) (λ a b e. is_key subaccount_cmp subaccount_exact a b e) own (λ x. x.order.id.who) k (of_who id.who items)
        (ap (λ (i : OrderId). has k (keys_of (of_who i.who items))) (sym same) ∙ chained.in_own key_of (eq_by_cmp subaccount_cmp) (λ a b e. is_key subaccount_cmp subaccount_exact a b e) own (λ x. x.order.id.who) k items y e)

abbrev pub is_short : Item → Bool
is_short x = is_short_term x.order.id

abbrev pub id_in : Item → OrderId
id_in x = x.order.id

pub chain_item : (who : SubaccountId) (items : List Item) (p : Parts) (k : ℕ) → Stands items p → IsSome (item_at k (of_who who items)) → IsSome (item_at k items)
chain_item who items p k s h = go (item_at k (of_who who items)) refl h
  where
    go : (x : Option Item) → item_at k (of_who who items) ≡ x → IsSome x → IsSome (item_at k items)
    go None e h = absurd (cc)
    go (Some x) e h = subst IsSome (sym (in_chain who items items k x (all_at items s.distinct) e).0) refl

pub walk_none : (chain : List Item) (next : Option ℕ) (whole : Option Item) → next ≡ None → find is_short (from_key next chain) ≡ whole → None ≡ option_map id_in whole
walk_none chain next whole e made = ap (option_map id_in) (ap (λ o. find is_short (from_key o chain)) (sym e) ∙ made)

pub walk_found : (who : SubaccountId) (items : List Item) (p : Parts) (k : ℕ) (n : Node) (next : Option ℕ) (whole : Option Item) (b : Bool) → Stands items p → IsSome (item_at k (of_who who items)) → node_at p.arena k ≡ Some n
    → next ≡ Some k → find is_short (from_key next (of_who who items)) ≡ whole → b ≡ is_short_term n.order.id → b ≡ true → Some n.order.id ≡ option_map id_in whole
walk_found who items p k n next whole b s h f e made g t =
    let w = walked who items p k n s h f in
    let here : is_short w.item ≡ true = ap (λ (o : Order). is_short_term o.id) (sym w.order) ∙ sym g ∙ t in
    ap (λ (o : Order). Some o.id) w.order
    ∙ ap (option_map id_in) (sym (ap (λ o. find is_short (from_key o (of_who who items))) e ∙ ap (find is_short) w.from ∙ (λ i. cond (here i) (Some w.item) (find is_short w.later))) ∙ made)

pub walk_past : (who : SubaccountId) (items : List Item) (p : Parts) (k : ℕ) (n : Node) (next : Option ℕ) (whole : Option Item) (b : Bool) → Stands items p → IsSome (item_at k (of_who who items)) → node_at p.arena k ≡ Some n
    → next ≡ Some k → find is_short (from_key next (of_who who items)) ≡ whole → b ≡ is_short_term n.order.id → b ≡ false → find is_short (from_key n.account.after (of_who who items)) ≡ whole
walk_past who items p k n next whole b s h f e made g t =
    let w = walked who items p k n s h f in
    let here : is_short w.item ≡ false = ap (λ (o : Order). is_short_term o.id) (sym w.order) ∙ sym g ∙ t in
    ap (find is_short) w.after
    ∙ sym (ap (λ o. find is_short (from_key o (of_who who items))) e ∙ ap (find is_short) w.from ∙ (λ i. cond (here i) (Some w.item) (find is_short w.later)))
    ∙ made

pub walk_less : (who : SubaccountId) (items : List Item) (p : Parts) (k : ℕ) (n : Node) (next : Option ℕ) (i most : ℕ) → Stands items p → IsSome (item_at k (of_who who items)) → node_at p.arena k ≡ Some n
    → next ≡ Some k → length (from_key next (of_who who items)) + i ≤ most → length (from_key n.account.after (of_who who items)) + (i + 1) ≤ most
walk_less who items p k n next i most s h f e less =
    let w = walked who items p k n s h f in
    let long : length (from_key next (of_who who items)) ≡ suc (length w.later) = ap (λ o. length (from_key o (of_who who items))) e ∙ ap length w.from in
    let short : length (from_key n.account.after (of_who who items)) ≡ length w.later = ap length w.after in
    omega (arith, long, short, less)

pub walk_over : (who : SubaccountId) (items : List Item) (p : Parts) (next : Option ℕ) (whole : Option Item) (i : ℕ) → Stands items p → length (from_key next (of_who who items)) + i ≤ length (of_who who items) → length p.arrivals.items ≤ i
    → find is_short (from_key next (of_who who items)) ≡ whole → None ≡ option_map id_in whole
walk_over who items p next whole i s less over made = ap (option_map id_in) (sym (ap (find is_short) (nothing (from_key next (of_who who items)) none)) ∙ made)
  where
    long : length p.arrivals.items ≡ length items
    long = ap length s.keys ∙ map_length items
      where
        map_length : (xs : List Item) → length (keys_of xs) ≡ length xs
        map_length [] = refl
        map_length (x ∷ xs) = ap suc (map_length xs)

    none : length (from_key next (of_who who items)) ≡ 0
    none = let shorter : length (of_who who items) ≤ length items = filter_shorter _ items in omega (arith, long, shorter, less, over)

    nothing : (xs : List Item) → length xs ≡ 0 → xs ≡ []
    nothing [] e = refl
    nothing (x ∷ xs) e = absurd (omega arith)

pub account_found_from : (who : SubaccountId) (items : List Item) (p : Parts) (e : Option Ends) (f : Option ℕ) (r : Option OrderId) → Stands items p → e ≡ rows.find subaccount_cmp who p.accounts.items → f ≡ option_map (λ (d : Ends). d.first) e
    → r ≡ option_map (λ x. x.order.id) (find (λ x. is_short_term x.order.id) (from_key f (of_who who items))) → r ≡ of_account (map (λ x. x.order) items) who
account_found_from who items p e f r s g h i =
    account_found who items p e r s g (i ∙ ap (λ k. option_map (λ (x : Item). x.order.id) (find (λ x. is_short_term x.order.id) (from_key k (of_who who items)))) h)

pub account_from_first : (who : SubaccountId) (items : List Item) (p : Parts) (e : Option Ends) (f : Option ℕ) → Stands items p → e ≡ rows.find subaccount_cmp who p.accounts.items → f ≡ option_map (λ (d : Ends). d.first) e
    → IfSome f (λ k. IsSome (item_at k (of_who who items)))
account_from_first who items p e f s g h = subst (λ k. IfSome k (λ j. IsSome (item_at j (of_who who items)))) (sym h) (account_from who items p e s g)

pub from_shorter : (o : Option ℕ) (xs : List Item) → length (from_key o xs) ≤ length xs
from_shorter None xs = omega arith
from_shorter (Some k) [] = omega arith
from_shorter (Some k) (x ∷ xs) = go (x.key == k) (from_shorter (Some k) xs)
  where
    go : (b : Bool) → length (from_key (Some k) xs) ≤ length xs → length (cond b (x ∷ xs) (from_key (Some k) xs)) ≤ length (x ∷ xs)
    go true h = omega arith
    go false h = omega (arith, h)
