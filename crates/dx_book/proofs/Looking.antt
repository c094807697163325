-- The orders of a book, by the place of a key, by an id, and from one of a side to the next.
use Rattle.std.proofs.Common.{◌≡◌, ℕ, zero, suc, ◌+◌, ◌<◌, ◌≤◌, ◌==◌, Bool, true, false, not, cond, Option, None, Some, List, [], ◌∷◌, ◌++◌, filter, map, drop, length, get_or, refl, sym, ap, ◌∙◌, subst, arith}
use Rattle.std.specs.Prelude.{IsSome, IfSome, option_map, find, slice_get}
use Rattle.std.specs.List.{AllByRecursion}
use Rattle.std.specs.Ordering.{eq_by_cmp}
use Rattle.std.specs.Cmp.{IsEquivalence, eq_by_cmp_equiv}
use Rattle.std.specs.FinMap.Entries as rows
use Rattle.std.proofs.lemmas.Option.{slice_get-get_or}
use Rattle.dx_types.specs.Keys.{order_id_cmp}
use Rattle.dx_types.specs.declared.OrderId.{OrderId}
use Rattle.dx_types.specs.declared.Order.{Order}
use Rattle.dx_spec.specs.Orders.{is_same_id}
use Rattle.dx_node_spec.specs.Book.{resting, HasOnePerId}
use Rattle.dx_arena.specs.Nodes.{Nodes, node_at}
use Rattle.dx_arena.specs.declared.node.Node.{Node}
use Rattle.dx_book.specs.Picks.{before, pick}
use Rattle.dx_book.specs.Ways.{next_of, is_behind_earlier}
use Rattle.dx_book.specs.Chains.{after_in}
use Rattle.dx_book.specs.Names.{level_cmp, level_of}
use Rattle.dx_book.specs.Orders.{level_total}
use Rattle.dx_book.specs.Levels.{is_behind, first_level}
use Rattle.dx_book.specs.Held.{Item, item_at, item_at_key, node_in}
use Rattle.dx_book.specs.Standing.{has, AreDistinct, Stands, item_of, items_in}
use Rattle.dx_book.specs.declared.parts.Parts.{Parts}
use Rattle.dx_spec.proofs.Each.{neither}
use Rattle.dx_spec.proofs.Same.{one_id, own_id}
use Rattle.dx_book.proofs.Walks.{each_at, from_place}
use Rattle.dx_book.proofs.Chained as chained
use Rattle.dx_book.proofs.Named.{key_of, keys_of, without_item}
use Rattle.dx_book.proofs.Items.{all_at, held_node}
use Rattle.dx_book.proofs.Adding.{resting_of, none_of}
use Rattle.dx_book.proofs.Removing.{same_gone}
use Rattle.dx_book.proofs.Picked.{level_best, find_order, found_item}
use Rattle.dx_book.proofs.Next.{Around, around_item, after_is, next_is, level, map_append}

-- an item at a place, under its key
pub record Placed (items : List Item) (i : ℕ) (k : ℕ) : Type 0 where
  pub item : Item
  pub at : slice_get items i ≡ Some item
  pub held : item_at k items ≡ Some item

pub placed_at : (items : List Item) (i k : ℕ) → AreDistinct (keys_of items) → slice_get (keys_of items) i ≡ Some k → Placed items i k
placed_at items i k d e =
    let f = there items i e in
    record { item = f.0; at = f.1.0; held = ap (λ n. item_at n items) (sym f.1.1) ∙ each_at (λ x. item_at x.key items ≡ Some x) items i f.0 (all_at items d) f.1.0 }
  where
    there : (xs : List Item) (j : ℕ) → slice_get (keys_of xs) j ≡ Some k → (x : Item) × ((slice_get xs j ≡ Some x) × (x.key ≡ k))
    there [] j e = absurd (cc)
    there (x ∷ xs) zero e = (x, (refl, let one : x.key ≡ k = cc in one))
    there (x ∷ xs) (suc j) e = there xs j e

-- the node under the key at a place
pub at_number : (items : List Item) (p : Parts) (i d : ℕ) → Stands items p → i < length p.arrivals.items → Placed items i (get_or p.arrivals.items i d)
at_number items p i d s w =
    placed_at items i (get_or p.arrivals.items i d) s.distinct (ap (λ l. slice_get l i) (sym s.keys) ∙ slice_get-get_or p.arrivals.items i d w)

pub node_there : (items : List Item) (p : Parts) (i d : ℕ) → Stands items p → i < length p.arrivals.items → IsSome (node_at p.arena (get_or p.arrivals.items i d))
node_there items p i d s w =
    let at = at_number items p i d s w in
    held_node items p (get_or p.arrivals.items i d) s (subst IsSome (sym at.held) refl)

-- the order of a node under a held key
pub node_order : (items : List Item) (p : Parts) (k : ℕ) (x : Item) (n : Node) → Stands items p → item_at k items ≡ Some x → node_at p.arena k ≡ Some n → n.order ≡ x.order
node_order items p k x n s e f =
    let g : Some n ≡ Some (node_in items x) = sym f ∙ s.nodes k ∙ ap (option_map (node_in items)) e in
    let h : n ≡ node_in items x = cc in
    ap (λ (m : Node). m.order) h

at_place : {X Y : Type 0} (f : X → Y) (xs : List X) (i : ℕ) (x : X) → slice_get xs i ≡ Some x → slice_get (map f xs) i ≡ Some (f x)
at_place f [] i x e = absurd (cc)
at_place f (y ∷ ys) zero x e = let one : y ≡ x = cc in ap (λ z. Some (f z)) one
at_place f (y ∷ ys) (suc i) x e = at_place f ys i x e

-- the orders from a place on
pub orders_from : (items : List Item) (p : Parts) (i d : ℕ) (n : Node) → Stands items p → i < length p.arrivals.items → node_at p.arena (get_or p.arrivals.items i d) ≡ Some n
    → drop i (map (λ (x : Item). x.order) items) ≡ n.order ∷ drop (suc i) (map (λ x. x.order) items)
orders_from items p i d n s w f =
    let at = at_number items p i d s w in
    from_place (map (λ (x : Item). x.order) items) i n.order
    (at_place (λ (x : Item). x.order) items i at.item at.at ∙ ap (λ o. Some o) (sym (node_order items p (get_or p.arrivals.items i d) at.item n s at.held f)))

-- the order at a place
pub order_here : (items : List Item) (p : Parts) (i d : ℕ) (n : Node) → Stands items p → i < length p.arrivals.items → node_at p.arena (get_or p.arrivals.items i d) ≡ Some n
    → slice_get (map (λ (x : Item). x.order) items) i ≡ Some n.order
order_here items p i d n s w f =
    let at = at_number items p i d s w in
    at_place (λ (x : Item). x.order) items i at.item at.at ∙ ap (λ o. Some o) (sym (node_order items p (get_or p.arrivals.items i d) at.item n s at.held f))

length_map : {X Y : Type 0} (f : X → Y) (xs : List X) → length (map f xs) ≡ length xs
length_map f [] = refl
length_map f (x ∷ xs) = ap suc (length_map f xs)

pub count_is : (items : List Item) (p : Parts) → Stands items p → length p.arrivals.items ≡ length (map (λ (x : Item). x.order) items)
count_is items p s = ap length s.keys ∙ length_map key_of items ∙ sym (length_map (λ (x : Item). x.order) items)

-- behind all orders there is none
pub none_there : (items : List Item) (p : Parts) (i : ℕ) → Stands items p → length p.arrivals.items ≤ i → slice_get (map (λ (x : Item). x.order) items) i ≡ None
none_there items p i s h = let count = count_is items p s in past (map (λ (x : Item). x.order) items) i (omega (arith, count, h))
  where
    past : (os : List Order) (j : ℕ) → length os ≤ j → slice_get os j ≡ None
    past [] j h = refl
    past (o ∷ os) zero h = absurd (omega arith)
    past (o ∷ os) (suc j) h = past os j (omega arith)

-- the key of an id is that of its order
pub id_order : (items : List Item) (p : Parts) (id : OrderId) (k : ℕ) → Stands items p → Some k ≡ rows.find order_id_cmp id p.ids.items → option_map (λ (x : Item). x.order) (item_at k items) ≡ resting (map (λ x. x.order) items) id
id_order items p id k s e = go (item_of id items) refl (e ∙ s.ids id)
  where
    go : (x : Option Item) → item_of id items ≡ x → Some k ≡ option_map (λ (y : Item). y.key) x → option_map (λ (x : Item). x.order) (item_at k items) ≡ resting (map (λ x. x.order) items) id
    go None f g = absurd (cc)
    go (Some y) f g =
        let key : k ≡ y.key = cc in
        let at = found_item (λ x. is_same_id x.order.id id) items items y (all_at items s.distinct) f in
        ap (λ n. option_map (λ (x : Item). x.order) (item_at n items)) key ∙ ap (option_map (λ (x : Item). x.order)) (at.0 ∙ sym f) ∙ resting_of items id

pub id_held : (items : List Item) (p : Parts) (id : OrderId) (k : ℕ) → Stands items p → Some k ≡ rows.find order_id_cmp id p.ids.items → IsSome (item_at k items)
id_held items p id k s e = go (item_of id items) refl (e ∙ s.ids id)
  where
    go : (x : Option Item) → item_of id items ≡ x → Some k ≡ option_map (λ (y : Item). y.key) x → IsSome (item_at k items)
    go None f g = absurd (cc)
    go (Some y) f g =
        let key : k ≡ y.key = cc in
        let at = found_item (λ x. is_same_id x.order.id id) items items y (all_at items s.distinct) f in
        subst IsSome (sym (ap (λ n. item_at n items) key ∙ at.0)) refl

pub id_none : (items : List Item) (p : Parts) (id : OrderId) → Stands items p → None ≡ rows.find order_id_cmp id p.ids.items → resting (map (λ (x : Item). x.order) items) id ≡ None
id_none items p id s e = sym (resting_of items id) ∙ ap (option_map (λ (x : Item). x.order)) (go (item_of id items) (e ∙ s.ids id))
  where
    go : (x : Option Item) → None ≡ option_map (λ (y : Item). y.key) x → x ≡ None
    go None f = refl
    go (Some y) f = absurd (cc)

-- without the item of an id
pub id_gone : (items : List Item) (p : Parts) (id : OrderId) (k : ℕ) → Stands items p → Some k ≡ rows.find order_id_cmp id p.ids.items → without_item k items ≡ filter (λ x. not (is_same_id x.order.id id)) items
id_gone items p id k s e = go (item_of id items) refl (e ∙ s.ids id)
  where
    go : (x : Option Item) → item_of id items ≡ x → Some k ≡ option_map (λ (y : Item). y.key) x → without_item k items ≡ filter (λ x. not (is_same_id x.order.id id)) items
    go None f g = absurd (cc)
    go (Some y) f g =
        let key : k ≡ y.key = cc in
        let at = found_item (λ x. is_same_id x.order.id id) items items y (all_at items s.distinct) f in
        same_gone items k y s.distinct s.one_per_id (ap (λ n. item_at n items) key ∙ at.0)
        ∙ ap (λ i. filter (λ x. not (is_same_id x.order.id i)) items) (one_id y.order.id id at.1)

pub none_left_out : (items : List Item) (id : OrderId) → resting (map (λ (x : Item). x.order) items) id ≡ None → items ≡ filter (λ x. not (is_same_id x.order.id id)) items
none_left_out [] id e = refl
none_left_out (x ∷ xs) id e =
    let n = neither (is_same_id x.order.id id) x.order (resting (map (λ (y : Item). y.order) xs) id) e in
    ap (λ l. x ∷ l) (none_left_out xs id n.1) ∙ (λ i. cond (not (sym n.0 i)) (x ∷ filter (λ y. not (is_same_id y.order.id id)) xs) (filter (λ y. not (is_same_id y.order.id id)) xs))

all_later : (P : Item → Type 0) (xs ys : List Item) → AllByRecursion P (xs ++ ys) → AllByRecursion P ys
all_later P [] ys a = a
all_later P (x ∷ xs) ys a = all_later P xs ys a.1

-- the orders around one of them
module _ (items : List Item) (p : Parts) (k : ℕ) (y : Item) (n : Node) (s : Stands items p) (e : item_at k items ≡ Some y) (f : node_at p.arena k ≡ Some n) (w : Around items k y) where
  abbrev orders : List Item → List Order
  orders l = map (λ (x : Item). x.order) l

  abbrev on_level : Item → Bool
  on_level x = level y.order x.order

  key : y.key ≡ k
  key = chained.key_at key_of (λ (b c : OrderId). is_same_id b c) (λ b c h. one_id b c h) (λ b. own_id b) (λ x. x.order.id) k items y e

  whole : orders items ≡ orders w.earlier ++ y.order ∷ orders w.later
  whole = ap orders w.whole ∙ map_append (λ (x : Item). x.order) w.earlier (y ∷ w.later)

  unique : HasOnePerId (orders w.earlier ++ y.order ∷ orders w.later)
  unique = subst HasOnePerId whole s.one_per_id

  own_level : on_level y ≡ true
  own_level = let l : IsEquivalence (eq_by_cmp level_cmp) = eq_by_cmp_equiv level_total in l.refl (level_of y.order)

  -- the link of the node names the next of its level
  after_next : n.level.after ≡ option_map (λ (x : Item). x.key) (find on_level w.later)
  after_next =
      let g : Some n ≡ Some (node_in items y) = sym f ∙ s.nodes k ∙ ap (option_map (node_in items)) e in
      let same : n ≡ node_in items y = cc in
      ap (λ (m : Node). m.level.after) same
      ∙ ap (λ l. after_in (map (λ (x : Item). x.key) (filter on_level l)) y.key) w.whole
      ∙ after_is on_level w.earlier y w.later own_level (ap (λ m. has m (keys_of w.earlier)) key ∙ w.new)

  later_at : AllByRecursion (λ x. item_at x.key items ≡ Some x) w.later
  later_at =
      (all_later (λ x. item_at x.key items ≡ Some x) w.earlier (y ∷ w.later) (subst (AllByRecursion (λ x. item_at x.key items ≡ Some x)) w.whole (all_at items s.distinct))).1

  next_whole : (r : Option Order) → find (level y.order) (orders w.later) ≡ r
      → next_of (orders items) y.order ≡ elim r as (λ _. Option Order) [ None ↦ pick (before y.order.buy) (is_behind_earlier y.order) (orders w.earlier ++ y.order ∷ orders w.later) None | Some x ↦ Some x ]
  next_whole r g = ap (λ l. next_of l y.order) whole ∙ next_is y.order (orders w.earlier) (orders w.later) unique r g

  pub next_linked : (a : ℕ) → n.level.after ≡ Some a → (option_map (λ (x : Item). x.order) (item_at a items) ≡ next_of (orders items) y.order) × IsSome (item_at a items)
  next_linked a h = go (find on_level w.later) refl (sym after_next ∙ h)
    where
      go : (r : Option Item) → find on_level w.later ≡ r → option_map (λ (x : Item). x.key) r ≡ Some a → (option_map (λ (x : Item). x.order) (item_at a items) ≡ next_of (orders items) y.order) × IsSome (item_at a items)
      go None g i = absurd (cc)
      go (Some x) g i =
          let one : x.key ≡ a = cc in
          let there = found_item on_level items w.later x later_at g in
          let at : item_at a items ≡ Some x = ap (λ m. item_at m items) (sym one) ∙ there.0 in (
            ap (option_map (λ (z : Item). z.order)) at ∙ sym (next_whole (Some x.order) (find_order (level y.order) w.later ∙ ap (option_map (λ (z : Item). z.order)) g)),
            subst IsSome (sym at) refl,
          )

  pub next_behind : n.level.after ≡ None → pick (before y.order.buy) (is_behind_earlier y.order) (orders items) None ≡ next_of (orders items) y.order
  next_behind h = go (find on_level w.later) refl (sym after_next ∙ h)
    where
      go : (r : Option Item) → find on_level w.later ≡ r → option_map (λ (x : Item). x.key) r ≡ None → pick (before y.order.buy) (is_behind_earlier y.order) (orders items) None ≡ next_of (orders items) y.order
      go None g i =
          ap (λ l. pick (before y.order.buy) (is_behind_earlier y.order) l None) whole
          ∙ sym (next_whole None (find_order (level y.order) w.later ∙ ap (option_map (λ (z : Item). z.order)) g))
      go (Some x) g i = absurd (cc)

-- the key behind a held one, where its node has one behind it on its level
pub behind_on_level : (items : List Item) (p : Parts) (k a : ℕ) (n : Node) → Stands items p → IsSome (item_at k items) → node_at p.arena k ≡ Some n → n.level.after ≡ Some a
    → IfSome (item_at k items) (λ x. option_map (λ (z : Item). z.order) (item_at a items) ≡ next_of (map (λ (z : Item). z.order) items) x.order) × IsSome (item_at a items)
behind_on_level items p k a n s held f h = go (item_at k items) refl held
  where
    go : (x : Option Item) → item_at k items ≡ x → IsSome x → IfSome x (λ y. option_map (λ (z : Item). z.order) (item_at a items) ≡ next_of (map (λ (z : Item). z.order) items) y.order) × IsSome (item_at a items)
    go None e h2 = absurd (cc)
    go (Some y) e h2 = next_linked items p k y n s e f (around_item items k y e) a h

-- and where it has none
pub behind_on_side : (items : List Item) (p : Parts) (k : ℕ) (n : Node) (r : Option ℕ) → Stands items p → IsSome (item_at k items) → node_at p.arena k ≡ Some n → n.level.after ≡ None
    → r ≡ first_level (is_behind n.order.id.market n.order.buy (Some n.order.subticks)) p.levels.items
    → IfSome (item_at k items) (λ x. option_map (λ (z : Item). z.order) (item_at_key r items) ≡ next_of (map (λ (z : Item). z.order) items) x.order) × IfSome r (λ j. IsSome (item_at j items))
behind_on_side items p k n r s held f h g = go (item_at k items) refl held
  where
    best : (option_map (λ (x : Item). x.order) (item_at_key r items) ≡ pick (before n.order.buy) (is_behind_earlier n.order) (map (λ x. x.order) items) None) × IfSome r (λ j. IsSome (item_at j items))
    best =
        let b = level_best items p s n.order.id.market n.order.buy (Some n.order.subticks) in
        (ap (λ j. option_map (λ (x : Item). x.order) (item_at_key j items)) g ∙ b.0, subst (λ j. IfSome j (λ i. IsSome (item_at i items))) (sym g) b.1)

    go : (x : Option Item) → item_at k items ≡ x → IsSome x → IfSome x (λ y. option_map (λ (z : Item). z.order) (item_at_key r items) ≡ next_of (map (λ (z : Item). z.order) items) y.order) × IfSome r (λ j. IsSome (item_at j items))
    go None e h2 = absurd (cc)
    go (Some y) e h2 =
        let order : n.order ≡ y.order = node_order items p k y n s e f in
        (best.0 ∙ ap (λ (o : Order). pick (before o.buy) (is_behind_earlier o) (map (λ x. x.order) items) None) order ∙ next_behind items p k y n s e f (around_item items k y e) h, best.1)
