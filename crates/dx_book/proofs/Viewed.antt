-- What contracts see of a book, from its parts.
use Rattle.std.proofs.Common.{◌≡◌, ℕ, suc, ◌+◌, ◌-◌, ◌<◌, ◌≤◌, ◌==◌, Bool, true, false, not, cond, Option, None, Some, List, [], ◌∷◌, ◌++◌, filter, map, length, refl, sym, ap, ◌∙◌, subst, arith}
use Rattle.std.specs.Prelude.{T, IsSome, IfSome, option_map, filter_map, slice_index_or}
use Rattle.std.specs.FinMap.Entries as rows
use Rattle.dx_types.specs.Keys.{order_id_cmp, subaccount_cmp}
use Rattle.dx_book.specs.Names.{level_cmp, expiry_cmp}
use Rattle.dx_types.specs.declared.OrderId.{OrderId}
use Rattle.dx_types.specs.declared.Order.{Order}
use Rattle.dx_spec.specs.Orders.{is_same_id}
use Rattle.dx_node_spec.specs.Book.{best, resting, without, is_on_side, HasOnePerId}
use Rattle.dx_arena.specs.Nodes.{node_at}
use Rattle.dx_arena.specs.declared.node.Node.{Node}
use Rattle.dx_book.specs.Arrivals.{IsNumbered}
use Rattle.dx_book.specs.Picks.{before, pick}
use Rattle.dx_book.specs.Ways.{next_of}
use Rattle.dx_book.specs.Levels.{is_behind, first_level}
use Rattle.dx_book.specs.Held.{Held, Item, items_of, item_at, item_at_key, key_to, named, order_at, node_in, node_of}
use Rattle.dx_book.specs.Standing.{Stands, IsBook, IsKept, HasRoom, IsRoomier, item_in, items_in, orders_in, held_in}
use Rattle.dx_book.specs.declared.key.OrderKey.{OrderKey}
use Rattle.dx_book.specs.declared.parts.Parts.{Parts}
use Rattle.dx_book.proofs.Items.{joined_is, items_are, stands_on, longer}
use Rattle.dx_book.proofs.Adding.{map_put}
use Rattle.dx_book.proofs.Removing.{orders_without}
use Rattle.dx_book.proofs.Sides.{pick_is_best}
use Rattle.dx_book.proofs.Walks.{filter_shorter}
use Rattle.dx_book.proofs.Picked.{level_best}

-- the items that contracts see are those of the parts
pub items_seen : (b : Held) (p : Parts) (s : ℕ) → held_in p s ≡ b → items_of b ≡ items_in p
items_seen b p s e = ap items_of (sym e) ∙ joined_is (items_in p)

pub named_is : (b : Held) (p : Parts) (s : ℕ) (key : OrderKey) → held_in p s ≡ b → named b key ≡ option_map (λ (x : Item). x.order) (item_at key.node (items_in p))
unfolding named
named_is b p s key e = ap (λ l. option_map (λ (x : Item). x.order) (item_at key.node l)) (items_seen b p s e)

pub named_held : (b : Held) (p : Parts) (s : ℕ) (key : OrderKey) → held_in p s ≡ b → IsSome (named b key) → IsSome (item_at key.node (items_in p))
named_held b p s key e h = go (item_at key.node (items_in p)) (subst IsSome (named_is b p s key e) h)
  where
    go : (x : Option Item) → IsSome (option_map (λ (y : Item). y.order) x) → IsSome x
    go None h = absurd (cc)
    go (Some x) h = refl

pub held_named : (b : Held) (p : Parts) (s : ℕ) (k : ℕ) → held_in p s ≡ b → IsSome (item_at k (items_in p)) → IsSome (named b (key_to k))
held_named b p s k e h = subst IsSome (sym (named_is b p s (key_to k) e)) (go (item_at k (items_in p)) h)
  where
    go : (x : Option Item) → IsSome x → IsSome (option_map (λ (y : Item). y.order) x)
    go None h = absurd (cc)
    go (Some x) h = refl

-- the nodes that contracts see
pub nodes_seen : (b : Held) (p : Parts) (s : ℕ) → held_in p s ≡ b → IsBook p → (key : ℕ) → node_at p.arena key ≡ node_of b key
unfolding node_of
nodes_seen b p s e book key = book.nodes key ∙ ap (λ l. option_map (node_in l) (item_at key l)) (sym (items_seen b p s e))

-- the keys of what a search finds
pub keys_held : (b : Held) (p : Parts) (s : ℕ) (k : Option ℕ) (r : Option OrderKey) → held_in p s ≡ b → r ≡ option_map key_to k → IfSome k (λ j. IsSome (item_at j (items_in p))) → IfSome r (λ key. IsSome (named b key))
keys_held b p s k r e f h = subst (λ z. IfSome z (λ key. IsSome (named b key))) (sym f) (go k h)
  where
    go : (j : Option ℕ) → IfSome j (λ i. IsSome (item_at i (items_in p))) → IfSome (option_map key_to j) (λ key. IsSome (named b key))
    go None h = tt
    go (Some i) h = held_named b p s i e h

pub keys_order : (b : Held) (p : Parts) (s : ℕ) (k : Option ℕ) (r : Option OrderKey) → held_in p s ≡ b → r ≡ option_map key_to k → order_at b r ≡ option_map (λ (x : Item). x.order) (item_at_key k (items_in p))
keys_order b p s k r e f = ap (order_at b) f ∙ go k
  where
    go : (j : Option ℕ) → order_at b (option_map key_to j) ≡ option_map (λ (x : Item). x.order) (item_at_key j (items_in p))
    go None = refl
    go (Some i) = named_is b p s (key_to i) e

-- the best of a side
pub first_found : (b : Held) (p : Parts) (s : ℕ) (market : ℕ) (buy : Bool) (k : Option ℕ) (r : Option OrderKey) → held_in p s ≡ b → IsBook p → k ≡ first_level (is_behind market buy None) p.levels.items → r ≡ option_map key_to k
    → IfSome r (λ key. IsSome (named b key)) × (order_at b r ≡ best b.orders market buy)
first_found b p s market buy k r e book f g =
    let found = level_best (items_in p) p book market buy None in (
      keys_held b p s k r e g (subst (λ z. IfSome z (λ j. IsSome (item_at j (items_in p)))) (sym f) found.1),
      keys_order b p s k r e g ∙ ap (λ z. option_map (λ (x : Item). x.order) (item_at_key z (items_in p))) f ∙ found.0 ∙ pick_is_best (orders_in p) market buy ∙ ap (λ (h : Held). best h.orders market buy) e,
    )

-- the one behind a key
pub next_found : (b : Held) (p : Parts) (s : ℕ) (key : OrderKey) (k : Option ℕ) (r : Option OrderKey) → held_in p s ≡ b → r ≡ option_map key_to k
    → IfSome (item_at key.node (items_in p)) (λ x. option_map (λ (y : Item). y.order) (item_at_key k (items_in p)) ≡ next_of (orders_in p) x.order)
    → IfSome (named b key) (λ o. order_at b r ≡ next_of b.orders o)
next_found b p s key k r e g h =
    subst (λ z. IfSome z (λ o. order_at b r ≡ next_of b.orders o)) (sym (named_is b p s key e)) (go (item_at key.node (items_in p)) h)
  where
    go : (x : Option Item) → IfSome x (λ y. option_map (λ (z : Item). z.order) (item_at_key k (items_in p)) ≡ next_of (orders_in p) y.order) → IfSome (option_map (λ (z : Item). z.order) x) (λ o. order_at b r ≡ next_of b.orders o)
    go None h = tt
    go (Some y) h = keys_order b p s k r e g ∙ h ∙ ap (λ (z : Held). next_of z.orders y.order) e

-- with one more order behind
at_longer : (k : ℕ) (xs : List Item) (z : Item) → IsSome (item_at k xs) → item_at k (xs ++ z ∷ []) ≡ item_at k xs
at_longer k [] z h = absurd (cc)
at_longer k (x ∷ xs) z h = go (x.key == k) h (at_longer k xs z)
  where
    go : (b : Bool) → IsSome (cond b (Some x) (item_at k xs)) → (IsSome (item_at k xs) → item_at k (xs ++ z ∷ []) ≡ item_at k xs) → cond b (Some x) (item_at k (xs ++ z ∷ [])) ≡ cond b (Some x) (item_at k xs)
    go true h more = refl
    go false h more = more h

pub orders_add : (b : Held) (p q : Parts) (s : ℕ) (z : Item) → held_in p s ≡ b → items_in q ≡ items_in p ++ z ∷ [] → orders_in q ≡ b.orders ++ z.order ∷ []
orders_add b p q s z e f = ap (map (λ (x : Item). x.order)) f ∙ map_put (λ (x : Item). x.order) (items_in p) z ∙ ap (λ (h : Held). h.orders ++ z.order ∷ []) e

pub keys_add : (b d : Held) (p q : Parts) (s t : ℕ) (z : Item) → held_in p s ≡ b → held_in q t ≡ d → items_in q ≡ items_in p ++ z ∷ [] → (key : OrderKey) → IsSome (named b key) → named d key ≡ named b key
keys_add b d p q s t z e f g key h =
    named_is d q t key f
    ∙ ap (option_map (λ (x : Item). x.order)) (ap (item_at key.node) g ∙ at_longer key.node (items_in p) z (named_held b p s key e h))
    ∙ sym (named_is b p s key e)

pub kept_add : (p q : Parts) (s : ℕ) (z : Item) → IsKept p s → 1 ≤ s → IsBook q → items_in q ≡ items_in p ++ z ∷ [] → ((spare : ℕ) → HasRoom (spare + 1) p → HasRoom spare q) → IsKept q (s - 1)
kept_add p q s z k h book g room =
    let one : s - 1 + 1 ≡ s = omega (arith, h) in
    let long : length (items_in q) ≡ length (items_in p) + 1 = ap length g ∙ longer (items_in p) z in
    let within : s + length (items_in p) ≤ 65537 = k.within in
    record { stands = book; room = room (s - 1) (subst (λ n. HasRoom n p) (sym one) k.room); within = omega (arith, one, long, within) }

-- without those that do not pass
pub orders_filtered : (test : Order → Bool) (items : List Item) → map (λ (x : Item). x.order) (filter (λ x. test x.order) items) ≡ filter test (map (λ x. x.order) items)
orders_filtered test [] = refl
orders_filtered test (x ∷ xs) = go (test x.order) (orders_filtered test xs)
  where
    go : (b : Bool) → map (λ (y : Item). y.order) (filter (λ y. test y.order) xs) ≡ filter test (map (λ y. y.order) xs)
        → map (λ (y : Item). y.order) (cond b (x ∷ filter (λ y. test y.order) xs) (filter (λ y. test y.order) xs)) ≡ cond b (x.order ∷ filter test (map (λ y. y.order) xs)) (filter test (map (λ y. y.order) xs))
    go true e = ap (λ l. x.order ∷ l) e
    go false e = e

at_filtered : (test : Order → Bool) (k : ℕ) (xs : List Item) (x : Item) → item_at k xs ≡ Some x → test x.order ≡ true → item_at k (filter (λ y. test y.order) xs) ≡ Some x
at_filtered test k [] x e t = absurd (cc)
at_filtered test k (y ∷ ys) x e t = go (y.key == k) (test y.order) refl refl e (λ f. at_filtered test k ys x f t)
  where
    go : (b c : Bool) → (y.key == k) ≡ b → test y.order ≡ c → cond b (Some y) (item_at k ys) ≡ Some x → (item_at k ys ≡ Some x → item_at k (filter (λ z. test z.order) ys) ≡ Some x)
        → item_at k (cond c (y ∷ filter (λ z. test z.order) ys) (filter (λ z. test z.order) ys)) ≡ Some x
    go true true f g e more = (λ i. cond (f i) (Some y) (item_at k (filter (λ z. test z.order) ys))) ∙ e
    go true false f g e more = let one : y ≡ x = cc in absurd (let i : true ≡ false = sym t ∙ ap (λ (z : Item). test z.order) (sym one) ∙ g in cc)
    go false true f g e more = (λ i. cond (f i) (Some y) (item_at k (filter (λ z. test z.order) ys))) ∙ more e
    go false false f g e more = more e

pub keys_filter : (b d : Held) (p q : Parts) (s t : ℕ) (test : Order → Bool) → held_in p s ≡ b → held_in q t ≡ d → items_in q ≡ filter (λ x. test x.order) (items_in p)
    → (key : OrderKey) → IfSome (named b key) (λ o. test o ≡ true → named d key ≡ Some o)
keys_filter b d p q s t test e f g key = subst (λ z. IfSome z (λ o. test o ≡ true → named d key ≡ Some o)) (sym (named_is b p s key e)) (go (item_at key.node (items_in p)) refl)
  where
    go : (x : Option Item) → item_at key.node (items_in p) ≡ x → IfSome (option_map (λ (z : Item). z.order) x) (λ o. test o ≡ true → named d key ≡ Some o)
    go None h = tt
    go (Some x) h = λ u. named_is d q t key f ∙ ap (option_map (λ (z : Item). z.order)) (ap (item_at key.node) g ∙ at_filtered test key.node (items_in p) x h u)

pub orders_filter : (b : Held) (p q : Parts) (s : ℕ) (test : Order → Bool) → held_in p s ≡ b → items_in q ≡ filter (λ x. test x.order) (items_in p) → orders_in q ≡ filter test b.orders
orders_filter b p q s test e g = ap (map (λ (x : Item). x.order)) g ∙ orders_filtered test (items_in p) ∙ ap (λ (h : Held). filter test h.orders) e

pub kept_filter : (p q : Parts) (s : ℕ) (test : Order → Bool) → IsKept p s → IsBook q → items_in q ≡ filter (λ x. test x.order) (items_in p) → ((spare : ℕ) → HasRoom spare p → HasRoom spare q) → IsKept q s
kept_filter p q s test k book g room =
    let shorter : length (items_in q) ≤ length (items_in p) = subst (λ l. length l ≤ length (items_in p)) (sym g) (filter_shorter _ (items_in p)) in
    let within : s + length (items_in p) ≤ 65537 = k.within in
    record { stands = book; room = room s k.room; within = omega (arith, shorter, within) }

-- of other ids
pub keys_remove : (b d : Held) (p q : Parts) (s t : ℕ) (id : OrderId) → held_in p s ≡ b → held_in q t ≡ d → items_in q ≡ filter (λ x. not (is_same_id x.order.id id)) (items_in p)
    → (key : OrderKey) → IfSome (named b key) (λ o. is_same_id o.id id ≡ false → named d key ≡ Some o)
keys_remove b d p q s t id e f g key = go (named b key) (keys_filter b d p q s t (λ o. not (is_same_id o.id id)) e f g key)
  where
    go : (x : Option Order) → IfSome x (λ o. not (is_same_id o.id id) ≡ true → named d key ≡ Some o) → IfSome x (λ o. is_same_id o.id id ≡ false → named d key ≡ Some o)
    go None h = tt
    go (Some o) h = λ u. h (ap not u)

-- with more room
pub roomier_items : (p q : Parts) → IsRoomier p q → items_in q ≡ items_in p
roomier_items p q r = λ i. go (r.slots i) (r.arrivals.0 i)
  where
    go : List (Option Node) → List ℕ → List Item
    go slots keys = filter_map (λ k. option_map (λ (n : Node). record { key = k; order = n.order }) (slice_index_or slots k None)) keys

pub roomier_stands : (items : List Item) (p q : Parts) → IsRoomier p q → Stands items p → Stands items q
roomier_stands items p q r s = record {
  keys = r.arrivals.0 ∙ s.keys;
  numbered = subst (λ l. IsNumbered l q.numbers.items q.next) (sym r.arrivals.0) (subst (λ n. IsNumbered p.arrivals.items q.numbers.items n) (sym r.next)
      (subst (λ t. IsNumbered p.arrivals.items t p.next) (sym r.numbers.0) s.numbered));
  distinct = s.distinct;
  one_per_id = s.one_per_id;
  nodes = λ key. ap (λ l. slice_index_or l key None) r.slots ∙ s.nodes key;
  ids = λ id. ap (rows.find order_id_cmp id) r.ids.0 ∙ s.ids id;
  levels = λ n. ap (rows.find level_cmp n) r.levels.0 ∙ s.levels n;
  accounts = λ n. ap (rows.find subaccount_cmp n) r.accounts.0 ∙ s.accounts n;
  expiries = λ n. ap (rows.find expiry_cmp n) r.expiries.0 ∙ s.expiries n;
  sorted = record {
    ids = subst (λ l. T (rows.is_sorted order_id_cmp l)) (sym r.ids.0) s.sorted.ids;
    levels = subst (λ l. T (rows.is_sorted level_cmp l)) (sym r.levels.0) s.sorted.levels;
    accounts = subst (λ l. T (rows.is_sorted subaccount_cmp l)) (sym r.accounts.0) s.sorted.accounts;
    expiries = subst (λ l. T (rows.is_sorted expiry_cmp l)) (sym r.expiries.0) s.sorted.expiries;
  };
}

pub roomier_book : (p q : Parts) → IsRoomier p q → IsBook p → IsBook q
roomier_book p q r book = stands_on (items_in p) q (roomier_stands (items_in p) p q r book)

pub roomier_room : (p q : Parts) (s : ℕ) → IsRoomier p q → HasRoom s p → HasRoom s q
roomier_room p q s r h =
    let a1 = h.arena in
    let a2 = r.spare in
    let b1 = h.arrivals in
    let b2 = ap length r.arrivals.0 in
    let b3 = r.arrivals.1 in
    let n1 = h.numbers in
    let n2 = ap length r.numbers.0 in
    let n3 = r.numbers.1 in
    let i1 = h.ids in
    let i2 = ap length r.ids.0 in
    let i3 = r.ids.1 in
    let l1 = h.levels in
    let l2 = ap length r.levels.0 in
    let l3 = r.levels.1 in
    let s1 = h.accounts in
    let s2 = ap length r.accounts.0 in
    let s3 = r.accounts.1 in
    let e1 = h.expiries in
    let e2 = ap length r.expiries.0 in
    let e3 = r.expiries.1 in
    record {
      arena = omega (arith, a1, a2);
      arrivals = omega (arith, b1, b2, b3);
      numbers = omega (arith, n1, n2, n3);
      ids = omega (arith, i1, i2, i3);
      levels = omega (arith, l1, l2, l3);
      accounts = omega (arith, s1, s2, s3);
      expiries = omega (arith, e1, e2, e3);
    }

pub kept_same : (p q : Parts) (s : ℕ) → IsKept p s → IsRoomier p q → IsKept q s
kept_same p q s k r = record { stands = roomier_book p q r k.stands; room = roomier_room p q s r k.room; within = subst (λ l. s + length l ≤ 65537) (sym (roomier_items p q r)) k.within }

pub kept_room : (p q : Parts) (s t : ℕ) → IsKept p s → IsRoomier p q → HasRoom t q → t + length (items_in p) ≤ 65537 → IsKept q t
kept_room p q s t k r room less = record { stands = roomier_book p q r k.stands; room = room; within = subst (λ l. t + length l ≤ 65537) (sym (roomier_items p q r)) less }
