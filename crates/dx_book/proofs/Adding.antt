-- What is kept of the parts where an order is put in.
use Rattle.std.proofs.Common.{◌≡◌, ℕ, ◌==◌, ◌≢◌, ◌≤◌, Bool, true, false, not, cond, Option, None, Some, List, [], ◌∷◌, ◌++◌, filter, map, refl, sym, ap, ◌∙◌, subst}
use Rattle.std.specs.Prelude.{T, IsSome, IfSome, option_map, find}
use Rattle.std.specs.Ordering.{eq_by_cmp, nat_cmp}
use Rattle.std.specs.FinMap.Entries as rows
use Rattle.std.proofs.lemmas.Bool.{eqb-true, eq-eqb}
use Rattle.dx_types.specs.Keys.{order_id_cmp, order_id_total, order_id_exact, subaccount_cmp, subaccount_total, subaccount_exact}
use Rattle.dx_types.specs.declared.OrderId.{OrderId}
use Rattle.dx_types.specs.declared.Order.{Order}
use Rattle.dx_spec.specs.Orders.{is_same_id}
use Rattle.dx_node_spec.specs.Book.{resting, HasOnePerId}
use Rattle.dx_arena.specs.Nodes.{Nodes, node_at}
use Rattle.dx_arena.specs.declared.node.Node.{Node}
use Rattle.dx_book.specs.Arrivals.{IsNumbered}
use Rattle.dx_book.specs.Chains.{last_of, ends_of, ends_put}
use Rattle.dx_book.specs.Names.{level_cmp, expiry_cmp, level_of, expiry_of}
use Rattle.dx_book.specs.Orders.{level_total, level_exact, expiry_total, expiry_exact}
use Rattle.dx_book.specs.Linking.{new_node, linked_behind}
use Rattle.dx_book.specs.Held.{Item, item_at, chain_of, node_in}
use Rattle.dx_book.specs.Standing.{has, AreDistinct, HasEnds, AreSorted, Stands, item_of}
use Rattle.dx_book.specs.declared.parts.Parts.{Parts}
use Rattle.dx_spec.proofs.Same.{one_id, own_id, swapped_ids}
use Rattle.dx_book.proofs.Ids.{one_per_id-append}
use Rattle.dx_book.proofs.Arriving.{numbered_put}
use Rattle.dx_book.proofs.Keys.{same_key}
use Rattle.dx_book.proofs.Chained as chained
use Rattle.dx_book.proofs.Named.{key_of, keys_of, links_put, links_new, ends_with}

order_of : Item → Order
order_of x = x.order

pub map_put : {X Y : Type 0} (f : X → Y) (xs : List X) (z : X) → map f (xs ++ z ∷ []) ≡ map f xs ++ f z ∷ []
map_put f [] z = refl
map_put f (x ∷ xs) z = ap (λ l. f x ∷ l) (map_put f xs z)

-- the one found among the items and among their orders
pub resting_of : (items : List Item) (id : OrderId) → option_map (λ (x : Item). x.order) (item_of id items) ≡ resting (map (λ x. x.order) items) id
resting_of [] id = refl
resting_of (x ∷ xs) id = go (is_same_id x.order.id id) (resting_of xs id)
  where
    go : (b : Bool) → option_map (λ (y : Item). y.order) (item_of id xs) ≡ resting (map (λ y. y.order) xs) id
        → option_map (λ (y : Item). y.order) (cond b (Some x) (item_of id xs)) ≡ cond b (Some x.order) (resting (map (λ y. y.order) xs) id)
    go true e = refl
    go false e = e

pub none_of : (o : Option Item) → option_map (λ (x : Item). x.order) o ≡ None → o ≡ None
none_of None e = refl
none_of (Some x) e = absurd (cc)

-- the key of an id, with one more order
item_of_put : (items : List Item) (z : Item) (id : OrderId) → item_of z.order.id items ≡ None
    → item_of id (items ++ z ∷ []) ≡ cond (is_same_id z.order.id id) (Some z) (item_of id items)
item_of_put [] z id e = refl
item_of_put (x ∷ xs) z id e = go (is_same_id x.order.id z.order.id) refl e (item_of_put xs z id)
  where
    go : (b : Bool) → is_same_id x.order.id z.order.id ≡ b → cond b (Some x) (item_of z.order.id xs) ≡ None
        → (item_of z.order.id xs ≡ None → item_of id (xs ++ z ∷ []) ≡ cond (is_same_id z.order.id id) (Some z) (item_of id xs))
        → cond (is_same_id x.order.id id) (Some x) (item_of id (xs ++ z ∷ [])) ≡ cond (is_same_id z.order.id id) (Some z) (cond (is_same_id x.order.id id) (Some x) (item_of id xs))
    go true f e more = absurd (cc)
    go false f e more = go2 (is_same_id x.order.id id) (is_same_id z.order.id id) refl refl (more e)
      where
        go2 : (c d : Bool) → is_same_id x.order.id id ≡ c → is_same_id z.order.id id ≡ d → item_of id (xs ++ z ∷ []) ≡ cond d (Some z) (item_of id xs)
            → cond c (Some x) (item_of id (xs ++ z ∷ [])) ≡ cond d (Some z) (cond c (Some x) (item_of id xs))
        go2 true true g h more =
            let same : z.order.id ≡ id = one_id z.order.id id h in
            let both : is_same_id x.order.id z.order.id ≡ true = ap (λ i. is_same_id x.order.id i) same ∙ g in
            absurd (let i : true ≡ false = sym both ∙ f in cc)
        go2 true false g h more = refl
        go2 false d g h more = more

module _ (items : List Item) (p q : Parts) (o : Order) (k : ℕ) (stands : Stands items p)
    (absent : resting (map (λ x. x.order) items) o.id ≡ None)
    (vacant : node_at p.arena k ≡ None) where
  abbrev z : Item
  z = record { key = k; order = o }

  missing : item_at k items ≡ None
  missing = go (item_at k items) (sym (stands.nodes k) ∙ vacant)
    where
      go : (x : Option Item) → option_map (node_in items) x ≡ None → x ≡ None
      go None e = refl
      go (Some x) e = absurd (cc)

  new_key : has k (keys_of items) ≡ false
  new_key = chained.none_at key_of (eq_by_cmp order_id_cmp) (λ a b e. one_id a b e) own_id (λ x. x.order.id) k items missing

  new_id : item_of o.id items ≡ None
  new_id = none_of (item_of o.id items) (resting_of items o.id ∙ absent)

  pub adds_nodes :
      node_at q.arena k ≡ Some (new_node o (last_of (rows.find level_cmp (level_of o) p.levels.items)) (last_of (rows.find subaccount_cmp o.id.who p.accounts.items)) (last_of (rows.find expiry_cmp (expiry_of o) p.expiries.items)))
      → ((j : ℕ) → j ≢ k → node_at q.arena j
      ≡ option_map (linked_behind (last_of (rows.find level_cmp (level_of o) p.levels.items)) (last_of (rows.find subaccount_cmp o.id.who p.accounts.items)) (last_of (rows.find expiry_cmp (expiry_of o) p.expiries.items)) k j) (node_at p.arena j))
      → (j : ℕ) → node_at q.arena j ≡ option_map (node_in (items ++ z ∷ [])) (item_at j (items ++ z ∷ []))
  adds_nodes new others j = go (k == j) refl
    where
      found : item_at j (items ++ z ∷ []) ≡ cond (k == j) (Some z) (item_at j items)
      found = chained.at_put key_of (eq_by_cmp order_id_cmp) (λ a b e. one_id a b e) own_id (λ x. x.order.id) j items z new_key

      mine : new_node o (last_of (rows.find level_cmp (level_of o) p.levels.items)) (last_of (rows.find subaccount_cmp o.id.who p.accounts.items)) (last_of (rows.find expiry_cmp (expiry_of o) p.expiries.items)) ≡ node_in (items ++ z ∷ []) z
      mine =
          (λ i. new_node o (last_of (stands.levels (level_of o) i)) (last_of (stands.accounts o.id.who i)) (last_of (stands.expiries (expiry_of o) i)))
          ∙ (λ i. record {
            order = o;
            level = links_new level_cmp level_total level_exact level_of items z new_key i;
            account = links_new subaccount_cmp subaccount_total subaccount_exact (λ p. p.id.who) items z new_key i;
            expiry = links_new expiry_cmp expiry_total expiry_exact expiry_of items z new_key i;
          })

      other : (x : Option Item) → item_at j items ≡ x
          → option_map (linked_behind (last_of (rows.find level_cmp (level_of o) p.levels.items)) (last_of (rows.find subaccount_cmp o.id.who p.accounts.items)) (last_of (rows.find expiry_cmp (expiry_of o) p.expiries.items)) k j) (option_map (node_in items) x)
          ≡ option_map (node_in (items ++ z ∷ [])) x
      other None e = refl
      other (Some x) e =
          let at : x.key ≡ j = chained.key_at key_of (eq_by_cmp order_id_cmp) (λ a b e. one_id a b e) own_id (λ x. x.order.id) j items x e in
          let e2 : item_at x.key items ≡ Some x = ap (λ m. item_at m items) at ∙ e in
          (λ i. Some (linked_behind (last_of (stands.levels (level_of o) i)) (last_of (stands.accounts o.id.who i)) (last_of (stands.expiries (expiry_of o) i)) k (sym at i) (node_in items x)))
          ∙ (λ i. Some (record {
            order = x.order;
            level = links_put level_cmp level_total level_exact level_of items z x x.key stands.distinct e2 i;
            account = links_put subaccount_cmp subaccount_total subaccount_exact (λ p. p.id.who) items z x x.key stands.distinct e2 i;
            expiry = links_put expiry_cmp expiry_total expiry_exact expiry_of items z x x.key stands.distinct e2 i;
          }))

      go : (b : Bool) → (k == j) ≡ b → node_at q.arena j ≡ option_map (node_in (items ++ z ∷ [])) (item_at j (items ++ z ∷ []))
      go true e =
          let same : j ≡ k = sym (eqb-true k j e) in
          ap (node_at q.arena) same ∙ new ∙ ap (λ n. Some n) mine ∙ sym (ap (option_map (node_in (items ++ z ∷ []))) (found ∙ ap (λ b. cond b (Some z) (item_at j items)) e))
      go false e =
          let apart : j ≢ k = λ same. let f : true ≡ false = sym (eq-eqb k j (sym same)) ∙ e in cc in
          others j apart ∙ ap (option_map (linked_behind (last_of (rows.find level_cmp (level_of o) p.levels.items)) (last_of (rows.find subaccount_cmp o.id.who p.accounts.items)) (last_of (rows.find expiry_cmp (expiry_of o) p.expiries.items)) k j)) (stands.nodes j)
          ∙ other (item_at j items) refl
          ∙ sym (ap (option_map (node_in (items ++ z ∷ []))) (found ∙ ap (λ b. cond b (Some z) (item_at j items)) e))

  pub adds_ids : q.ids.items ≡ rows.put order_id_cmp o.id k p.ids.items → (id : OrderId) → rows.find order_id_cmp id q.ids.items ≡ option_map (λ (x : Item). x.key) (item_of id (items ++ z ∷ []))
  adds_ids e id =
      ap (rows.find order_id_cmp id) e
      ∙ rows.find-put order_id_cmp order_id_total id o.id k p.ids.items
      ∙ (λ i. cond (swapped_ids id o.id i) (Some k) (stands.ids id i))
      ∙ go (is_same_id o.id id)
      ∙ sym (ap (option_map (λ (x : Item). x.key)) (item_of_put items z id new_id))
    where
      go : (b : Bool) → cond b (Some k) (option_map (λ (x : Item). x.key) (item_of id items)) ≡ option_map (λ (x : Item). x.key) (cond b (Some z) (item_of id items))
      go true = refl
      go false = refl

  pub adds_sorted : q.ids.items ≡ rows.put order_id_cmp o.id k p.ids.items
      → q.levels.items ≡ rows.put level_cmp (level_of o) (ends_put (rows.find level_cmp (level_of o) p.levels.items) k) p.levels.items
      → q.accounts.items ≡ rows.put subaccount_cmp o.id.who (ends_put (rows.find subaccount_cmp o.id.who p.accounts.items) k) p.accounts.items
      → q.expiries.items ≡ rows.put expiry_cmp (expiry_of o) (ends_put (rows.find expiry_cmp (expiry_of o) p.expiries.items) k) p.expiries.items
      → AreSorted q
  adds_sorted a b c d = record {
    ids = subst (λ l. T (rows.is_sorted order_id_cmp l)) (sym a) (rows.is_sorted-put order_id_cmp order_id_total _ _ p.ids.items stands.sorted.ids);
    levels = subst (λ l. T (rows.is_sorted level_cmp l)) (sym b) (rows.is_sorted-put level_cmp level_total _ _ p.levels.items stands.sorted.levels);
    accounts = subst (λ l. T (rows.is_sorted subaccount_cmp l)) (sym c) (rows.is_sorted-put subaccount_cmp subaccount_total _ _ p.accounts.items stands.sorted.accounts);
    expiries = subst (λ l. T (rows.is_sorted expiry_cmp l)) (sym d) (rows.is_sorted-put expiry_cmp expiry_total _ _ p.expiries.items stands.sorted.expiries);
  }

  -- the parts with one more order
  pub adds :
      node_at q.arena k ≡ Some (new_node o (last_of (rows.find level_cmp (level_of o) p.levels.items)) (last_of (rows.find subaccount_cmp o.id.who p.accounts.items)) (last_of (rows.find expiry_cmp (expiry_of o) p.expiries.items)))
      → ((j : ℕ) → j ≢ k → node_at q.arena j
      ≡ option_map (linked_behind (last_of (rows.find level_cmp (level_of o) p.levels.items)) (last_of (rows.find subaccount_cmp o.id.who p.accounts.items)) (last_of (rows.find expiry_cmp (expiry_of o) p.expiries.items)) k j) (node_at p.arena j))
      → q.ids.items ≡ rows.put order_id_cmp o.id k p.ids.items
      → q.levels.items ≡ rows.put level_cmp (level_of o) (ends_put (rows.find level_cmp (level_of o) p.levels.items) k) p.levels.items
      → q.accounts.items ≡ rows.put subaccount_cmp o.id.who (ends_put (rows.find subaccount_cmp o.id.who p.accounts.items) k) p.accounts.items
      → q.expiries.items ≡ rows.put expiry_cmp (expiry_of o) (ends_put (rows.find expiry_cmp (expiry_of o) p.expiries.items) k) p.expiries.items
      → q.arrivals.items ≡ p.arrivals.items ++ k ∷ []
      → q.numbers.items ≡ rows.put nat_cmp k p.next p.numbers.items
      → p.next ≤ q.next
      → Stands (items ++ z ∷ []) q
  adds new others ids levels accounts expiries arrivals numbers up = record {
    keys = arrivals ∙ ap (λ l. l ++ k ∷ []) stands.keys ∙ sym (map_put key_of items z);
    numbered = subst (λ l. IsNumbered l q.numbers.items q.next) (sym arrivals) (subst (λ t. IsNumbered (p.arrivals.items ++ k ∷ []) t q.next) (sym numbers)
        (numbered_put p.arrivals.items p.numbers.items p.next q.next k stands.numbered (ap (has k) stands.keys ∙ new_key) up));
    distinct = chained.distinct_put key_of (eq_by_cmp order_id_cmp) (λ a b e. one_id a b e) own_id (λ x. x.order.id) items z stands.distinct new_key;
    one_per_id = subst HasOnePerId (sym (map_put (λ (x : Item). x.order) items z)) (one_per_id-append (map (λ x. x.order) items) o stands.one_per_id absent);
    nodes = adds_nodes new others;
    ids = adds_ids ids;
    levels = ends_with level_cmp level_total level_exact level_of items z p.levels.items q.levels.items stands.levels levels;
    accounts = ends_with subaccount_cmp subaccount_total subaccount_exact (λ p. p.id.who) items z p.accounts.items q.accounts.items stands.accounts accounts;
    expiries = ends_with expiry_cmp expiry_total expiry_exact expiry_of items z p.expiries.items q.expiries.items stands.expiries expiries;
    sorted = adds_sorted ids levels accounts expiries;
  }

  -- the same from the last keys of the chains
  pub adds_behind : (l a e : Option ℕ) → l ≡ last_of (rows.find level_cmp (level_of o) p.levels.items) → a ≡ last_of (rows.find subaccount_cmp o.id.who p.accounts.items) → e ≡ last_of (rows.find expiry_cmp (expiry_of o) p.expiries.items)
      → node_at q.arena k ≡ Some (new_node o l a e)
      → ((j : ℕ) → j ≢ k → node_at q.arena j ≡ option_map (linked_behind l a e k j) (node_at p.arena j))
      → q.ids.items ≡ rows.put order_id_cmp o.id k p.ids.items
      → q.levels.items ≡ rows.put level_cmp (level_of o) (ends_put (rows.find level_cmp (level_of o) p.levels.items) k) p.levels.items
      → q.accounts.items ≡ rows.put subaccount_cmp o.id.who (ends_put (rows.find subaccount_cmp o.id.who p.accounts.items) k) p.accounts.items
      → q.expiries.items ≡ rows.put expiry_cmp (expiry_of o) (ends_put (rows.find expiry_cmp (expiry_of o) p.expiries.items) k) p.expiries.items
      → q.arrivals.items ≡ p.arrivals.items ++ k ∷ []
      → q.numbers.items ≡ rows.put nat_cmp k p.next p.numbers.items
      → p.next ≤ q.next
      → Stands (items ++ z ∷ []) q
  adds_behind l a e lv ac ex new others =
      adds (new ∙ (λ i. Some (new_node o (lv i) (ac i) (ex i)))) (λ j h. others j h ∙ (λ i. option_map (linked_behind (lv i) (ac i) (ex i) k j) (node_at p.arena j)))
