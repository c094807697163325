-- What is kept of the parts where an order is taken out.
use Rattle.std.proofs.Common.{◌≡◌, ℕ, ◌==◌, ◌≢◌, Bool, true, false, not, cond, Option, None, Some, List, [], ◌∷◌, ◌++◌, filter, map, refl, sym, ap, ◌∙◌, subst}
use Rattle.std.specs.Prelude.{IsSome, IfSome, option_map, find}
use Rattle.std.specs.Ordering.{eq_by_cmp, nat_cmp}
use Rattle.std.specs.FinMap.Entries as rows
use Rattle.std.proofs.lemmas.Bool.{eqb-true, eq-eqb}
use Rattle.dx_types.specs.Keys.{order_id_cmp, order_id_total, order_id_exact, subaccount_cmp, subaccount_total, subaccount_exact}
use Rattle.dx_types.specs.declared.OrderId.{OrderId}
use Rattle.dx_types.specs.declared.SubaccountId.{SubaccountId}
use Rattle.dx_types.specs.declared.Order.{Order}
use Rattle.dx_spec.specs.Orders.{is_same_id}
use Rattle.dx_node_spec.specs.Book.{resting, without, HasOnePerId}
use Rattle.dx_arena.specs.Nodes.{Nodes, node_at}
use Rattle.dx_arena.specs.declared.node.Links.{Links}
use Rattle.dx_arena.specs.declared.node.Node.{Node}
use Rattle.dx_book.specs.Chains.{last_of, ends_of, ends_without, links_in}
use Rattle.dx_book.specs.Names.{level_cmp, expiry_cmp, level_of, expiry_of}
use Rattle.dx_book.specs.Orders.{level_total, level_exact, expiry_total, expiry_exact}
use Rattle.dx_book.specs.Linking.{linked_over, IsOther, HasEnds, HasNeighbours}
use Rattle.dx_book.specs.Arrivals.{IsNumbered}
use Rattle.dx_book.specs.Held.{Item, item_at, chain_of, node_in}
use Rattle.dx_book.specs.Standing.{has, AreDistinct, HasEnds as HasAllEnds, AreSorted, Stands, item_of}
use Rattle.dx_book.specs.declared.parts.Parts.{Parts}
use Rattle.dx_book.specs.declared.names.Level.{Level}
use Rattle.dx_book.specs.declared.names.Expiry.{Expiry}
use Rattle.dx_spec.proofs.Each.{neither}
use Rattle.dx_spec.proofs.Same.{one_id, own_id, swapped_ids}
use Rattle.dx_node_spec.proofs.Ids.{one_per_id-filter}
use Rattle.dx_book.proofs.Arriving.{numbered_gone}
use Rattle.dx_book.proofs.Keys.{same_key, key_swap}
use Rattle.dx_book.proofs.Chained as chained
use Rattle.dx_book.proofs.Named.{key_of, keys_of, without_item, links_gone, ends_less, neighbours_held}

-- without the item at a key there is none of its id
pub same_gone : (items : List Item) (k : ℕ) (y : Item) → AreDistinct (keys_of items) → HasOnePerId (map (λ x. x.order) items) → item_at k items ≡ Some y
    → without_item k items ≡ filter (λ x. not (is_same_id x.order.id y.order.id)) items
same_gone [] k y d h e = absurd (cc)
same_gone (x ∷ xs) k y d h e = go (x.key == k) refl e (λ f. same_gone xs k y d.1 h.1 f)
  where
    orders : List Item → List Order
    orders l = map (λ (x : Item). x.order) l

    others : OrderId → List Item → List Item
    others id l = filter (λ x. not (is_same_id x.order.id id)) l

    none_here : (ys : List Item) → has k (keys_of ys) ≡ false → without_item k ys ≡ ys
    none_here [] n = refl
    none_here (w ∷ ws) n = go3 (w.key == k) n (none_here ws)
      where
        go3 : (b : Bool) → cond b true (has k (keys_of ws)) ≡ false → (has k (keys_of ws) ≡ false → without_item k ws ≡ ws) → cond (not b) (w ∷ without_item k ws) (without_item k ws) ≡ w ∷ ws
        go3 true n more = absurd (cc)
        go3 false n more = ap (λ l. w ∷ l) (more n)

    none_there : (ws : List Item) → resting (orders ws) x.order.id ≡ None → others x.order.id ws ≡ ws
    none_there [] n = refl
    none_there (w ∷ ws) n =
        let m = neither (is_same_id w.order.id x.order.id) w.order (resting (orders ws) x.order.id) n in
        (λ i. cond (not (m.0 i)) (w ∷ others x.order.id ws) (others x.order.id ws)) ∙ ap (λ l. w ∷ l) (none_there ws m.1)

    id_apart : (ys : List Item) → item_at k ys ≡ Some y → resting (orders ys) x.order.id ≡ None → is_same_id y.order.id x.order.id ≡ false
    id_apart [] f n = absurd (cc)
    id_apart (w ∷ ws) f n = go4 (w.key == k) f (neither (is_same_id w.order.id x.order.id) w.order (resting (orders ws) x.order.id) n) (λ f n. id_apart ws f n)
      where
        go4 : (b : Bool) → cond b (Some w) (item_at k ws) ≡ Some y → (is_same_id w.order.id x.order.id ≡ false) × (resting (orders ws) x.order.id ≡ None)
            → (item_at k ws ≡ Some y → resting (orders ws) x.order.id ≡ None → is_same_id y.order.id x.order.id ≡ false) → is_same_id y.order.id x.order.id ≡ false
        go4 true f m more = let same : w ≡ y = cc in ap (λ (v : Item). is_same_id v.order.id x.order.id) (sym same) ∙ m.0
        go4 false f m more = more f m.1

    go : (b : Bool) → (x.key == k) ≡ b → cond b (Some x) (item_at k xs) ≡ Some y → (item_at k xs ≡ Some y → without_item k xs ≡ others y.order.id xs)
        → cond (not b) (x ∷ without_item k xs) (without_item k xs) ≡ cond (not (is_same_id x.order.id y.order.id)) (x ∷ others y.order.id xs) (others y.order.id xs)
    go true f e more =
        let same : x ≡ y = cc in
        let away : has k (keys_of xs) ≡ false = ap (λ m. has m (keys_of xs)) (sym (eqb-true x.key k f)) ∙ d.0 in
        let mine : is_same_id x.order.id y.order.id ≡ true = ap (λ (v : Item). is_same_id x.order.id v.order.id) (sym same) ∙ own_id x.order.id in
        none_here xs away
        ∙ sym (none_there xs h.0)
        ∙ ap (λ (v : Item). others v.order.id xs) same
        ∙ (λ i. cond (not (sym mine i)) (x ∷ others y.order.id xs) (others y.order.id xs))
    go false f e more =
        let apart : is_same_id x.order.id y.order.id ≡ false = swapped_ids x.order.id y.order.id ∙ id_apart xs e h.0 in
        ap (λ l. x ∷ l) (more e) ∙ (λ i. cond (not (sym apart i)) (x ∷ others y.order.id xs) (others y.order.id xs))

-- the item of an id, once another is taken out
item_of_gone : (items : List Item) (k : ℕ) (y : Item) (id : OrderId) → AreDistinct (keys_of items) → HasOnePerId (map (λ x. x.order) items) → item_at k items ≡ Some y
    → item_of id (without_item k items) ≡ cond (is_same_id y.order.id id) None (item_of id items)
item_of_gone [] k y id d h e = absurd (cc)
item_of_gone (x ∷ xs) k y id d h e = go (x.key == k) refl e (λ f. item_of_gone xs k y id d.1 h.1 f)
  where
    orders : List Item → List Order
    orders l = map (λ (x : Item). x.order) l

    none_here : (ys : List Item) → has k (keys_of ys) ≡ false → without_item k ys ≡ ys
    none_here [] n = refl
    none_here (w ∷ ws) n = go3 (w.key == k) n (none_here ws)
      where
        go3 : (b : Bool) → cond b true (has k (keys_of ws)) ≡ false → (has k (keys_of ws) ≡ false → without_item k ws ≡ ws) → cond (not b) (w ∷ without_item k ws) (without_item k ws) ≡ w ∷ ws
        go3 true n more = absurd (cc)
        go3 false n more = ap (λ l. w ∷ l) (more n)

    none_with : (ys : List Item) → resting (orders ys) x.order.id ≡ None → is_same_id x.order.id id ≡ true → item_of id ys ≡ None
    none_with [] n s = refl
    none_with (w ∷ ws) n s =
        let m = neither (is_same_id w.order.id x.order.id) w.order (resting (orders ws) x.order.id) n in
        let away : is_same_id w.order.id id ≡ false = ap (λ i. is_same_id w.order.id i) (sym (one_id x.order.id id s)) ∙ m.0 in
        (λ i. cond (away i) (Some w) (item_of id ws)) ∙ none_with ws m.1 s

    id_apart : (ys : List Item) → item_at k ys ≡ Some y → resting (orders ys) x.order.id ≡ None → is_same_id y.order.id x.order.id ≡ false
    id_apart [] f n = absurd (cc)
    id_apart (w ∷ ws) f n = go4 (w.key == k) f (neither (is_same_id w.order.id x.order.id) w.order (resting (orders ws) x.order.id) n) (λ f n. id_apart ws f n)
      where
        go4 : (b : Bool) → cond b (Some w) (item_at k ws) ≡ Some y → (is_same_id w.order.id x.order.id ≡ false) × (resting (orders ws) x.order.id ≡ None)
            → (item_at k ws ≡ Some y → resting (orders ws) x.order.id ≡ None → is_same_id y.order.id x.order.id ≡ false) → is_same_id y.order.id x.order.id ≡ false
        go4 true f m more = let same : w ≡ y = cc in ap (λ (v : Item). is_same_id v.order.id x.order.id) (sym same) ∙ m.0
        go4 false f m more = more f m.1

    go : (b : Bool) → (x.key == k) ≡ b → cond b (Some x) (item_at k xs) ≡ Some y
        → (item_at k xs ≡ Some y → item_of id (without_item k xs) ≡ cond (is_same_id y.order.id id) None (item_of id xs))
        → item_of id (cond (not b) (x ∷ without_item k xs) (without_item k xs)) ≡ cond (is_same_id y.order.id id) None (cond (is_same_id x.order.id id) (Some x) (item_of id xs))
    go true f e more =
        let same : x ≡ y = cc in
        let away : has k (keys_of xs) ≡ false = ap (λ m. has m (keys_of xs)) (sym (eqb-true x.key k f)) ∙ d.0 in
        ap (item_of id) (none_here xs away)
        ∙ first (is_same_id x.order.id id) refl
        ∙ ap (λ (v : Item). cond (is_same_id v.order.id id) None (cond (is_same_id x.order.id id) (Some x) (item_of id xs))) same
      where
        first : (b : Bool) → is_same_id x.order.id id ≡ b → item_of id xs ≡ cond b None (cond b (Some x) (item_of id xs))
        first true g = none_with xs h.0 g
        first false g = refl
    go false f e more = second (is_same_id x.order.id id) (is_same_id y.order.id id) refl refl (more e)
      where
        second : (b c : Bool) → is_same_id x.order.id id ≡ b → is_same_id y.order.id id ≡ c → item_of id (without_item k xs) ≡ cond c None (item_of id xs)
            → cond b (Some x) (item_of id (without_item k xs)) ≡ cond c None (cond b (Some x) (item_of id xs))
        second true true g i more =
            let same : id ≡ x.order.id = sym (one_id x.order.id id g) in
            let both : is_same_id y.order.id x.order.id ≡ true = ap (λ m. is_same_id y.order.id m) (sym same) ∙ i in
            absurd (let j : true ≡ false = sym both ∙ id_apart xs e h.0 in cc)
        second true false g i more = refl
        second false c g i more = more

pub orders_without : (items : List Item) (id : OrderId) → map (λ (x : Item). x.order) (filter (λ x. not (is_same_id x.order.id id)) items) ≡ without (map (λ x. x.order) items) id
orders_without [] id = refl
orders_without (x ∷ xs) id = go (is_same_id x.order.id id) (orders_without xs id)
  where
    go : (b : Bool) → map (λ (y : Item). y.order) (filter (λ y. not (is_same_id y.order.id id)) xs) ≡ without (map (λ y. y.order) xs) id
        → map (λ (y : Item). y.order) (cond (not b) (x ∷ filter (λ y. not (is_same_id y.order.id id)) xs) (filter (λ y. not (is_same_id y.order.id id)) xs)) ≡ cond (not b) (x.order ∷ without (map (λ y. y.order) xs) id) (without (map (λ y. y.order) xs) id)
    go true e = e
    go false e = ap (λ l. x.order ∷ l) e

module _ (items : List Item) (p q : Parts) (k : ℕ) (n : Node) (y : Item) (stands : Stands items p) (at : item_at k items ≡ Some y) (node : node_at p.arena k ≡ Some n) where
  -- the node is that of the item
  pub node_is : n ≡ node_in items y
  node_is =
      let e : Some n ≡ Some (node_in items y) = sym node ∙ stands.nodes k ∙ ap (option_map (node_in items)) at in cc

  key_is : y.key ≡ k
  key_is = chained.key_at key_of (eq_by_cmp order_id_cmp) (λ a b e. one_id a b e) own_id (λ x. x.order.id) k items y at

  pub takes_nodes : node_at q.arena k ≡ None → ((j : ℕ) → j ≢ k → node_at q.arena j ≡ option_map (linked_over n j) (node_at p.arena j))
      → (j : ℕ) → node_at q.arena j ≡ option_map (node_in (without_item k items)) (item_at j (without_item k items))
  takes_nodes gone others j = go (j == k) refl
    where
      other : (x : Option Item) → item_at j items ≡ x → (j == k) ≡ false → option_map (linked_over n j) (option_map (node_in items) x) ≡ option_map (node_in (without_item k items)) x
      other None e f = refl
      other (Some x) e f =
          let here : x.key ≡ j = chained.key_at key_of (eq_by_cmp order_id_cmp) (λ a b e. one_id a b e) own_id (λ x. x.order.id) j items x e in
          let e2 : item_at x.key items ≡ Some x = ap (λ m. item_at m items) here ∙ e in
          let f2 : (x.key == k) ≡ false = ap (λ m. m == k) here ∙ f in
          let at2 : item_at y.key items ≡ Some y = ap (λ m. item_at m items) key_is ∙ at in
          let f3 : (x.key == y.key) ≡ false = ap (λ m. x.key == m) key_is ∙ f2 in
          (λ i. Some (linked_over (node_is i) (sym here i) (node_in items x)))
          ∙ (λ i. Some (record {
            order = x.order;
            level = links_gone level_cmp level_total level_exact level_of items y.key y x.key x stands.distinct at2 e2 f3 i;
            account = links_gone subaccount_cmp subaccount_total subaccount_exact (λ p. p.id.who) items y.key y x.key x stands.distinct at2 e2 f3 i;
            expiry = links_gone expiry_cmp expiry_total expiry_exact expiry_of items y.key y x.key x stands.distinct at2 e2 f3 i;
          }))
          ∙ ap (λ m. Some (node_in (without_item m items) x)) key_is

      go : (b : Bool) → (j == k) ≡ b → node_at q.arena j ≡ option_map (node_in (without_item k items)) (item_at j (without_item k items))
      go true e =
          let same : j ≡ k = eqb-true j k e in
          ap (node_at q.arena) same ∙ gone
          ∙ sym (ap (λ m. option_map (node_in (without_item k items)) (item_at m (without_item k items))) same
          ∙ ap (option_map (node_in (without_item k items))) (chained.none_gone key_of (eq_by_cmp order_id_cmp) (λ a b e. one_id a b e) own_id (λ x. x.order.id) k items))
      go false e =
          let apart : j ≢ k = λ same. let f : true ≡ false = sym (eq-eqb j k same) ∙ e in cc in
          others j apart ∙ ap (option_map (linked_over n j)) (stands.nodes j)
          ∙ other (item_at j items) refl e
          ∙ sym (ap (option_map (node_in (without_item k items))) (chained.at_gone key_of (eq_by_cmp order_id_cmp) (λ a b e. one_id a b e) own_id (λ x. x.order.id) k j items (key_swap k j ∙ e)))

  pub takes_ids : q.ids.items ≡ rows.where_key order_id_cmp (λ i. not (is_same_id n.order.id i)) p.ids.items
      → (id : OrderId) → rows.find order_id_cmp id q.ids.items ≡ option_map (λ (x : Item). x.key) (item_of id (without_item k items))
  takes_ids e id =
      ap (rows.find order_id_cmp id) e
      ∙ rows.find-where_key order_id_cmp (λ i. not (is_same_id n.order.id i)) id (λ x t. ap (λ i. not (is_same_id n.order.id i)) (sym (order_id_exact id x t))) p.ids.items
      ∙ (λ i. cond (not (is_same_id (node_is i).order.id id)) (stands.ids id i) None)
      ∙ go (is_same_id y.order.id id)
      ∙ sym (ap (option_map (λ (x : Item). x.key)) (item_of_gone items k y id stands.distinct stands.one_per_id at))
    where
      go : (b : Bool) → cond (not b) (option_map (λ (x : Item). x.key) (item_of id items)) None ≡ option_map (λ (x : Item). x.key) (cond b None (item_of id items))
      go true = refl
      go false = refl

  -- the neighbours of its node are other nodes
  pub has_neighbours : HasNeighbours p.arena k n
  has_neighbours = subst (HasNeighbours p.arena k) (sym node_is) (record {
    level = ends (neighbours_held level_cmp level_total level_exact level_of items (level_of y.order) y.key stands.distinct);
    account = ends (neighbours_held subaccount_cmp subaccount_total subaccount_exact (λ p. p.id.who) items y.order.id.who y.key stands.distinct);
    expiry = ends (neighbours_held expiry_cmp expiry_total expiry_exact expiry_of items (expiry_of y.order) y.key stands.distinct);
  })
    where
      held : (j : ℕ) → IsSome (item_at j items) → IsSome (node_at p.arena j)
      held j s = subst IsSome (sym (stands.nodes j)) (go (item_at j items) s)
        where
          go : (x : Option Item) → IsSome x → IsSome (option_map (node_in items) x)
          go None s = absurd (cc)
          go (Some x) s = refl

      each : (o : Option ℕ) → IfSome o (λ j. ((y.key == j) ≡ false) × IsSome (item_at j items)) → IfSome o (IsOther p.arena k)
      each None h = tt
      each (Some j) h = record {
        apart = λ same. let f : true ≡ false = sym (eq-eqb y.key j (key_is ∙ sym same)) ∙ h.0 in cc;
        held = held j h.1;
      }

      ends : {l : Links} → IfSome l.before (λ j. ((y.key == j) ≡ false) × IsSome (item_at j items)) × IfSome l.after (λ j. ((y.key == j) ≡ false) × IsSome (item_at j items)) → HasEnds p.arena k l
      ends {l} h = record { before = each l.before h.0; after = each l.after h.1 }

  -- the parts without the order
  pub takes : node_at q.arena k ≡ None → ((j : ℕ) → j ≢ k → node_at q.arena j ≡ option_map (linked_over n j) (node_at p.arena j))
      → q.ids.items ≡ rows.where_key order_id_cmp (λ i. not (is_same_id n.order.id i)) p.ids.items
      → ((m : Level) → rows.find level_cmp m q.levels.items ≡ cond (eq_by_cmp level_cmp m (level_of n.order)) (ends_without (rows.find level_cmp (level_of n.order) p.levels.items) n.level) (rows.find level_cmp m p.levels.items))
      → ((m : SubaccountId) → rows.find subaccount_cmp m q.accounts.items ≡ cond (eq_by_cmp subaccount_cmp m n.order.id.who) (ends_without (rows.find subaccount_cmp n.order.id.who p.accounts.items) n.account) (rows.find subaccount_cmp m p.accounts.items))
      → ((m : Expiry) → rows.find expiry_cmp m q.expiries.items ≡ cond (eq_by_cmp expiry_cmp m (expiry_of n.order)) (ends_without (rows.find expiry_cmp (expiry_of n.order) p.expiries.items) n.expiry) (rows.find expiry_cmp m p.expiries.items))
      → q.arrivals.items ≡ filter (λ j. not (j == k)) p.arrivals.items
      → q.numbers.items ≡ rows.where_key nat_cmp (λ i. not (eq_by_cmp nat_cmp k i)) p.numbers.items
      → q.next ≡ p.next
      → AreSorted q
      → Stands (without_item k items) q
  takes gone others ids levels accounts expiries arrivals numbers next sorted = record {
    keys = arrivals ∙ ap (filter (λ j. not (j == k))) stands.keys ∙ sym (chained.keys_gone key_of (eq_by_cmp order_id_cmp) (λ a b e. one_id a b e) own_id (λ x. x.order.id) k items);
    numbered = subst (λ l. IsNumbered l q.numbers.items q.next) (sym arrivals) (subst (λ n. IsNumbered (filter (λ j. not (j == k)) p.arrivals.items) q.numbers.items n) (sym next)
        (subst (λ t. IsNumbered (filter (λ j. not (j == k)) p.arrivals.items) t p.next) (sym numbers) (numbered_gone p.arrivals.items p.numbers.items p.next k stands.numbered)));
    distinct = chained.distinct_gone key_of (eq_by_cmp order_id_cmp) (λ a b e. one_id a b e) own_id (λ x. x.order.id) k items stands.distinct;
    one_per_id = subst HasOnePerId (sym (ap (map (λ (x : Item). x.order)) (same_gone items k y stands.distinct stands.one_per_id at) ∙ orders_without items y.order.id)) (one_per_id-filter (λ o. not (is_same_id o.id y.order.id)) (map (λ x. x.order) items) stands.one_per_id);
    nodes = takes_nodes gone others;
    ids = takes_ids ids;
    levels = subst (λ (j : ℕ). HasAllEnds level_cmp level_of (without_item j items) q.levels.items) key_is
        (ends_less level_cmp level_total level_exact level_of items y.key y p.levels.items q.levels.items stands.distinct at_key stands.levels
        (λ m. levels m ∙ (λ i. cond (eq_by_cmp level_cmp m (level_of (node_is i).order)) (ends_without (rows.find level_cmp (level_of (node_is i).order) p.levels.items) (node_is i).level) (rows.find level_cmp m p.levels.items))));
    accounts = subst (λ (j : ℕ). HasAllEnds subaccount_cmp (λ o. o.id.who) (without_item j items) q.accounts.items) key_is
        (ends_less subaccount_cmp subaccount_total subaccount_exact (λ o. o.id.who) items y.key y p.accounts.items q.accounts.items stands.distinct at_key stands.accounts
        (λ m. accounts m ∙ (λ i. cond (eq_by_cmp subaccount_cmp m (node_is i).order.id.who) (ends_without (rows.find subaccount_cmp (node_is i).order.id.who p.accounts.items) (node_is i).account) (rows.find subaccount_cmp m p.accounts.items))));
    expiries = subst (λ (j : ℕ). HasAllEnds expiry_cmp expiry_of (without_item j items) q.expiries.items) key_is
        (ends_less expiry_cmp expiry_total expiry_exact expiry_of items y.key y p.expiries.items q.expiries.items stands.distinct at_key stands.expiries
        (λ m. expiries m ∙ (λ i. cond (eq_by_cmp expiry_cmp m (expiry_of (node_is i).order)) (ends_without (rows.find expiry_cmp (expiry_of (node_is i).order) p.expiries.items) (node_is i).expiry) (rows.find expiry_cmp m p.expiries.items))));
    sorted = sorted;
  }
    where
      at_key : item_at y.key items ≡ Some y
      at_key = ap (λ m. item_at m items) key_is ∙ at
