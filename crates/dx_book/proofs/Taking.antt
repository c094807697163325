-- What is kept of the parts where the order of a held key is taken out.
use Rattle.std.proofs.Common.{◌≡◌, ℕ, ◌==◌, ◌≢◌, Bool, true, false, not, cond, T, Option, None, Some, List, [], ◌∷◌, filter, map, refl, sym, ap, ◌∙◌, subst}
use Rattle.std.specs.Prelude.{IsSome, IfSome, option_map}
use Rattle.std.specs.Ordering.{eq_by_cmp, nat_cmp}
use Rattle.std.specs.FinMap.Entries as rows
use Rattle.dx_types.specs.Keys.{order_id_cmp, order_id_total, subaccount_cmp}
use Rattle.dx_types.specs.declared.OrderId.{OrderId}
use Rattle.dx_types.specs.declared.SubaccountId.{SubaccountId}
use Rattle.dx_types.specs.declared.Order.{Order}
use Rattle.dx_spec.specs.Orders.{is_same_id}
use Rattle.dx_arena.specs.Nodes.{Nodes, node_at}
use Rattle.dx_arena.specs.declared.node.Node.{Node}
use Rattle.dx_book.specs.Chains.{ends_without}
use Rattle.dx_book.specs.Names.{level_cmp, expiry_cmp, level_of, expiry_of}
use Rattle.dx_book.specs.Linking.{linked_over, HasNeighbours}
use Rattle.dx_book.specs.Held.{Item, item_at, node_in}
use Rattle.dx_book.specs.Standing.{has, AreDistinct, Stands, AreSorted, IsBook, items_in}
use Rattle.dx_book.specs.declared.names.Level.{Level}
use Rattle.dx_book.specs.declared.names.Expiry.{Expiry}
use Rattle.dx_book.specs.declared.parts.Parts.{Parts}
use Rattle.dx_book.proofs.Named.{keys_of, without_item}
use Rattle.dx_book.proofs.Items.{items_are, stands_on}
use Rattle.dx_book.proofs.Removing.{node_is, has_neighbours, takes}

-- a held key is one of all
pub key_held : (items : List Item) (p : Parts) (k : ℕ) → Stands items p → IsSome (item_at k items) → has k p.arrivals.items ≡ true
key_held items p k s h = ap (has k) s.keys ∙ go items h
  where
    go : (xs : List Item) → IsSome (item_at k xs) → has k (keys_of xs) ≡ true
    go [] h = absurd (cc)
    go (x ∷ xs) h = here (x.key == k) h (go xs)
      where
        here : (b : Bool) → IsSome (cond b (Some x) (item_at k xs)) → (IsSome (item_at k xs) → has k (keys_of xs) ≡ true) → cond b true (has k (keys_of xs)) ≡ true
        here true h more = refl
        here false h more = more h

pub keys_distinct : (items : List Item) (p : Parts) → Stands items p → AreDistinct p.arrivals.items
keys_distinct items p s = subst AreDistinct (sym s.keys) s.distinct

pub neighbours_of : (items : List Item) (p : Parts) (k : ℕ) → Stands items p → IsSome (item_at k items) → IfSome (node_at p.arena k) (HasNeighbours p.arena k)
neighbours_of items p k stands h = go (item_at k items) refl h
  where
    go : (x : Option Item) → item_at k items ≡ x → IsSome x → IfSome (node_at p.arena k) (HasNeighbours p.arena k)
    go None e h = absurd (cc)
    go (Some y) e h =
        let node : node_at p.arena k ≡ Some (node_in items y) = stands.nodes k ∙ ap (option_map (node_in items)) e in
        subst (λ n. IfSome n (HasNeighbours p.arena k)) (sym node) (has_neighbours items p p k (node_in items y) y stands e node)

-- the node taken out has the order of the key
pub order_taken : (items : List Item) (p : Parts) (k : ℕ) (n : Node) → Stands items p → node_at p.arena k ≡ Some n → option_map (λ (x : Item). x.order) (item_at k items) ≡ Some n.order
order_taken items p k n stands node = go (item_at k items) (sym (stands.nodes k) ∙ node)
  where
    go : (x : Option Item) → option_map (node_in items) x ≡ Some n → option_map (λ (y : Item). y.order) x ≡ Some n.order
    go None e = absurd (cc)
    go (Some y) e = ap (option_map (λ (m : Node). m.order)) e

pub taken : (items : List Item) (p q : Parts) (k : ℕ) (n : Node) → Stands items p → IsSome (item_at k items) → node_at p.arena k ≡ Some n
    → node_at q.arena k ≡ None → ((j : ℕ) → j ≢ k → node_at q.arena j ≡ option_map (linked_over n j) (node_at p.arena j))
    → q.ids.items ≡ rows.where_key order_id_cmp (λ i. not (is_same_id n.order.id i)) p.ids.items
    → ((m : Level) → rows.find level_cmp m q.levels.items ≡ cond (eq_by_cmp level_cmp m (level_of n.order)) (ends_without (rows.find level_cmp (level_of n.order) p.levels.items) n.level) (rows.find level_cmp m p.levels.items))
    → ((m : SubaccountId) → rows.find subaccount_cmp m q.accounts.items ≡ cond (eq_by_cmp subaccount_cmp m n.order.id.who) (ends_without (rows.find subaccount_cmp n.order.id.who p.accounts.items) n.account) (rows.find subaccount_cmp m p.accounts.items))
    → ((m : Expiry) → rows.find expiry_cmp m q.expiries.items ≡ cond (eq_by_cmp expiry_cmp m (expiry_of n.order)) (ends_without (rows.find expiry_cmp (expiry_of n.order) p.expiries.items) n.expiry) (rows.find expiry_cmp m p.expiries.items))
    → q.arrivals.items ≡ filter (λ j. not (j == k)) p.arrivals.items
    → q.numbers.items ≡ rows.where_key nat_cmp (λ i. not (eq_by_cmp nat_cmp k i)) p.numbers.items
    → q.next ≡ p.next
    → T (rows.is_sorted level_cmp q.levels.items) → T (rows.is_sorted subaccount_cmp q.accounts.items) → T (rows.is_sorted expiry_cmp q.expiries.items)
    → Stands (without_item k items) q
taken items p q k n stands held node gone others ids levels accounts expiries arrivals numbers next s1 s2 s3 = go (item_at k items) refl held
  where
    go : (x : Option Item) → item_at k items ≡ x → IsSome x → Stands (without_item k items) q
    go None e h = absurd (cc)
    go (Some y) e h = takes items p q k n y stands e node gone others ids levels accounts expiries arrivals numbers next (record {
      ids = subst (λ l. T (rows.is_sorted order_id_cmp l)) (sym ids) (rows.is_sorted-where_key order_id_cmp _ p.ids.items stands.sorted.ids);
      levels = s1;
      accounts = s2;
      expiries = s3;
    })
