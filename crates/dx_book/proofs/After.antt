-- The next short-term order of an account, behind that of an id.
use Rattle.std.proofs.Common.{◌≡◌, ℕ, Bool, true, false, cond, Option, None, Some, List, [], ◌∷◌, map, refl, sym, ap, ◌∙◌, subst}
use Rattle.std.specs.Prelude.{IsSome, IfSome, option_map, find}
use Rattle.std.specs.FinMap.Entries as rows
use Rattle.dx_types.specs.Keys.{order_id_cmp}
use Rattle.dx_types.specs.declared.OrderId.{OrderId}
use Rattle.dx_types.specs.declared.Order.{Order}
use Rattle.dx_spec.specs.State.{is_short_term}
use Rattle.dx_spec.specs.Orders.{is_same_id}
use Rattle.dx_spec.proofs.Each.{neither}
use Rattle.dx_node_spec.specs.Book.{resting}
use Rattle.dx_spec.proofs.Same.{one_id}
use Rattle.dx_arena.specs.Nodes.{node_at}
use Rattle.dx_arena.specs.declared.node.Node.{Node}
use Rattle.dx_book.specs.Ways.{behind, has_id, is_short_term_of, after_of_account}
use Rattle.dx_book.specs.Held.{Item, item_at}
use Rattle.dx_book.specs.Walking.{of_who, from_key}
use Rattle.dx_book.specs.Standing.{Stands, item_of}
use Rattle.dx_book.specs.declared.parts.Parts.{Parts}
use Rattle.dx_book.proofs.Items.{all_at}
use Rattle.dx_book.proofs.Picked.{found_item}
use Rattle.dx_book.proofs.Accounts.{account_next, next_from}
use Rattle.dx_book.proofs.Looking.{id_none}

-- the order of an id under its key
record OfId (items : List Item) (id : OrderId) (k : ℕ) : Type 0 where
  item : Item
  at : item_at k items ≡ Some item
  same : item.order.id ≡ id

of_id : (items : List Item) (p : Parts) (id : OrderId) (k : ℕ) → Stands items p → Some k ≡ rows.find order_id_cmp id p.ids.items → OfId items id k
of_id items p id k s e = go (item_of id items) refl (e ∙ s.ids id)
  where
    go : (x : Option Item) → item_of id items ≡ x → Some k ≡ option_map (λ (y : Item). y.key) x → OfId items id k
    go None f g = absurd (cc)
    go (Some y) f g =
        let key : k ≡ y.key = cc in
        let there = found_item (λ x. is_same_id x.order.id id) items items y (all_at items s.distinct) f in
        record { item = y; at = ap (λ n. item_at n items) key ∙ there.0; same = one_id y.order.id id there.1 }

pub next_is : (items : List Item) (p : Parts) (id : OrderId) (k : ℕ) (n : Node) (r : Option OrderId) → Stands items p → Some k ≡ rows.find order_id_cmp id p.ids.items → node_at p.arena k ≡ Some n
    → r ≡ option_map (λ x. x.order.id) (find (λ x. is_short_term x.order.id) (from_key n.account.after (of_who id.who items))) → r ≡ after_of_account (map (λ x. x.order) items) id
next_is items p id k n r s e f g = let o = of_id items p id k s e in account_next id items p k o.item n r s o.at o.same f g

pub next_held : (items : List Item) (p : Parts) (id : OrderId) (k : ℕ) (n : Node) → Stands items p → Some k ≡ rows.find order_id_cmp id p.ids.items → node_at p.arena k ≡ Some n
    → IfSome n.account.after (λ j. IsSome (item_at j (of_who id.who items)))
next_held items p id k n s e f = let o = of_id items p id k s e in next_from id items p k o.item n s o.at o.same f

nothing_behind : (id : OrderId) (os : List Order) → resting os id ≡ None → behind (has_id id) os ≡ []
nothing_behind id [] e = refl
nothing_behind id (o ∷ os) e =
    let n = neither (is_same_id o.id id) o (resting os id) e in
    (λ i. cond (n.0 i) os (behind (has_id id) os)) ∙ nothing_behind id os n.1

pub none_is : (items : List Item) (p : Parts) (id : OrderId) → Stands items p → None ≡ rows.find order_id_cmp id p.ids.items → None ≡ after_of_account (map (λ (x : Item). x.order) items) id
unfolding after_of_account
none_is items p id s e =
    ap (λ l. option_map (λ (o : Order). o.id) (find (is_short_term_of id.who) l)) (sym (nothing_behind id (map (λ (x : Item). x.order) items) (id_none items p id s e)))
