-- Those of the parts that pass, one after another.
use Rattle.std.proofs.Common.{◌≡◌, ℕ, zero, suc, ◌+◌, ◌<◌, ◌≤◌, ◌==◌, Bool, true, false, not, Some, List, [], ◌∷◌, ◌++◌, filter, map, take, drop, length, get_or, refl, sym, ap, ◌∙◌, subst, arith}
use Rattle.std.specs.Prelude.{IsSome, slice_get}
use Rattle.std.proofs.lemmas.List.{drop_all}
use Rattle.dx_types.specs.declared.Order.{Order}
use Rattle.dx_arena.specs.Nodes.{node_at}
use Rattle.dx_arena.specs.declared.node.Node.{Node}
use Rattle.dx_book.specs.Held.{Item, item_at}
use Rattle.dx_book.specs.Standing.{Stands, IsBook, items_in}
use Rattle.dx_book.specs.declared.parts.Parts.{Parts}
use Rattle.dx_spec.proofs.Same.{own_id, one_id}
use Rattle.dx_types.specs.declared.OrderId.{OrderId}
use Rattle.dx_spec.specs.Orders.{is_same_id}
use Rattle.dx_book.proofs.Chained as chained
use Rattle.dx_book.proofs.Named.{key_of, keys_of, without_item}
use Rattle.dx_book.proofs.Looking.{Placed, at_number, node_there, node_order}
use Rattle.dx_book.proofs.Retained.{stays_there, goes_out, cut}

pub long_is : (items : List Item) (p : Parts) → Stands items p → length p.arrivals.items ≡ length items
long_is items p s = ap length s.keys ∙ go items
  where
    go : (xs : List Item) → length (keys_of xs) ≡ length xs
    go [] = refl
    go (x ∷ xs) = ap suc (go xs)

key_at_place : (items : List Item) (k : ℕ) (x : Item) → item_at k items ≡ Some x → x.key ≡ k
key_at_place items k x e = chained.key_at key_of (λ (b c : OrderId). is_same_id b c) (λ b c h. one_id b c h) (λ b. own_id b) (λ x. x.order.id) k items x e

pub held_here : (p : Parts) (i d : ℕ) → IsBook p → i < length p.arrivals.items → IsSome (item_at (get_or p.arrivals.items i d) (items_in p))
held_here p i d s w = let at = at_number (items_in p) p i d s w in subst IsSome (sym at.held) refl

-- one that passes
pub stays_on : (test : Order → Bool) (p : Parts) (i d : ℕ) (n : Node) (b : Bool) (whole : List Item) → IsBook p → i < length p.arrivals.items → node_at p.arena (get_or p.arrivals.items i d) ≡ Some n → b ≡ test n.order → b ≡ true
    → take i (items_in p) ++ filter (λ x. test x.order) (drop i (items_in p)) ≡ whole → take (i + 1) (items_in p) ++ filter (λ x. test x.order) (drop (i + 1) (items_in p)) ≡ whole
stays_on test p i d n b whole s w f g t made =
    let at = at_number (items_in p) p i d s w in
    stays_there (λ x. test x.order) (items_in p) i at.item whole at.at
    (ap test (sym (node_order (items_in p) p (get_or p.arrivals.items i d) at.item n s at.held f)) ∙ sym g ∙ t) made

-- one that does not
pub goes_on : (test : Order → Bool) (p : Parts) (i d : ℕ) (n : Node) (b : Bool) (whole after : List Item) → IsBook p → i < length p.arrivals.items → node_at p.arena (get_or p.arrivals.items i d) ≡ Some n → b ≡ test n.order → b ≡ false
    → after ≡ without_item (get_or p.arrivals.items i d) (items_in p)
    → take i (items_in p) ++ filter (λ x. test x.order) (drop i (items_in p)) ≡ whole → take i after ++ filter (λ x. test x.order) (drop i after) ≡ whole
goes_on test p i d n b whole after s w f g t e made =
    let at = at_number (items_in p) p i d s w in
    let key : at.item.key ≡ get_or p.arrivals.items i d = key_at_place (items_in p) (get_or p.arrivals.items i d) at.item at.held in
    ap (λ l. take i l ++ filter (λ x. test x.order) (drop i l)) (e ∙ ap (λ k. without_item k (items_in p)) (sym key))
    ∙ goes_out (λ x. test x.order) (items_in p) i at.item whole s.distinct at.at
    (ap test (sym (node_order (items_in p) p (get_or p.arrivals.items i d) at.item n s at.held f)) ∙ sym g ∙ t) made

pub goes_count : (p q : Parts) (i d : ℕ) → IsBook p → IsBook q → i < length p.arrivals.items → items_in q ≡ without_item (get_or p.arrivals.items i d) (items_in p) → length q.arrivals.items + 1 ≡ length p.arrivals.items
goes_count p q i d s t w e =
    let at = at_number (items_in p) p i d s w in
    let key : at.item.key ≡ get_or p.arrivals.items i d = key_at_place (items_in p) (get_or p.arrivals.items i d) at.item at.held in
    let c = cut (items_in p) i at.item s.distinct at.at in
    let shorter : suc (length (items_in q)) ≡ length (items_in p) = ap (λ l. suc (length l)) (e ∙ ap (λ k. without_item k (items_in p)) (sym key)) ∙ c.shorter in
    let a = long_is (items_in p) p s in
    let b = long_is (items_in q) q t in
    omega (arith, shorter, a, b)

-- the walk is over
pub all_done : (test : Item → Bool) (p : Parts) (i : ℕ) (whole : List Item) → IsBook p → length p.arrivals.items ≤ i → take i (items_in p) ++ filter test (drop i (items_in p)) ≡ whole → items_in p ≡ whole
all_done test p i whole s w made =
    let a = long_is (items_in p) p s in
    let over : length (items_in p) ≤ i = omega (arith, a, w) in
    sym (ap (λ l. take i (items_in p) ++ filter test l) (drop_all i (items_in p) over) ∙ nil (take i (items_in p)) ∙ full i (items_in p) over) ∙ made
  where
    nil : (xs : List Item) → xs ++ [] ≡ xs
    nil [] = refl
    nil (x ∷ xs) = ap (λ l. x ∷ l) (nil xs)

    full : (n : ℕ) (xs : List Item) → length xs ≤ n → take n xs ≡ xs
    full zero [] h = refl
    full zero (x ∷ xs) h = absurd (omega arith)
    full (suc n) [] h = refl
    full (suc n) (x ∷ xs) h = ap (λ l. x ∷ l) (full n xs (omega arith))
