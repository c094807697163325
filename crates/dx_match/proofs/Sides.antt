-- The side of a book that an order looks at: from one maker to the next, and where no more cross.
use Rattle.std.proofs.Common.{◌≡◌, ℕ, suc, ◌+◌, ◌≤◌, Bool, true, false, not, cond, Option, None, Some, List, [], filter, drop, length, refl, sym, ap, ◌∙◌, subst, arith, nat_lt, nat_le}
use Rattle.std.specs.Prelude.{slice_get, IfSome}
use Rattle.std.specs.List.{AllByRecursion}
use Rattle.std.proofs.lemmas.Bool.Decides.{nat_tests}
use Rattle.dx_types.specs.declared.OrderId.{OrderId}
use Rattle.dx_types.specs.declared.Order.{Order}
use Rattle.dx_spec.specs.Lists.{sorted_by}
use Rattle.dx_spec.specs.Orders.{is_same_id, crosses}
use Rattle.dx_node_spec.specs.Book.{is_on_side, side_of, best, makers_of, without, HasOnePerId}
use Rattle.dx_book.specs.Picks.{before}
use Rattle.dx_book.specs.Ways.{next_of}
use Rattle.dx_book.specs.Held.{Held, named, order_at}
use Rattle.dx_book.specs.declared.key.OrderKey.{OrderKey}
use Rattle.dx_spec.specs.State.{State}
use Rattle.dx_trade.specs.Conditions.{IsTradable}
use Rattle.dx_match.specs.Conditions.{IsBookFor}
use Rattle.dx_match.specs.Stages.{opposite, takable}
use Rattle.dx_match.proofs.Each.{none_pass, filter_swap}
use Rattle.dx_match.proofs.Sorted.{sorted_in_order, none_behind, filter_sorted}
use Rattle.dx_match.proofs.Standing.{side_tradable, side_unique}
use Rattle.dx_spec.proofs.Each.{all_weaker, all_filter}
use Rattle.dx_book.proofs.Sides.{before_order, side_same}
use Rattle.dx_book.proofs.Walks.{from_place, none_behind as nothing_behind, side_done as walked_through, next_at as next_on_side}

-- a side without an id is the side of the book without it
side_without : (xs : List Order) (market : ℕ) (buy : Bool) (id : OrderId) → side_of (without xs id) market buy ≡ without (side_of xs market buy) id
side_without xs market buy id =
    side_same (without xs id) market buy
    ∙ ap (sorted_by (before buy)) (filter_swap (is_on_side market buy) (λ o. not (is_same_id o.id id)) xs)
    ∙ sym (filter_sorted (before buy) (before_order buy) (λ o. not (is_same_id o.id id)) (filter (is_on_side market buy) xs))
    ∙ ap (filter (λ o. not (is_same_id o.id id))) (sym (side_same xs market buy))

-- the makers are the ones that the order crosses on the whole side
pub makers_are : (book : List Order) (o : Order) → makers_of book o ≡ takable o (opposite book o)
unfolding makers_of opposite takable
makers_are book o = ap (filter (crosses o)) (side_without book o.id.market (not o.buy) o.id)

-- the first of the side is its best
pub best_is : (book : List Order) (o : Order) → best book o.id.market (not o.buy) ≡ slice_get (opposite book o) 0
unfolding best opposite
best_is book o = refl

-- behind the whole book there is nothing to take
pub side_done : (book : List Order) (o : Order) (k : ℕ) → length book ≤ k → takable o (drop k (opposite book o)) ≡ []
unfolding takable opposite
side_done book o k h = ap (λ l. filter (crosses o) (without l o.id)) (walked_through book o.id.market (not o.buy) k h)

-- the key behind that of a maker
pub next_at : (b : Held) (o m : Order) (k : ℕ) (key : OrderKey) (r : Option OrderKey) → HasOnePerId b.orders → slice_get (opposite b.orders o) k ≡ Some m → named b key ≡ Some m
    → IfSome (named b key) (λ p. order_at b r ≡ next_of b.orders p) → order_at b r ≡ slice_get (opposite b.orders o) (k + 1)
unfolding opposite
next_at b o m k key r h e n f = next_on_side b o.id.market (not o.buy) m k key r h e n f

not_reached : (buy : Bool) (taker other maker : ℕ) → cond (not buy) (nat_lt maker other) (nat_lt other maker) ≡ false
    → cond buy (nat_le maker taker) (nat_le taker maker) ≡ false → cond buy (nat_le other taker) (nat_le taker other) ≡ false
not_reached true taker other maker e f = grind (arith, nat_tests)
not_reached false taker other maker e f = grind (arith, nat_tests)

not_crossed : (o z m : Order) → before (not o.buy) z m ≡ false → crosses o m ≡ false → crosses o z ≡ false
unfolding crosses
not_crossed o z m e f = not_reached o.buy o.subticks z.subticks m.subticks e f

-- from the first that the order does not cross on there is nothing to take
pub none_crosses : (book : List Order) (o m : Order) (k : ℕ) → slice_get (opposite book o) k ≡ Some m → crosses o m ≡ false → takable o (drop k (opposite book o)) ≡ []
unfolding opposite takable
none_crosses book o m k e f =
    let side = side_of book o.id.market (not o.buy) in
    let lt = before (not o.buy) in
    let sorted = sorted_by lt (filter (is_on_side o.id.market (not o.buy)) book) in
    let same : side ≡ sorted = side_same book o.id.market (not o.buy) in
    let at : slice_get sorted k ≡ Some m = ap (λ l. slice_get l k) (sym same) ∙ e in
    let weaker : AllByRecursion (λ z. crosses o z ≡ false) (drop (suc k) sorted) =
    all_weaker (λ z. lt z m ≡ false) (λ z. crosses o z ≡ false) (λ z i. not_crossed o z m i f) (drop (suc k) sorted)
    (none_behind lt (before_order (not o.buy)) sorted k m (sorted_in_order lt (before_order (not o.buy)) (filter (is_on_side o.id.market (not o.buy)) book)) at) in
    let from : AllByRecursion (λ z. crosses o z ≡ false) (drop k sorted) = subst (AllByRecursion (λ z. crosses o z ≡ false)) (sym (from_place sorted k m at)) (f, weaker) in
    ap (λ l. filter (crosses o) (without (drop k l) o.id)) same
    ∙ none_pass (crosses o) (without (drop k sorted) o.id) (all_filter _ (λ p. not (is_same_id p.id o.id)) (drop k sorted) from)

-- behind the last there is nothing to take
pub none_left : (book : List Order) (o : Order) (k : ℕ) → None ≡ slice_get (opposite book o) k → takable o (drop k (opposite book o)) ≡ []
unfolding takable
none_left book o k e = ap (λ l. filter (crosses o) (without l o.id)) (nothing_behind (opposite book o) k e)

-- each of the side may be traded, and no two have one id
pub opposite_tradable : (s : State) (book : List Order) (o : Order) → IsBookFor s book → AllByRecursion (IsTradable s) (opposite book o)
unfolding opposite
opposite_tradable s book o h = side_tradable s book o.id.market (not o.buy) h

pub opposite_unique : {s : State} (book : List Order) (o : Order) → IsBookFor s book → HasOnePerId (opposite book o)
unfolding opposite
opposite_unique book o h = side_unique book o.id.market (not o.buy) h.one_per_id
