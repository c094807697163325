-- From one order of a side to the next: what the walks of other crates over a book need.
use Prim.Native.Nat.{zero}
use Rattle.std.proofs.Common.{◌≡◌, ℕ, suc, ◌+◌, ◌≤◌, Bool, true, false, ◌==◌, cond, Option, None, Some, List, [], ◌∷◌, filter, drop, length, refl, sym, ap, ◌∙◌, subst, arith}
use Rattle.std.specs.Prelude.{find, slice_get, option_map, IfSome}
use Rattle.std.specs.List.{AllByRecursion}
use Rattle.std.proofs.lemmas.Bool.{and_parts, eqb-true}
use Rattle.std.proofs.lemmas.List.{drop_all}
use Rattle.dx_types.specs.declared.Order.{Order}
use Rattle.dx_spec.specs.Lists.{put_by, sorted_by}
use Rattle.dx_spec.specs.Orders.{is_same_id, is_same_side}
use Rattle.dx_node_spec.specs.Book.{is_better, is_on_side, side_of, best, HasOnePerId}
use Rattle.dx_book.specs.Ways.{behind, has_id, next_of}
use Rattle.dx_book.specs.Held.{Held, Item, item_at, joined, named, order_at}
use Rattle.dx_book.specs.declared.key.OrderKey.{OrderKey}
use Rattle.dx_spec.proofs.Each.{all_pass, all_sorted, all_fail}
use Rattle.dx_spec.proofs.Same.{own_id, swapped_ids}
use Rattle.dx_node_spec.proofs.Ids.{one_per_id-filter, one_per_id-sorted}
use Rattle.dx_book.proofs.Sides.{same_side}

-- what holds of each holds of the one at a place
pub each_at : {X : Type 0} (P : X → Type 0) (xs : List X) (k : ℕ) (x : X) → AllByRecursion P xs → slice_get xs k ≡ Some x → P x
each_at P [] k x h e = absurd (cc)
each_at P (y ∷ ys) zero x h e = let same : y ≡ x = cc in subst P same h.0
each_at P (y ∷ ys) (suc k) x h e = each_at P ys k x h.1 e

-- and of the one that is found
pub each_found : {X : Type 0} (P : X → Type 0) (test : X → Bool) (xs : List X) (x : X) → ((n : ℕ) (y : X) → slice_get xs n ≡ Some y → P y) → find test xs ≡ Some x → P x
each_found P test [] x h e = absurd (cc)
each_found P test (y ∷ ys) x h e = go (test y) e (each_found P test ys x (λ n z i. h (suc n) z i))
  where
    go : (b : Bool) → cond b (Some y) (find test ys) ≡ Some x → (find test ys ≡ Some x → P x) → P x
    go true e more = let same : y ≡ x = cc in subst P same (h zero y refl)
    go false e more = more e

-- the list from a place on
pub from_place : {X : Type 0} (xs : List X) (k : ℕ) (x : X) → slice_get xs k ≡ Some x → drop k xs ≡ x ∷ drop (suc k) xs
from_place [] k x e = absurd (cc)
from_place (y ∷ ys) zero x e = let same : y ≡ x = cc in ap (λ z. z ∷ ys) same
from_place (y ∷ ys) (suc k) x e = from_place ys k x e

-- its first
pub first_behind : {X : Type 0} (xs : List X) (k : ℕ) → slice_get (drop k xs) zero ≡ slice_get xs k
first_behind xs zero = refl
first_behind [] (suc k) = refl
first_behind (x ∷ xs) (suc k) = first_behind xs k

-- behind the last there is nothing
pub none_behind : {X : Type 0} (xs : List X) (k : ℕ) → None ≡ slice_get xs k → drop k xs ≡ []
none_behind [] zero e = refl
none_behind [] (suc k) e = refl
none_behind (x ∷ xs) zero e = absurd (cc)
none_behind (x ∷ xs) (suc k) e = none_behind xs k e

-- a sorted list is as long as before
length_put : {X : Type 0} (lt : X → X → Bool) (x : X) (ys : List X) → length (put_by lt x ys) ≡ length (x ∷ ys)
length_put lt x [] = refl
length_put lt x (y ∷ ys) = go (lt y x) (length_put lt x ys)
  where
    go : (b : Bool) → length (put_by lt x ys) ≡ length (x ∷ ys) → length (cond b (y ∷ put_by lt x ys) (x ∷ y ∷ ys)) ≡ length (x ∷ y ∷ ys)
    go true e = ap suc e
    go false e = refl

pub length_sorted : {X : Type 0} (lt : X → X → Bool) (xs : List X) → length (sorted_by lt xs) ≡ length xs
length_sorted lt [] = refl
length_sorted lt (x ∷ xs) = length_put lt x (sorted_by lt xs) ∙ ap suc (length_sorted lt xs)

-- and a filtered one no longer
pub filter_shorter : {X : Type 0} (test : X → Bool) (xs : List X) → length (filter test xs) ≤ length xs
filter_shorter test [] = omega arith
filter_shorter test (x ∷ xs) = go (test x) (filter_shorter test xs)
  where
    go : (b : Bool) → length (filter test xs) ≤ length xs → length (cond b (x ∷ filter test xs) (filter test xs)) ≤ length (x ∷ xs)
    go true h = omega arith
    go false h = omega arith

-- the first of a side is its best
pub best_is : (book : List Order) (market : ℕ) (buy : Bool) → best book market buy ≡ slice_get (side_of book market buy) 0
unfolding best
best_is book market buy = refl

-- a side is at most as long as the book
pub side_shorter : (book : List Order) (market : ℕ) (buy : Bool) → length (side_of book market buy) ≤ length book
side_shorter book market buy =
    let whole : length (side_of book market buy) ≡ length (filter (is_on_side market buy) book) = length_sorted is_better _ in
    let fewer : length (filter (is_on_side market buy) book) ≤ length book = filter_shorter (is_on_side market buy) book in
    subst (λ n. n ≤ length book) (sym whole) fewer

pub side_done : (book : List Order) (market : ℕ) (buy : Bool) (k : ℕ) → length book ≤ k → drop k (side_of book market buy) ≡ []
side_done book market buy k h =
    let shorter = side_shorter book market buy in
    drop_all k (side_of book market buy) (omega (arith, shorter, h))

-- what stands behind the id of the order at a place
pub behind_place : (xs : List Order) (k : ℕ) (m : Order) → HasOnePerId xs → slice_get xs k ≡ Some m → behind (has_id m.id) xs ≡ drop (suc k) xs
behind_place [] k m h e = absurd (cc)
behind_place (x ∷ xs) zero m h e =
    let same : x ≡ m = cc in
    let own : is_same_id x.id m.id ≡ true = ap (λ (z : Order). is_same_id z.id m.id) same ∙ own_id m.id in
    ap (λ b. cond b xs (behind (has_id m.id) xs)) own
behind_place (x ∷ xs) (suc k) m h e =
    let apart : is_same_id x.id m.id ≡ false = swapped_ids x.id m.id ∙ each_at (λ o. is_same_id o.id x.id ≡ false) xs k m (all_fail (λ o. is_same_id o.id x.id) xs h.0) e in
    ap (λ b. cond b xs (behind (has_id m.id) xs)) apart ∙ behind_place xs k m h.1 e

-- the order behind another of a side
pub next_place : (book : List Order) (market : ℕ) (buy : Bool) (m : Order) (k : ℕ) → HasOnePerId book → slice_get (side_of book market buy) k ≡ Some m
    → next_of book m ≡ slice_get (side_of book market buy) (suc k)
unfolding next_of
next_place book market buy m k h e =
    let on : is_on_side market buy m ≡ true =
    each_at (λ p. is_on_side market buy p ≡ true) (side_of book market buy) k m (all_sorted _ is_better _ (all_pass (is_on_side market buy) book)) e in
    let side : m.buy ≡ buy = same_side (m.id.market == market) buy m.buy on in
    let traded : m.id.market ≡ market = eqb-true m.id.market market (and_parts (m.id.market == market) (is_same_side buy m.buy) on).0 in
    let unique = one_per_id-sorted is_better _ (one_per_id-filter (is_on_side market buy) book h) in
    ap (λ n. slice_get (behind (has_id m.id) (side_of book n m.buy)) 0) traded
    ∙ ap (λ b. slice_get (behind (has_id m.id) (side_of book market b)) 0) side
    ∙ ap (λ l. slice_get l 0) (behind_place (side_of book market buy) k m unique e)
    ∙ first_behind (side_of book market buy) (suc k)

-- the key behind that of an order of a side
pub next_at : (b : Held) (market : ℕ) (buy : Bool) (m : Order) (k : ℕ) (key : OrderKey) (r : Option OrderKey) → HasOnePerId b.orders
    → slice_get (side_of b.orders market buy) k ≡ Some m → named b key ≡ Some m
    → IfSome (named b key) (λ p. order_at b r ≡ next_of b.orders p) → order_at b r ≡ slice_get (side_of b.orders market buy) (k + 1)
next_at b market buy m k key r h e n f =
    let here : IfSome (Some m) (λ p. order_at b r ≡ next_of b.orders p) = subst (λ x. IfSome x (λ p. order_at b r ≡ next_of b.orders p)) n f in
    let one_on : suc k ≡ k + 1 = omega arith in
    here ∙ next_place b.orders market buy m k h e ∙ ap (slice_get (side_of b.orders market buy)) one_on

-- what holds of each order holds of the one that a key names
pub each_named : (P : Order → Type 0) (b : Held) (key : OrderKey) (o : Order) → ((n : ℕ) (y : Order) → slice_get b.orders n ≡ Some y → P y) → named b key ≡ Some o → P o
unfolding named
each_named P b key o h e = go b.keys b.orders h e
  where
    go : (ks : List ℕ) (os : List Order) → ((n : ℕ) (y : Order) → slice_get os n ≡ Some y → P y) → option_map (λ (x : Item). x.order) (item_at key.node (joined ks os)) ≡ Some o → P o
    go [] os h e = absurd (cc)
    go (k ∷ ks) [] h e = absurd (cc)
    go (k ∷ ks) (y ∷ ys) h e = one (k == key.node) e (λ f. go ks ys (λ n z i. h (suc n) z i) f)
      where
        one : (b : Bool) → option_map (λ (x : Item). x.order) (cond b (Some (record { key = k; order = y })) (item_at key.node (joined ks ys))) ≡ Some o
            → (option_map (λ (x : Item). x.order) (item_at key.node (joined ks ys)) ≡ Some o → P o) → P o
        one true e more = let same : y ≡ o = cc in subst P same (h zero y refl)
        one false e more = more e
