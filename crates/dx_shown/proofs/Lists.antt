-- When a book follows another one: those that stay are those of a filter, and at most one order stands behind them.
use Rattle.std.proofs.Common.{◌≡◌, Bool, true, false, cond, not, ◌&&◌, Option, None, Some, List, [], ◌∷◌, ◌++◌, filter, refl, sym, ap, subst, ◌∙◌}
use Rattle.std.specs.Option.{option_map_or, option_map, option_or}
use Rattle.std.specs.List.{AllByRecursion}
use Rattle.std.proofs.lemmas.List.{append-nil}
use Rattle.std.proofs.lemmas.List.Elements.{filter-append}
use Rattle.std.proofs.lemmas.List.Folds.{find-append}
use Rattle.dx_types.specs.declared.OrderId.{OrderId}
use Rattle.dx_types.specs.declared.Order.{Order}
use Rattle.dx_spec.specs.State.{State}
use Rattle.dx_spec.specs.Orders.{is_same_id, is_same_order}
use Rattle.dx_spec.proofs.Each.{all_weaker, all_both, all_fail, all_filter}
use Rattle.dx_node_spec.specs.Book.{resting, HasOnePerId}
use Rattle.dx_spec.proofs.Same.{own_id, own_order, one_id, swapped_ids, one_order}
use Rattle.dx_node_spec.proofs.Ids.{all_resting, resting-filter}
use Rattle.dx_types.specs.declared.Shown.{Shown}
use Rattle.dx_feed.specs.Lists.{shown_of, NamesOnce, holds, orders, still_held, new_ones, KeepsOrder}
use Rattle.dx_node_spec.specs.Reads.{shown_in, book_in}

-- the book has the order as it is
abbrev pub has : List Order → Order → Bool
has book o = option_map_or (λ x. is_same_order x o) (resting book o.id) false

-- filters that test each element alike
filter_same : {X : Type 0} (p q : X → Bool) (xs : List X) → AllByRecursion (λ x. p x ≡ q x) xs → filter p xs ≡ filter q xs
filter_same p q [] h = refl
filter_same p q (x ∷ xs) h = λ i. cond (h.0 i) (x ∷ filter_same p q xs h.1 i) (filter_same p q xs h.1 i)

-- a filter that keeps none
filter_none : {X : Type 0} (p : X → Bool) (xs : List X) → AllByRecursion (λ x. p x ≡ false) xs → filter p xs ≡ []
filter_none p [] h = refl
filter_none p (x ∷ xs) h = rw h.0 (filter_none p xs h.1)

-- one filter in place of two
filter_twice : {X : Type 0} (p q : X → Bool) (xs : List X) → filter p (filter q xs) ≡ filter (λ x. q x && p x) xs
filter_twice p q [] = refl
filter_twice p q (x ∷ xs) = go (q x) (filter_twice p q xs)
  where
    go : (b : Bool) → filter p (filter q xs) ≡ filter (λ x. q x && p x) xs
        → filter p (cond b (x ∷ filter q xs) (filter q xs)) ≡ cond (b && p x) (x ∷ filter (λ x. q x && p x) xs) (filter (λ x. q x && p x) xs)
    go true e = ap (λ l. cond (p x) (x ∷ l) l) e
    go false e = e

-- the orders of a shown book are the book
orders_in : (s : State) (book : List Order) → orders (book_in s book) ≡ book
orders_in s [] = refl
orders_in s (o ∷ book) = ap (λ l. o ∷ l) (orders_in s book)

-- what it shows of an id is the resting order
shown_resting : (s : State) (book : List Order) (id : OrderId) → shown_of (book_in s book) id ≡ option_map (shown_in s) (resting book id)
shown_resting s [] id = refl
shown_resting s (o ∷ book) id = go (is_same_id o.id id) (shown_resting s book id)
  where
    go : (b : Bool) → shown_of (book_in s book) id ≡ option_map (shown_in s) (resting book id)
        → cond b (Some (shown_in s o)) (shown_of (book_in s book) id) ≡ option_map (shown_in s) (cond b (Some o) (resting book id))
    go true e = refl
    go false e = e

holds_is : (s : State) (book : List Order) (o : Order) → holds (book_in s book) o ≡ has book o
holds_is s book o = ap (λ r. option_map_or (λ (x : Shown). is_same_order x.order o) r false) (shown_resting s book o.id) ∙ go (resting book o.id)
  where
    go : (r : Option Order) → option_map_or (λ (x : Shown). is_same_order x.order o) (option_map (shown_in s) r) false ≡ option_map_or (λ x. is_same_order x o) r false
    go None = refl
    go (Some x) = refl

-- the orders of a filtered shown book
orders_filter : (s : State) (test : Order → Bool) (book : List Order) → orders (filter (λ x. test x.order) (book_in s book)) ≡ filter test book
orders_filter s test [] = refl
orders_filter s test (o ∷ book) = go (test o) (orders_filter s test book)
  where
    go : (b : Bool) → orders (filter (λ x. test x.order) (book_in s book)) ≡ filter test book
        → orders (cond b (shown_in s o ∷ filter (λ x. test x.order) (book_in s book)) (filter (λ x. test x.order) (book_in s book))) ≡ cond b (o ∷ filter test book) (filter test book)
    go true e = ap (λ l. o ∷ l) e
    go false e = e

each : {X : Type 0} (P : X → Type 0) → ((x : X) → P x) → (xs : List X) → AllByRecursion P xs
each P f [] = tt
each P f (x ∷ xs) = (f x, each P f xs)

-- so the orders of shown books keep their order where those of the books do
keeps_order : (s t : State) (old now : List Order) → now ≡ filter (has now) old ++ filter (λ o. not (has old o)) now → KeepsOrder (book_in s old) (book_in t now)
keeps_order s t old now e =
    let first : orders (still_held (book_in s old) (book_in t now)) ≡ filter (has now) old =
    orders_filter s (λ o. holds (book_in t now) o) old ∙ filter_same (λ o. holds (book_in t now) o) (has now) old (each _ (λ o. holds_is t now o) old) in
    let second : orders (new_ones (book_in s old) (book_in t now)) ≡ filter (λ o. not (has old o)) now =
    orders_filter t (λ o. not (holds (book_in s old) o)) now
    ∙ filter_same (λ o. not (holds (book_in s old) o)) (λ o. not (has old o)) now (each _ (λ o. ap not (holds_is s old o)) now) in
    orders_in t now ∙ e ∙ (λ i. sym first i ++ sym second i)

-- no id is named twice where there is one order per id
pub once_in : (s : State) (book : List Order) → HasOnePerId book → NamesOnce (book_in s book)
once_in s [] h = tt
once_in s (o ∷ book) h = (shown_resting s book o.id ∙ ap (option_map (shown_in s)) h.0, once_in s book h.1)

-- the resting order of each id is behind a filter the one that it was, or none
filtered_resting : (test : Order → Bool) (book : List Order) → HasOnePerId book → AllByRecursion (λ x. resting (filter test book) x.id ≡ cond (test x) (Some x) None) book
filtered_resting test [] h = tt
filtered_resting test (x ∷ xs) h = (
  first (test x) (resting-filter test xs x.id h.0),
  more xs (all_fail (λ o. is_same_id o.id x.id) xs h.0) (filtered_resting test xs h.1),
)
  where
    first : (b : Bool) → resting (filter test xs) x.id ≡ None → resting (cond b (x ∷ filter test xs) (filter test xs)) x.id ≡ cond b (Some x) None
    first true e = rw (own_id x.id) refl
    first false e = e

    behind : (b : Bool) (id : OrderId) → is_same_id x.id id ≡ false → resting (cond b (x ∷ filter test xs) (filter test xs)) id ≡ resting (filter test xs) id
    behind true id e = rw e refl
    behind false id e = refl

    more : (ys : List Order) → AllByRecursion (λ o. is_same_id o.id x.id ≡ false) ys → AllByRecursion (λ y. resting (filter test xs) y.id ≡ cond (test y) (Some y) None) ys
        → AllByRecursion (λ y. resting (cond (test x) (x ∷ filter test xs) (filter test xs)) y.id ≡ cond (test y) (Some y) None) ys
    more [] a b = tt
    more (y ∷ ys) a b = (behind (test x) y.id (swapped_ids x.id y.id ∙ a.0) ∙ b.0, more ys a.1 b.1)

-- a book has its own orders as they are
all_had : (book : List Order) → HasOnePerId book → AllByRecursion (λ x. has book x ≡ true) book
all_had book h = all_weaker (λ x. resting book x.id ≡ Some x) (λ x. has book x ≡ true) (λ x e. ap (λ r. option_map_or (λ y. is_same_order y x) r false) e ∙ own_order x) book (all_resting book h)

-- the book is a filter of the one before
pub record IsFiltered (old now : List Order) : Type 0 where
  pub test : Order → Bool
  pub is : filter test old ≡ now

pub filtered_itself : (book : List Order) → IsFiltered book book
filtered_itself book = record { test = λ o. true; is = all book }
  where
    all : (xs : List Order) → filter (λ o. true) xs ≡ xs
    all [] = refl
    all (x ∷ xs) = ap (λ l. x ∷ l) (all xs)

pub filtered_more : (test : Order → Bool) (old mid : List Order) → IsFiltered old mid → IsFiltered old (filter test mid)
filtered_more test old mid h = record { test = λ o. h.test o && test o; is = sym (filter_twice test h.test old) ∙ ap (filter test) h.is }

filtered_keeps : (s t : State) (old : List Order) (test : Order → Bool) → HasOnePerId old → KeepsOrder (book_in s old) (book_in t (filter test old))
filtered_keeps s t old test h =
    let now = filter test old in
    let same : AllByRecursion (λ x. has now x ≡ test x) old =
    all_weaker (λ x. resting now x.id ≡ cond (test x) (Some x) None) (λ x. has now x ≡ test x) (λ x e. ap (λ r. option_map_or (λ y. is_same_order y x) r false) e ∙ own x (test x)) old (filtered_resting test old h) in
    let none : AllByRecursion (λ x. not (has old x) ≡ false) now =
    all_weaker (λ x. has old x ≡ true) (λ x. not (has old x) ≡ false) (λ x e. ap not e) now (all_filter _ test old (all_had old h)) in
    keeps_order s t old now
    (sym (append-nil now) ∙ (λ i. sym (filter_same (has now) test old same) i ++ sym (filter_none (λ o. not (has old o)) now none) i))
  where
    own : (x : Order) (b : Bool) → option_map_or (λ y. is_same_order y x) (cond b (Some x) None) false ≡ b
    own x true = own_order x
    own x false = refl

-- a filter of the book keeps its order
pub filtered_keeps_order : (s t : State) (old now : List Order) → HasOnePerId old → IsFiltered old now → KeepsOrder (book_in s old) (book_in t now)
filtered_keeps_order s t old now h f = subst (λ l. KeepsOrder (book_in s old) (book_in t l)) f.is (filtered_keeps s t old f.test h)

-- an order with one more behind the others
resting_last : (xs : List Order) (o : Order) (id : OrderId) → resting (xs ++ o ∷ []) id ≡ option_or (resting xs id) (cond (is_same_id o.id id) (Some o) None)
resting_last xs o id = find-append (λ x. is_same_id x.id id) xs (o ∷ [])

-- tested the other way round it is no other order
not_same : (x o : Order) → is_same_order x o ≡ false → is_same_order o x ≡ false
not_same x o e = go (is_same_order o x) refl
  where
    go : (b : Bool) → is_same_order o x ≡ b → is_same_order o x ≡ false
    go true f =
        let one : o ≡ x = one_order o x f in
        let own : is_same_order x o ≡ true = ap (is_same_order x) one ∙ own_order x in
        absurd (let i : false ≡ true = sym e ∙ own in cc)
    go false f = f

-- and with an order behind the filter, whose id is not in it, and which the book before did not have as it is
one_more_keeps : (s t : State) (old : List Order) (o : Order) (test : Order → Bool) → HasOnePerId old → AllByRecursion (λ x. is_same_id x.id o.id ≡ false) (filter test old) → has old o ≡ false
    → KeepsOrder (book_in s old) (book_in t (filter test old ++ o ∷ []))
one_more_keeps s t old o test h apart other =
    let kept = filter test old in
    let now = kept ++ o ∷ [] in
    let both = all_both (λ x. resting kept x.id ≡ cond (test x) (Some x) None) (λ x. resting old x.id ≡ Some x) old (filtered_resting test old h) (all_resting old h) in
    let same : AllByRecursion (λ x. has now x ≡ test x) old =
    all_weaker _ (λ x. has now x ≡ test x) (λ x e. own x (test x) e.0 e.1) old both in
    let none : AllByRecursion (λ x. not (has old x) ≡ false) kept =
    all_weaker (λ x. has old x ≡ true) (λ x. not (has old x) ≡ false) (λ x e. ap not e) kept (all_filter _ test old (all_had old h)) in
    let last : filter (λ x. not (has old x)) (o ∷ []) ≡ o ∷ [] = ap (λ b. cond (not b) (o ∷ []) []) other in
    let new : filter (λ x. not (has old x)) now ≡ o ∷ [] =
    filter-append (λ x. not (has old x)) kept (o ∷ []) ∙ (λ i. filter_none (λ x. not (has old x)) kept none i ++ last i) in
    keeps_order s t old now (λ i. sym (filter_same (has now) test old same) i ++ sym new i)
  where
    behind : (x : Order) → resting old x.id ≡ Some x → (b : Bool) → is_same_id o.id x.id ≡ b
        → option_map_or (λ y. is_same_order y x) (cond b (Some o) None) false ≡ false
    behind x f true e =
        let one : o.id ≡ x.id = one_id o.id x.id e in
        let had : is_same_order x o ≡ false = sym (ap (λ r. option_map_or (λ y. is_same_order y o) r false) (ap (resting old) one ∙ f)) ∙ other in
        not_same x o had
    behind x f false e = refl

    found : (x : Order) → resting old x.id ≡ Some x → (b : Bool)
        → option_map_or (λ y. is_same_order y x) (option_or (cond b (Some x) None) (cond (is_same_id o.id x.id) (Some o) None)) false ≡ b
    found x f true = own_order x
    found x f false = behind x f (is_same_id o.id x.id) refl

    own : (x : Order) (b : Bool) → resting (filter test old) x.id ≡ cond b (Some x) None → resting old x.id ≡ Some x
        → has (filter test old ++ o ∷ []) x ≡ b
    own x b e f =
        ap (λ r. option_map_or (λ y. is_same_order y x) r false)
        (resting_last (filter test old) o x.id ∙ ap (λ r. option_or r (cond (is_same_id o.id x.id) (Some o) None)) e)
        ∙ found x f b

pub one_more_keeps_order : (s t : State) (old mid : List Order) (o : Order) → HasOnePerId old → IsFiltered old mid → AllByRecursion (λ x. is_same_id x.id o.id ≡ false) mid → has old o ≡ false
    → KeepsOrder (book_in s old) (book_in t (mid ++ o ∷ []))
one_more_keeps_order s t old mid o h f apart other =
    subst (λ l. AllByRecursion (λ x. is_same_id x.id o.id ≡ false) l → KeepsOrder (book_in s old) (book_in t (l ++ o ∷ []))) f.is
    (λ a. one_more_keeps s t old o f.test h a other) apart
