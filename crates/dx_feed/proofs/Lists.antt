-- Lists that name no id twice.
use Rattle.std.proofs.Common.{◌≡◌, Bool, true, false, cond, Option, None, Some, List, [], ◌∷◌, ◌++◌, filter, refl, sym, ap, ◌∙◌}
use Rattle.std.specs.List.{AllByRecursion}
use Rattle.dx_types.specs.declared.OrderId.{OrderId}
use Rattle.dx_types.specs.declared.Order.{Order}
use Rattle.dx_spec.specs.Orders.{is_same_id}
use Rattle.dx_spec.proofs.Each.{all_fail, none_found, all_filter}
use Rattle.dx_types.specs.declared.Shown.{Shown}
use Rattle.dx_feed.specs.Lists.{shown_of, NamesOnce, orders}
use Rattle.dx_spec.proofs.Same.{own_id, swapped_ids}

-- each of a list has another id
abbrev pub HaveOtherIds : OrderId → List Shown → Type 0
HaveOtherIds id list = AllByRecursion (λ s. is_same_id s.order.id id ≡ false) list

pub all_front : {X : Type 0} (P : X → Type 0) (xs ys : List X) → AllByRecursion P (xs ++ ys) → AllByRecursion P xs
all_front P [] ys h = tt
all_front P (x ∷ xs) ys h = (h.0, all_front P xs ys h.1)

pub all_behind : {X : Type 0} (P : X → Type 0) (xs ys : List X) → AllByRecursion P (xs ++ ys) → AllByRecursion P ys
all_behind P [] ys h = h
all_behind P (x ∷ xs) ys h = all_behind P xs ys h.1

pub all_joined : {X : Type 0} (P : X → Type 0) (xs ys : List X) → AllByRecursion P xs → AllByRecursion P ys → AllByRecursion P (xs ++ ys)
all_joined P [] ys h i = i
all_joined P (x ∷ xs) ys h i = (h.0, all_joined P xs ys h.1 i)

-- what a filter keeps where all pass
pub all_kept : {X : Type 0} (test : X → Bool) (xs : List X) → AllByRecursion (λ x. test x ≡ true) xs → filter test xs ≡ xs
all_kept test [] h = refl
all_kept test (x ∷ xs) h = rw h.0 (ap (λ l. x ∷ l) (all_kept test xs h.1))

-- an order of the middle, and the list without it
pub record IsInMiddle (front : List Shown) (x : Shown) (behind : List Shown) : Type 0 where
  pub apart_front : HaveOtherIds x.order.id front
  pub apart_behind : HaveOtherIds x.order.id behind
  pub others : NamesOnce (front ++ behind)

pub in_middle : (front : List Shown) (x : Shown) (behind : List Shown) → NamesOnce (front ++ x ∷ behind) → IsInMiddle front x behind
in_middle [] x behind h = record {
  apart_front = tt;
  apart_behind = all_fail (λ s. is_same_id s.order.id x.order.id) behind h.0;
  others = h.1;
}
in_middle (f ∷ front) x behind h =
    let test = λ (s : Shown). is_same_id s.order.id f.order.id in
    let apart : HaveOtherIds f.order.id (front ++ x ∷ behind) = all_fail test (front ++ x ∷ behind) h.0 in
    let ends : HaveOtherIds f.order.id (x ∷ behind) = all_behind _ front (x ∷ behind) apart in
    let rest = in_middle front x behind h.1 in
    let others : HaveOtherIds f.order.id (front ++ behind) = all_joined _ front behind (all_front _ front (x ∷ behind) apart) ends.1 in
    record {
      apart_front = (swapped_ids f.order.id x.order.id ∙ ends.0, rest.apart_front);
      apart_behind = rest.apart_behind;
      others = (none_found test (front ++ behind) others, rest.others);
    }

-- the list again with another amount left of the order of the middle
pub another_left : (front : List Shown) (x y : Shown) (behind : List Shown) → y.order ≡ x.order → NamesOnce (front ++ x ∷ behind) → NamesOnce (front ++ y ∷ behind)
another_left [] x y behind e h = (ap (λ (o : Order). shown_of behind o.id) e ∙ h.0, h.1)
another_left (f ∷ front) x y behind e h =
    let test = λ (s : Shown). is_same_id s.order.id f.order.id in
    let apart : HaveOtherIds f.order.id (front ++ x ∷ behind) = all_fail test (front ++ x ∷ behind) h.0 in
    let ends : HaveOtherIds f.order.id (x ∷ behind) = all_behind _ front (x ∷ behind) apart in
    let this : test y ≡ false = ap (λ (o : Order). is_same_id o.id f.order.id) e ∙ ends.0 in
    let joined : HaveOtherIds f.order.id (front ++ y ∷ behind) = all_joined _ front (y ∷ behind) (all_front _ front (x ∷ behind) apart) (this, ends.1) in
    (none_found test (front ++ y ∷ behind) joined, another_left front x y behind e h.1)

-- behind others a list shows what it shows alone, of an id that they do not have
pub shown_behind : (front : List Shown) (id : OrderId) (list : List Shown) → HaveOtherIds id front → shown_of (front ++ list) id ≡ shown_of list id
shown_behind [] id list h = refl
shown_behind (f ∷ front) id list h = rw h.0 (shown_behind front id list h.1)

-- an order of the middle is what is shown under its id
pub shown_middle : (front : List Shown) (x : Shown) (behind : List Shown) → IsInMiddle front x behind → shown_of (front ++ x ∷ behind) x.order.id ≡ Some x
shown_middle front x behind m = shown_behind front x.order.id (x ∷ behind) m.apart_front ∙ ap (λ b. cond b (Some x) (shown_of behind x.order.id)) (own_id x.order.id)

-- under the id of each stands just it
pub all_shown : (list : List Shown) → NamesOnce list → AllByRecursion (λ s. shown_of list s.order.id ≡ Some s) list
all_shown [] h = tt
all_shown (x ∷ list) h = (rw (own_id x.order.id) refl, more list (all_fail (λ s. is_same_id s.order.id x.order.id) list h.0) (all_shown list h.1))
  where
    more : (ys : List Shown) → HaveOtherIds x.order.id ys → AllByRecursion (λ s. shown_of list s.order.id ≡ Some s) ys → AllByRecursion (λ s. shown_of (x ∷ list) s.order.id ≡ Some s) ys
    more [] a b = tt
    more (y ∷ ys) a b = (rw (swapped_ids x.order.id y.order.id ∙ a.0) b.0, more ys a.1 b.1)

-- none of an id is left where there was none
pub shown-filter : (test : Shown → Bool) (list : List Shown) (id : OrderId) → shown_of list id ≡ None → shown_of (filter test list) id ≡ None
shown-filter test list id e =
    none_found (λ s. is_same_id s.order.id id) (filter test list) (all_filter _ test list (all_fail (λ s. is_same_id s.order.id id) list e))

pub once-filter : (test : Shown → Bool) (list : List Shown) → NamesOnce list → NamesOnce (filter test list)
once-filter test [] h = tt
once-filter test (s ∷ list) h =
    elim (test s) as (λ b. NamesOnce (cond b (s ∷ filter test list) (filter test list))) [
      | true ↦ (shown-filter test list s.order.id h.0, once-filter test list h.1)
      | false ↦ once-filter test list h.1
    ]

-- lists of the same orders are one, where what is left of an order hangs on the order alone
pub one_list : (f : Order → Option Shown) (xs ys : List Shown) → orders xs ≡ orders ys
    → AllByRecursion (λ s. f s.order ≡ Some s) xs → AllByRecursion (λ s. f s.order ≡ Some s) ys → xs ≡ ys
one_list f [] [] e h i = refl
one_list f [] (y ∷ ys) e h i = absurd (cc)
one_list f (x ∷ xs) [] e h i = absurd (cc)
one_list f (x ∷ xs) (y ∷ ys) e h i =
    let first : x.order ≡ y.order = cc in
    let rest : orders xs ≡ orders ys = cc in
    let some : Some x ≡ Some y = sym h.0 ∙ ap f first ∙ i.0 in
    let one : x ≡ y = cc in
    let others : xs ≡ ys = one_list f xs ys rest h.1 i.1 in
    λ j. one j ∷ others j

-- an order behind the others, whose id none of them has
pub once-push : (list : List Shown) (s : Shown) → NamesOnce list → HaveOtherIds s.order.id list → NamesOnce (list ++ s ∷ [])
once-push [] s h apart = (refl, tt)
once-push (x ∷ list) s h apart =
    let test = λ (t : Shown). is_same_id t.order.id x.order.id in
    let others : HaveOtherIds x.order.id (list ++ s ∷ []) =
    all_joined _ list (s ∷ []) (all_fail test list h.0) (swapped_ids s.order.id x.order.id ∙ apart.0, tt) in
    (none_found test (list ++ s ∷ []) others, once-push list s h.1 apart.1)

-- whether ids are named twice hangs on the orders alone
apart_by_orders : (id : OrderId) (xs ys : List Shown) → orders xs ≡ orders ys → HaveOtherIds id xs → HaveOtherIds id ys
apart_by_orders id [] [] e h = tt
apart_by_orders id [] (y ∷ ys) e h = absurd (cc)
apart_by_orders id (x ∷ xs) [] e h = absurd (cc)
apart_by_orders id (x ∷ xs) (y ∷ ys) e h =
    let first : x.order ≡ y.order = cc in
    let rest : orders xs ≡ orders ys = cc in
    (ap (λ (o : Order). is_same_id o.id id) (sym first) ∙ h.0, apart_by_orders id xs ys rest h.1)

pub once_by_orders : (xs ys : List Shown) → orders xs ≡ orders ys → NamesOnce xs → NamesOnce ys
once_by_orders [] [] e h = tt
once_by_orders [] (y ∷ ys) e h = absurd (cc)
once_by_orders (x ∷ xs) [] e h = absurd (cc)
once_by_orders (x ∷ xs) (y ∷ ys) e h =
    let first : x.order ≡ y.order = cc in
    let rest : orders xs ≡ orders ys = cc in
    let apart : HaveOtherIds x.order.id ys = apart_by_orders x.order.id xs ys rest (all_fail (λ s. is_same_id s.order.id x.order.id) xs h.0) in
    let absent : shown_of ys x.order.id ≡ None = none_found (λ s. is_same_id s.order.id x.order.id) ys apart in
    (ap (λ (o : Order). shown_of ys o.id) (sym first) ∙ absent, once_by_orders xs ys rest h.1)
