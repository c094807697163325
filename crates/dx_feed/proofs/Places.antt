-- The places of ids in a list, and what the calls of a listing leave of its keys.
use Rattle.std.proofs.Common.{◌≡◌, ℕ, suc, ◌+◌, ◌-◌, Bool, true, false, cond, Option, None, Some, List, [], ◌∷◌, ◌++◌, map, take, drop, length, refl, sym, ap, subst, ◌∙◌, arith, length-append}
use Rattle.std.specs.Prelude.{slice_get, MatchOption}
use Rattle.std.specs.List.{position, position_from, list_any, remove}
use Rattle.std.proofs.lemmas.List.{map-append, take-map, drop-map}
use Rattle.std.proofs.lemmas.List.Edits.{remove-append_right}
use Rattle.std.proofs.lemmas.Option.{slice_get-get_or}
use Rattle.std.proofs.lemmas.Iterator.Adapters.{position_from-zero}
use Rattle.std.proofs.Math.Seq.{get_or-append_seam, set-append_seam}
use Rattle.dx_types.specs.declared.OrderId.{OrderId}
use Rattle.dx_spec.specs.Orders.{is_same_id}
use Rattle.dx_spec.proofs.Each.{neither, all_fail, none_found}
use Rattle.indexmap.specs.IndexSet.{insert_key}
use Rattle.dx_types.specs.declared.Shown.{Shown}
use Rattle.dx_feed.specs.declared.key.IdKey.{IdKey}
use Rattle.dx_feed.specs.Lists.{shown_of, NamesOnce, orders}
use Rattle.dx_feed.specs.Following.{without, left_under, with_left}
use Rattle.dx_feed.specs.Keys.{key_to, is_same_key, key_in, left_at, IsPlaceOf, IsKept}
use Rattle.dx_feed.proofs.Names.{same_keys}
use Rattle.dx_spec.proofs.Same.{one_id, swapped_ids}
use Rattle.dx_feed.proofs.Lists.{HaveOtherIds, in_middle, shown_middle, once-filter, once-push, once_by_orders}
use Rattle.dx_feed.proofs.Following.{without_others, without_middle, left_others, left_of_middle}

-- the order of an id, those before it and those behind it; the first place has a number
record Stands (first : ℕ) (list : List Shown) (id : OrderId) (place : ℕ) : Type 0 where
  front : List Shown
  shown : Shown
  behind : List Shown
  joined : list ≡ front ++ shown ∷ behind
  at : length front + first ≡ place
  named : shown.order.id ≡ id

-- keys are one where ids are, the other way round
key_test : (id : OrderId) (s : Shown) → is_same_key (key_to id) (key_in s) ≡ is_same_id s.order.id id
key_test id s = same_keys id s.order.id ∙ swapped_ids id s.order.id

-- where the key of an id is found
stands_from : (id : OrderId) (list : List Shown) (first place : ℕ) → position_from (is_same_key (key_to id)) first (map key_in list) ≡ Some place → Stands first list id place
stands_from id [] first place e = absurd (cc)
stands_from id (x ∷ xs) first place e = go (is_same_key (key_to id) (key_in x)) refl (stands_from id xs (first + 1) place) e
  where
    go : (b : Bool) → is_same_key (key_to id) (key_in x) ≡ b
        → (position_from (is_same_key (key_to id)) (first + 1) (map key_in xs) ≡ Some place → Stands (first + 1) xs id place)
        → cond b (Some first) (position_from (is_same_key (key_to id)) (first + 1) (map key_in xs)) ≡ Some place → Stands first (x ∷ xs) id place
    go true k more f =
        let same : first ≡ place = cc in
        let at : 0 + first ≡ place = omega (arith, same) in
        record { front = []; shown = x; behind = xs; joined = refl; at = at; named = one_id x.order.id id (sym (key_test id x) ∙ k) }
    go false k more f =
        let r = more f in
        record { front = x ∷ r.front; shown = r.shown; behind = r.behind; joined = ap (λ l. x ∷ l) r.joined; at = omega (arith, r.at); named = r.named }

-- where it is not
absent_from : (id : OrderId) (list : List Shown) (first : ℕ) → position_from (is_same_key (key_to id)) first (map key_in list) ≡ None → HaveOtherIds id list
absent_from id [] first e = tt
absent_from id (x ∷ xs) first e =
    let n = neither (is_same_key (key_to id) (key_in x)) first (position_from (is_same_key (key_to id)) (first + 1) (map key_in xs)) e in
    (sym (key_test id x) ∙ n.0, absent_from id xs (first + 1) n.1)

-- what stands at the seam of two lists
get_seam : (front : List Shown) (x : Shown) (behind : List Shown) → slice_get (front ++ x ∷ behind) (length front) ≡ Some x
get_seam front x behind =
    let long : length (front ++ x ∷ behind) ≡ length front + length (x ∷ behind) = length-append front (x ∷ behind) in
    let more : length (x ∷ behind) ≡ suc (length behind) = refl in
    slice_get-get_or (front ++ x ∷ behind) (length front) x (omega (arith, long, more)) ∙ ap Some (get_or-append_seam front x behind x)

remove_seam : (front : List Shown) (x : Shown) (behind : List Shown) → remove (front ++ x ∷ behind) (length front) ≡ front ++ behind
remove_seam front x behind =
    let none : length front - length front ≡ 0 = omega arith in
    remove-append_right front (x ∷ behind) (length front) (length front) refl (omega arith)
    ∙ ap (λ n. front ++ remove (x ∷ behind) n) none

left_seam : (front : List Shown) (x : Shown) (behind : List Shown) (left : ℕ) → left_at (front ++ x ∷ behind) (length front) left ≡ front ++ record x { left = left } ∷ behind
left_seam front x behind left = rw (get_seam front x behind) (set-append_seam front x behind (record x { left = left }))

-- the place of the order of an id
place_is : (list : List Shown) (id : OrderId) (place : ℕ) → NamesOnce list → Stands 0 list id place → IsPlaceOf list id place
place_is list id place once s =
    let here : NamesOnce (s.front ++ s.shown ∷ s.behind) = subst NamesOnce s.joined once in
    let m = in_middle s.front s.shown s.behind here in
    let at : length s.front ≡ place = omega (arith, s.at) in
    let own : IsPlaceOf (s.front ++ s.shown ∷ s.behind) s.shown.order.id (length s.front) = record {
      within = let long : length (s.front ++ s.shown ∷ s.behind) ≡ length s.front + length (s.shown ∷ s.behind) = length-append s.front (s.shown ∷ s.behind) in let more : length (s.shown ∷ s.behind) ≡ suc (length s.behind) = refl in omega (arith, long, more);
      shown = get_seam s.front s.shown s.behind ∙ sym (shown_middle s.front s.shown s.behind m);
      removed = remove_seam s.front s.shown s.behind ∙ sym (without_middle s.front s.shown s.behind m);
      left_set = λ left. left_seam s.front s.shown s.behind left ∙ sym (left_of_middle s.front s.shown s.behind left m);
    } in
    subst (λ l. IsPlaceOf l id place) (sym s.joined)
    (subst (λ k. IsPlaceOf (s.front ++ s.shown ∷ s.behind) k place) s.named
    (subst (λ n. IsPlaceOf (s.front ++ s.shown ∷ s.behind) s.shown.order.id n) at own))

-- where a set finds the key of an id, its order stands; where it does not, no order has it
pub found_place : (list : List Shown) (keys : List IdKey) (id : OrderId) (k : IdKey) (r : Option ℕ) → IsKept list keys → k ≡ key_to id → r ≡ position (is_same_key k) keys
    → MatchOption r (shown_of list id ≡ None) (IsPlaceOf list id)
found_place list keys id k r kept is e = go r (sym (e ∙ (λ i. position (is_same_key (is i)) (kept.keys_are i)) ∙ position_from-zero (is_same_key (key_to id)) (map key_in list)))
  where
    go : (o : Option ℕ) → position_from (is_same_key (key_to id)) 0 (map key_in list) ≡ o → MatchOption o (shown_of list id ≡ None) (IsPlaceOf list id)
    go None f = none_found (λ s. is_same_id s.order.id id) list (absent_from id list 0 f)
    go (Some place) f = place_is list id place kept.once (stands_from id list 0 place f)

-- no listing
pub none_kept : (list : List Shown) (keys : List IdKey) → list ≡ [] → keys ≡ [] → IsKept list keys
none_kept list keys no_order no_key =
    let none : IsKept [] keys = record { keys_are = no_key; once = tt } in
    subst (λ l. IsKept l keys) (sym no_order) none

-- a key that is not among keys
absent_key : (id : OrderId) (list : List Shown) → HaveOtherIds id list → list_any (is_same_key (key_to id)) (map key_in list) ≡ false
absent_key id [] h = refl
absent_key id (x ∷ xs) h = rw (key_test id x ∙ h.0) (absent_key id xs h.1)

-- an order behind the others
pub pushed_kept : (list : List Shown) (keys reserved after : List IdKey) (s : Shown) (both : List Shown) (k : IdKey) → IsKept list keys → shown_of list s.order.id ≡ None
    → reserved ≡ keys → k ≡ key_to s.order.id → after ≡ insert_key is_same_key reserved k → both ≡ list ++ s ∷ [] → IsKept both after
pushed_kept list keys reserved after s both k kept absent same is added joined =
    let apart : HaveOtherIds s.order.id list = all_fail (λ t. is_same_id t.order.id s.order.id) list absent in
    let own = key_in s in
    let keys_then : after ≡ map key_in (list ++ s ∷ []) =
    added ∙ (λ i. insert_key is_same_key ((same ∙ kept.keys_are) i) (is i))
    ∙ ap (λ b. cond b (map key_in list) (map key_in list ++ own ∷ [])) (absent_key s.order.id list apart)
    ∙ sym (map-append key_in list (s ∷ [])) in
    let then : IsKept (list ++ s ∷ []) after = record { keys_are = keys_then; once = once-push list s kept.once apart } in
    subst (λ l. IsKept l after) (sym joined) then

-- an order taken out
pub removed_kept : (list : List Shown) (keys after : List IdKey) (id : OrderId) (place : ℕ) (rest : List Shown) → IsKept list keys → IsPlaceOf list id place
    → rest ≡ remove list place → after ≡ remove keys place → IsKept rest after
removed_kept list keys after id place rest kept at is gone = record {
  keys_are =
      gone ∙ ap (λ l. remove l place) kept.keys_are
      ∙ (λ i. take-map key_in place list i ++ drop-map key_in (suc place) list i) ∙ sym (map-append key_in (take place list) (drop (suc place) list))
      ∙ ap (map key_in) (sym is);
  once = subst NamesOnce (sym (is ∙ at.removed)) (once-filter _ list kept.once);
}

same_orders : (id : OrderId) (left : ℕ) (list : List Shown) → orders (with_left list id left) ≡ orders list
same_orders id left [] = refl
same_orders id left (s ∷ list) =
    let first : (left_under id left s).order ≡ s.order = elim (is_same_id s.order.id id) as (λ b. (cond b (record s { left = left }) s).order ≡ s.order) [ true ↦ refl | false ↦ refl ] in
    λ i. first i ∷ same_orders id left list i

keys_by_orders : (xs ys : List Shown) → orders xs ≡ orders ys → map key_in xs ≡ map key_in ys
keys_by_orders [] [] e = refl
keys_by_orders [] (y ∷ ys) e = absurd (cc)
keys_by_orders (x ∷ xs) [] e = absurd (cc)
keys_by_orders (x ∷ xs) (y ∷ ys) e =
    let first : x.order ≡ y.order = cc in
    let rest : orders xs ≡ orders ys = cc in
    λ i. key_to (first i).id ∷ keys_by_orders xs ys rest i

-- another amount left of an order
pub left_kept : (list : List Shown) (keys : List IdKey) (id : OrderId) (place left : ℕ) (rest : List Shown) → IsKept list keys → IsPlaceOf list id place
    → rest ≡ left_at list place left → IsKept rest keys
left_kept list keys id place left rest kept at is =
    let same : orders list ≡ orders rest = sym (ap orders (is ∙ at.left_set left) ∙ same_orders id left list) in
    record { keys_are = kept.keys_are ∙ keys_by_orders list rest same; once = once_by_orders list rest same kept.once }

-- where no order has an id, none is taken out
pub none_removed : (list : List Shown) (id : OrderId) → shown_of list id ≡ None → list ≡ without list id
none_removed list id e = sym (without_others id list (all_fail (λ s. is_same_id s.order.id id) list e))

-- nor gets another amount
pub none_left : (list : List Shown) (id : OrderId) (left : ℕ) → shown_of list id ≡ None → list ≡ with_left list id left
none_left list id left e = sym (left_others id left list (all_fail (λ s. is_same_id s.order.id id) list e))

-- the first of those that are not yet pushed is not named
pub next_absent : (front : List Shown) (x : Shown) (behind list : List Shown) → NamesOnce list → front ++ x ∷ behind ≡ list → shown_of front x.order.id ≡ None
next_absent front x behind list once e =
    none_found (λ s. is_same_id s.order.id x.order.id) front (in_middle front x behind (subst NamesOnce (sym e) once)).apart_front
