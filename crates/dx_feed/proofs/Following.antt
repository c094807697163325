-- A list that follows the changes to a lawful successor is that successor.
use Rattle.std.proofs.Common.{◌≡◌, ℕ, Bool, true, false, cond, not, ◌==◌, Option, None, Some, Result, Ok, Err, List, [], ◌∷◌, ◌++◌, map, filter, refl, sym, ap, subst, ◌∙◌, append_assoc}
use Rattle.std.specs.Option.{option_map_or}
use Rattle.std.specs.List.{AllByRecursion, cons_option}
use Rattle.std.proofs.lemmas.List.{append-nil, map-append}
use Rattle.std.proofs.lemmas.List.Elements.{filter-append}
use Rattle.std.proofs.lemmas.Bool.{eqb-true}
use Rattle.dx_types.specs.declared.OrderId.{OrderId}
use Rattle.dx_types.specs.declared.Order.{Order}
use Rattle.dx_spec.specs.Step.{◌>>=◌}
use Rattle.dx_spec.specs.Orders.{is_same_id, is_same_order}
use Rattle.dx_spec.proofs.Each.{all_weaker, none_found, all_filter, all_pass}
use Rattle.dx_types.specs.declared.Shown.{Shown}
use Rattle.dx_feed.specs.declared.Change.{Change}
use Rattle.dx_feed.specs.declared.Change.TheVariants.{Gone, Left, Add}
use Rattle.dx_feed.specs.Lists.{shown_of, NamesOnce, holds, orders, still_held, new_ones, KeepsOrder}
use Rattle.dx_feed.specs.Changes.{gone_from, left_in, left_of, all_added, changes}
use Rattle.dx_feed.specs.Following.{without, left_under, with_left, follow, follow_all}
use Rattle.dx_feed.specs.Laws.{ChangesLeadOn}
use Rattle.dx_spec.proofs.Same.{own_id, one_order}
use Rattle.dx_feed.proofs.Lists.{HaveOtherIds, all_joined, all_kept, IsInMiddle, in_middle, another_left, shown_middle, all_shown, once-filter, one_list}

-- changes, and others behind them
follow-append : (xs ys : List Change) (list mid : List Shown) → follow_all xs list ≡ Ok mid → follow_all (xs ++ ys) list ≡ follow_all ys mid
follow-append [] ys list mid e = let same : list ≡ mid = cc in ap (follow_all ys) same
follow-append (c ∷ xs) ys list mid e = go (λ next. follow-append xs ys next mid) (follow list c) e
  where
    go : ((next : List Shown) → follow_all xs next ≡ Ok mid → follow_all (xs ++ ys) next ≡ follow_all ys mid)
        → (r : Result (List Shown) ℕ) → (r >>= follow_all xs) ≡ Ok mid → (r >>= follow_all (xs ++ ys)) ≡ follow_all ys mid
    go more (Ok next) f = more next f
    go more (Err code) f = absurd (cc)

-- a change that is taken on, and others behind it
follow-first : (c : Change) (cs : List Change) (list mid : List Shown) → follow list c ≡ Ok mid → follow_all (c ∷ cs) list ≡ follow_all cs mid
follow-first c cs list mid e = ap (λ (r : Result (List Shown) ℕ). r >>= follow_all cs) e

-- others stay where the order of an id goes
pub without_others : (id : OrderId) (list : List Shown) → HaveOtherIds id list → without list id ≡ list
without_others id list h = all_kept (λ s. not (is_same_id s.order.id id)) list (all_weaker _ _ (λ (s : Shown) e. ap not e) list h)

-- the list without the order of the middle
pub without_middle : (front : List Shown) (x : Shown) (behind : List Shown) → IsInMiddle front x behind → without (front ++ x ∷ behind) x.order.id ≡ front ++ behind
without_middle front x behind m =
    let id = x.order.id in
    let here : without (x ∷ behind) id ≡ behind = ap (λ b. cond (not b) (x ∷ without behind id) (without behind id)) (own_id id) ∙ without_others id behind m.apart_behind in
    filter-append (λ s. not (is_same_id s.order.id id)) front (x ∷ behind)
    ∙ ap (λ l. l ++ without (x ∷ behind) id) (without_others id front m.apart_front) ∙ ap (λ l. front ++ l) here

-- the order of the middle has gone
gone_middle : (front : List Shown) (x : Shown) (behind : List Shown) → NamesOnce (front ++ x ∷ behind)
    → follow (front ++ x ∷ behind) (Gone x.order.id) ≡ Ok (front ++ behind)
gone_middle front x behind h =
    let m = in_middle front x behind h in
    rw (shown_middle front x behind m) (ap Ok (without_middle front x behind m))

-- each order that does not pass has gone
gone_all : (test : Shown → Bool) (front xs : List Shown) → NamesOnce (front ++ xs)
    → follow_all (map (λ s. Gone s.order.id) (filter (λ s. not (test s)) xs)) (front ++ xs) ≡ Ok (front ++ filter test xs)
gone_all test front [] h = refl
gone_all test front (x ∷ xs) h = go (λ others. gone_all test others xs) (test x) refl
  where
    go : ((others : List Shown) → NamesOnce (others ++ xs)
        → follow_all (map (λ s. Gone s.order.id) (filter (λ s. not (test s)) xs)) (others ++ xs) ≡ Ok (others ++ filter test xs))
        → (b : Bool) → test x ≡ b
        → follow_all (map (λ s. Gone s.order.id) (cond (not b) (x ∷ filter (λ s. not (test s)) xs) (filter (λ s. not (test s)) xs))) (front ++ x ∷ xs)
        ≡ Ok (front ++ cond b (x ∷ filter test xs) (filter test xs))
    go more true e =
        let joined : (front ++ x ∷ []) ++ xs ≡ front ++ x ∷ xs = append_assoc front (x ∷ []) xs in
        let rest = more (front ++ x ∷ []) (subst NamesOnce (sym joined) h) in
        ap (follow_all (map (λ s. Gone s.order.id) (filter (λ s. not (test s)) xs))) (sym joined) ∙ rest ∙ ap Ok (append_assoc front (x ∷ []) (filter test xs))
    go more false e =
        follow-first (Gone x.order.id) (map (λ s. Gone s.order.id) (filter (λ s. not (test s)) xs)) (front ++ x ∷ xs) (front ++ xs) (gone_middle front x xs h)
        ∙ more front (in_middle front x xs h).others

-- others keep what is left of them where the order of an id gets another amount
pub left_others : (id : OrderId) (left : ℕ) (list : List Shown) → HaveOtherIds id list → with_left list id left ≡ list
left_others id left [] h = refl
left_others id left (s ∷ list) h = λ i. cond (h.0 i) (record s { left = left }) s ∷ left_others id left list h.1 i

-- the list with another amount left of the order of the middle
pub left_of_middle : (front : List Shown) (x : Shown) (behind : List Shown) (left : ℕ) → IsInMiddle front x behind
    → with_left (front ++ x ∷ behind) x.order.id left ≡ front ++ record x { left = left } ∷ behind
left_of_middle front x behind left m =
    let id = x.order.id in
    let y : Shown = record x { left = left } in
    let here : with_left (x ∷ behind) id left ≡ y ∷ behind = λ i. cond (own_id id i) y x ∷ left_others id left behind m.apart_behind i in
    map-append (left_under id left) front (x ∷ behind)
    ∙ ap (λ l. l ++ with_left (x ∷ behind) id left) (left_others id left front m.apart_front) ∙ ap (λ l. front ++ l) here

-- another amount is left of the order of the middle
left_middle : (front : List Shown) (x : Shown) (behind : List Shown) (left : ℕ) → NamesOnce (front ++ x ∷ behind)
    → follow (front ++ x ∷ behind) (Left x.order.id left) ≡ Ok (front ++ record x { left = left } ∷ behind)
left_middle front x behind left h =
    let m = in_middle front x behind h in
    rw (shown_middle front x behind m) (ap Ok (left_of_middle front x behind left m))

-- an order as it is, with what the new list shows as left of it
abbrev as_shown : List Shown → Shown → Shown
as_shown now s = option_map_or (λ n. record s { left = n.left }) (shown_of now s.order.id) s

-- what the changes say of an order of the old list: it is not held as it is, the same amount is left, or another one
data Turn (now : List Shown) (x : Shown) : Type 0 where
  Leaves : holds now x.order ≡ false → left_in now x ≡ None → Turn now x
  Stays : holds now x.order ≡ true → left_in now x ≡ None → as_shown now x ≡ x → Turn now x
  Changes : (left : ℕ) → holds now x.order ≡ true → left_in now x ≡ Some (Left x.order.id left) → as_shown now x ≡ record x { left = left } → Turn now x

turn_of : (now : List Shown) (x : Shown) → Turn now x
turn_of now x = found (shown_of now x.order.id) refl
  where
    same : (n : Shown) → shown_of now x.order.id ≡ Some n → is_same_order n.order x.order ≡ true → (b : Bool) → (n.left == x.left) ≡ b → Turn now x
    same n e s true l = Stays (rw e s) (rw e (rw s (rw l refl))) (rw e (ap (λ left. record x { left = left }) (eqb-true n.left x.left l)))
    same n e s false l = Changes n.left (rw e s) (rw e (rw s (rw l refl))) (rw e refl)

    named : (n : Shown) → shown_of now x.order.id ≡ Some n → (b : Bool) → is_same_order n.order x.order ≡ b → Turn now x
    named n e true s = same n e s (n.left == x.left) refl
    named n e false s = Leaves (rw e s) (rw e (rw s refl))

    found : (o : Option Shown) → shown_of now x.order.id ≡ o → Turn now x
    found None e = Leaves (rw e refl) (rw e refl)
    found (Some n) e = named n e (is_same_order n.order x.order) refl

-- each order that the new list holds as it is has the amount that is left there
left_all : (now front xs : List Shown) → NamesOnce (front ++ still_held xs now)
    → follow_all (left_of xs now) (front ++ still_held xs now) ≡ Ok (front ++ map (as_shown now) (still_held xs now))
left_all now front [] h = refl
left_all now front (x ∷ xs) h = go (λ others. left_all now others xs) (turn_of now x)
  where
    kept : List Shown
    kept = still_held xs now

    go : ((others : List Shown) → NamesOnce (others ++ still_held xs now)
        → follow_all (left_of xs now) (others ++ still_held xs now) ≡ Ok (others ++ map (as_shown now) (still_held xs now)))
        → Turn now x → follow_all (left_of (x ∷ xs) now) (front ++ still_held (x ∷ xs) now) ≡ Ok (front ++ map (as_shown now) (still_held (x ∷ xs) now))
    go more (Leaves held left) =
        let same_list : still_held (x ∷ xs) now ≡ kept = ap (λ b. cond b (x ∷ kept) kept) held in
        let same_changes : left_of (x ∷ xs) now ≡ left_of xs now = ap (λ c. cons_option c (left_of xs now)) left in
        let once : NamesOnce (front ++ kept) = subst (λ l. NamesOnce (front ++ l)) same_list h in
        (λ i. follow_all (same_changes i) (front ++ same_list i)) ∙ more front once
        ∙ ap (λ l. Ok (front ++ map (as_shown now) l)) (sym same_list)
    go more (Stays held left same) =
        let same_list : still_held (x ∷ xs) now ≡ x ∷ kept = ap (λ b. cond b (x ∷ kept) kept) held in
        let same_changes : left_of (x ∷ xs) now ≡ left_of xs now = ap (λ c. cons_option c (left_of xs now)) left in
        let joined : (front ++ x ∷ []) ++ kept ≡ front ++ x ∷ kept = append_assoc front (x ∷ []) kept in
        let once : NamesOnce (front ++ x ∷ kept) = subst (λ l. NamesOnce (front ++ l)) same_list h in
        (λ i. follow_all (same_changes i) (front ++ same_list i))
        ∙ ap (follow_all (left_of xs now)) (sym joined)
        ∙ more (front ++ x ∷ []) (subst NamesOnce (sym joined) once)
        ∙ ap Ok (append_assoc front (x ∷ []) (map (as_shown now) kept))
        ∙ ap (λ (s : Shown). Ok (front ++ s ∷ map (as_shown now) kept)) (sym same)
        ∙ ap (λ l. Ok (front ++ map (as_shown now) l)) (sym same_list)
    go more (Changes amount held left same) =
        let y : Shown = record x { left = amount } in
        let same_list : still_held (x ∷ xs) now ≡ x ∷ kept = ap (λ b. cond b (x ∷ kept) kept) held in
        let same_changes : left_of (x ∷ xs) now ≡ Left x.order.id amount ∷ left_of xs now = ap (λ c. cons_option c (left_of xs now)) left in
        let joined : (front ++ y ∷ []) ++ kept ≡ front ++ y ∷ kept = append_assoc front (y ∷ []) kept in
        let once : NamesOnce (front ++ x ∷ kept) = subst (λ l. NamesOnce (front ++ l)) same_list h in
        let once_then : NamesOnce (front ++ y ∷ kept) = another_left front x y kept refl once in
        (λ i. follow_all (same_changes i) (front ++ same_list i))
        ∙ follow-first (Left x.order.id amount) (left_of xs now) (front ++ x ∷ kept) (front ++ y ∷ kept) (left_middle front x kept amount once)
        ∙ ap (follow_all (left_of xs now)) (sym joined)
        ∙ more (front ++ y ∷ []) (subst NamesOnce (sym joined) once_then)
        ∙ ap Ok (append_assoc front (y ∷ []) (map (as_shown now) kept))
        ∙ ap (λ (s : Shown). Ok (front ++ s ∷ map (as_shown now) kept)) (sym same)
        ∙ ap (λ l. Ok (front ++ map (as_shown now) l)) (sym same_list)

-- an order behind others, whose id none of them has
added_behind : (front : List Shown) (x : Shown) → HaveOtherIds x.order.id front → follow front (Add x) ≡ Ok (front ++ x ∷ [])
added_behind front x apart = rw (none_found (λ s. is_same_id s.order.id x.order.id) front apart) refl

-- each order of a list is added
added_all : (front xs : List Shown) → NamesOnce (front ++ xs) → follow_all (all_added xs) front ≡ Ok (front ++ xs)
added_all front [] h = ap Ok (sym (append-nil front))
added_all front (x ∷ xs) h =
    let joined : (front ++ x ∷ []) ++ xs ≡ front ++ x ∷ xs = append_assoc front (x ∷ []) xs in
    follow-first (Add x) (all_added xs) front (front ++ x ∷ []) (added_behind front x (in_middle front x xs h).apart_front)
    ∙ added_all (front ++ x ∷ []) xs (subst NamesOnce (sym joined) h) ∙ ap Ok joined

-- the order stays the same
same_order : (now : List Shown) (x : Shown) → (as_shown now x).order ≡ x.order
same_order now x = elim (shown_of now x.order.id) as (λ o. (option_map_or (λ n. record x { left = n.left }) o x).order ≡ x.order) [ None ↦ refl | Some n ↦ refl ]

same_orders : (now xs : List Shown) → orders (map (as_shown now) xs) ≡ orders xs
same_orders now [] = refl
same_orders now (x ∷ xs) = λ i. same_order now x i ∷ same_orders now xs i

-- what the list shows of an order
abbrev shown_as : List Shown → Order → Option Shown
shown_as now o = shown_of now o.id

-- an order that the list holds as it is, with what is left there, is what the list shows
held_is_shown : (now : List Shown) (x : Shown) → holds now x.order ≡ true → shown_of now x.order.id ≡ Some (as_shown now x)
held_is_shown now x h = found (shown_of now x.order.id) refl h
  where
    found : (o : Option Shown) → shown_of now x.order.id ≡ o → option_map_or (λ s. is_same_order s.order x.order) o false ≡ true
        → shown_of now x.order.id ≡ Some (option_map_or (λ n. record x { left = n.left }) (shown_of now x.order.id) x)
    found None e i = absurd (cc)
    found (Some n) e i =
        let same : n.order ≡ x.order = one_order n.order x.order i in
        let one : n ≡ record x { left = n.left } = λ j. record { order = same j; left = n.left } in
        e ∙ ap Some (one ∙ ap (λ o. option_map_or (λ m. record x { left = m.left }) o x) (sym e))

all_held_shown : (now xs : List Shown) → AllByRecursion (λ s. holds now s.order ≡ true) xs
    → AllByRecursion (λ s. shown_as now s.order ≡ Some s) (map (as_shown now) xs)
all_held_shown now [] h = tt
all_held_shown now (x ∷ xs) h =
    (ap (λ (o : Order). shown_of now o.id) (same_order now x) ∙ held_is_shown now x h.0, all_held_shown now xs h.1)

-- what is left of the old list and what is new are together the new list
joined_is : (old now : List Shown) → NamesOnce now → KeepsOrder old now → map (as_shown now) (still_held old now) ++ new_ones old now ≡ now
joined_is old now once keeps =
    let kept = map (as_shown now) (still_held old now) in
    let shown = all_shown now once in
    let both : orders (kept ++ new_ones old now) ≡ orders now =
    map-append (λ s. s.order) kept (new_ones old now)
    ∙ ap (λ l. l ++ orders (new_ones old now)) (same_orders now (still_held old now)) ∙ sym keeps in
    let first = all_held_shown now (still_held old now) (all_pass (λ s. holds now s.order) old) in
    let second = all_filter _ (λ s. not (holds old s.order)) now shown in
    one_list (shown_as now) (kept ++ new_ones old now) now both (all_joined _ kept (new_ones old now) first second) shown

-- the changes where the list was not cleared
some_lead_on : (old now : List Shown) → NamesOnce old → NamesOnce now → KeepsOrder old now
    → follow_all (gone_from old now ++ left_of old now ++ all_added (new_ones old now)) old ≡ Ok now
some_lead_on old now once_old once_now keeps =
    let kept = still_held old now in
    let as_now = map (as_shown now) kept in
    let gone : follow_all (gone_from old now) old ≡ Ok kept = gone_all (λ s. holds now s.order) [] old once_old in
    let left : follow_all (left_of old now) kept ≡ Ok as_now = left_all now [] old (once-filter (λ s. holds now s.order) old once_old) in
    let is_now : as_now ++ new_ones old now ≡ now = joined_is old now once_now keeps in
    let added : follow_all (all_added (new_ones old now)) as_now ≡ Ok (as_now ++ new_ones old now) =
    added_all as_now (new_ones old now) (subst NamesOnce (sym is_now) once_now) in
    follow-append (gone_from old now ++ left_of old now) (all_added (new_ones old now)) old as_now
    (follow-append (gone_from old now) (left_of old now) old kept gone ∙ left)
    ∙ added ∙ ap Ok is_now

-- in both cases
pub changes_lead_on : ChangesLeadOn
unfolding changes
changes_lead_on true old now once follows = added_all [] now follows.once
changes_lead_on false old now once follows = some_lead_on old now once follows.once (follows.in_order refl)
