-- The list that a node shows after an event may follow the one before.
use Rattle.std.proofs.Common.{◌≡◌, ℕ, Bool, true, false, cond, not, ◌&&◌, Option, None, Some, List, Result, Ok, Err, refl, sym, ap, subst, ◌∙◌}
use Rattle.std.specs.Prelude.{IsErr}
use Rattle.std.specs.List.{AllByRecursion}
use Rattle.std.specs.FinMap.{get}
use Rattle.std.specs.Option.{option_map_or}
use Rattle.std.proofs.lemmas.Bool.{and_parts}
use Rattle.dx_types.specs.declared.OrderId.{OrderId}
use Rattle.dx_types.specs.declared.Order.{Order}
use Rattle.dx_spec.specs.State.{is_kept}
use Rattle.dx_spec.specs.Orders.{is_same_id, is_same_order, check_form, newer}
use Rattle.dx_spec.proofs.Steps.{true_from_not}
use Rattle.dx_spec.proofs.Scripts.{passes, unit_passes}
use Rattle.dx_spec.proofs.Each.{all_weaker, all_filter, all_pass}
use Rattle.dx_node_spec.specs.Refusals.{not_newer}
use Rattle.dx_node_spec.specs.Book.{resting, without, HasOnePerId}
use Rattle.dx_node_spec.specs.Queue.{placed_by}
use Rattle.dx_node_spec.specs.Taking.{Taken}
use Rattle.dx_node_spec.specs.Node.{Node, speculative, next_height}
use Rattle.dx_node_spec.specs.Placing.{Outcome, refusal, is_newer_than, is_among, not_gone, check_place_at, check_place, with_taken, taken_on, place}
use Rattle.dx_spec.specs.Step.{fail_as}
use Rattle.dx_node_spec.specs.Events.{outlives, with_cancel, cancel, orders_of, cancel_all, pooled, fed, sweep}
use Rattle.dx_node_spec.specs.Commits.{commit}
use Rattle.dx_speculation.specs.NodeEvents.{NodeEvent, Placing, Cancelling, CancellingAll, Pooling, Feeding, Sweeping, Committing, Replaying, node_of, after}
use Rattle.dx_spec.proofs.Same.{one_order}
use Rattle.dx_speculation.proofs.Outcomes.{cancelled_is, cancels-keep, cancelled_all_is, pooled_is, fed_is, swept_is}
use Rattle.dx_speculation.proofs.Placing.{with_order}
use Rattle.dx_speculation.proofs.Replaying.{taken_node}
use Rattle.dx_speculation.proofs.NodeEvents.{node_has, itself_has, sweep_has, every_event_keeps_faithful}
use Rattle.dx_feed.specs.Lists.{KeepsOrder}
use Rattle.dx_node_spec.specs.Reads.{shown_by}
use Rattle.dx_shown.specs.Laws.{TellsOnlyChanges, ListsNameOnce, ListsMayFollow}
use Rattle.dx_shown.proofs.Newer.{not_newer_than_itself}
use Rattle.dx_shown.proofs.Lists.{has, once_in, IsFiltered, filtered_itself, filtered_more, filtered_keeps_order, one_more_keeps_order}

-- the list of a node keeps the order of that of another one
abbrev Keeps : Node → Node → Type 0
Keeps p q = KeepsOrder (shown_by p) (shown_by q)

-- so it is where the book is a filter of the one before
by_filter : (p q : Node) → HasOnePerId p.book → IsFiltered p.book q.book → Keeps p q
by_filter p q h f = filtered_keeps_order (speculative p) (speculative q) p.book q.book h f

-- an order that may be placed is the newest of its id in the book
newest_in_book : (p : Node) (o : Order) → check_place p o ≡ Ok tt → is_newer_than o (resting p.book o.id) ≡ true
unfolding check_place check_place_at
newest_in_book p o e =
    let s = speculative p in
    let newest = is_newer_than o (resting p.book o.id) && is_newer_than o (get (placed_by p.queue) o.id) in
    let a = unit_passes (fail_as refusal (check_form s.genesis.params (is_kept s o.id.who) (next_height p) o)) _ tt e in
    let b = passes (refusal not_newer) (not newest) _ tt a.1 in
    (and_parts (is_newer_than o (resting p.book o.id)) (is_newer_than o (get (placed_by p.queue) o.id)) (true_from_not newest b.0)).0

-- so the book does not have it as it is
not_had : (book : List Order) (o : Order) → is_newer_than o (resting book o.id) ≡ true → has book o ≡ false
not_had book o e = go (resting book o.id) e
  where
    same : (r : Order) → newer o r ≡ true → (b : Bool) → is_same_order r o ≡ b → is_same_order r o ≡ false
    same r n true f =
        let one : r ≡ o = one_order r o f in
        let self : newer o o ≡ true = ap (newer o) (sym one) ∙ n in
        absurd (let i : false ≡ true = sym (not_newer_than_itself o) ∙ self in cc)
    same r n false f = f

    go : (r : Option Order) → is_newer_than o r ≡ true → option_map_or (λ x. is_same_order x o) r false ≡ false
    go None n = refl
    go (Some r) n = same r n (is_same_order r o) refl

false_from_not : (b : Bool) → not b ≡ true → b ≡ false
false_from_not true e = absurd (let i : false ≡ true = e in cc)
false_from_not false e = refl

-- an order is placed: those that left are gone, and it may stand behind all others
placing-keeps : (p : Node) (o : Order) (q : Node × Outcome) → HasOnePerId p.book → place p o ≡ Ok q → Keeps p q.0
unfolding place
placing-keeps p o q h e =
    let a = unit_passes (check_place p o) (taken_on p o) q e in
    let other = λ (x : Order). not (is_same_id x.id o.id) in
    let no_own : IsFiltered p.book (without p.book o.id) = filtered_more other p.book p.book (filtered_itself p.book) in
    let stays = λ (t : Taken) (x : Order). not (is_among t.gone x) in
    let left = λ (t : Taken). filtered_more (stays t) p.book (without p.book o.id) no_own in
    let apart : AllByRecursion (λ x. is_same_id x.id o.id ≡ false) (without p.book o.id) =
    all_weaker (λ x. other x ≡ true) (λ x. is_same_id x.id o.id ≡ false) (λ x i. false_from_not (is_same_id x.id o.id) i) (without p.book o.id) (all_pass other p.book) in
    let gone = λ (t : Taken). with_taken (record p { book = without p.book o.id }) t in
    taken_node p o q (Keeps p) (λ t. by_filter p (gone t) h (left t))
    (λ t. one_more_keeps_order (speculative p) (speculative (with_order (gone t) o)) p.book (not_gone t.gone (without p.book o.id)) o h (left t)
    (all_filter (λ x. is_same_id x.id o.id ≡ false) (stays t) (without p.book o.id) apart) (not_had p.book o (newest_in_book p o a.0)))
    a.1

-- an id is cancelled
cancel-filters : (p q : Node) (id : OrderId) (until : ℕ) → IsFiltered p.book q.book → IsFiltered p.book (with_cancel q id until).book
cancel-filters p q id until h =
    elim (outlives q.book id until) as (λ b. IsFiltered p.book (cond b (without q.book id) q.book)) [
      | true ↦ filtered_more (λ o. not (is_same_id o.id id)) p.book q.book h
      | false ↦ h
    ]

-- the node stays, or is the one that a good answer has
unless_committed : {A E : Type 0} (P : Node → Type 0) (p : Node) (r : Result (Node × A) E) → P p → IsErr r → P (node_of p r)
unless_committed P p (Ok q) h e = absurd (let i : false ≡ true = e in cc)
unless_committed P p (Err refused) h e = h

in_order : (p : Node) (event : NodeEvent) → HasOnePerId p.book → TellsOnlyChanges p event → Keeps p (after p event)
in_order p (Placing o) h c = node_has (Keeps p) p (place p o) (by_filter p p h (filtered_itself p.book)) (λ q e. placing-keeps p o q h e)
in_order p (Cancelling id until) h c =
    node_has (Keeps p) p (cancel p id until) (by_filter p p h (filtered_itself p.book))
    (λ q e. subst (Keeps p) (cancelled_is p id until q e) (by_filter p (with_cancel p id until) h (cancel-filters p p id until (filtered_itself p.book))))
in_order p (CancellingAll who) h c =
    node_has (Keeps p) p (cancel_all p who) (by_filter p p h (filtered_itself p.book))
    (λ q e. by_filter p q.0 h (subst (λ (n : Node). IsFiltered p.book n.book) (cancelled_all_is p who q e)
    (cancels-keep (λ n. IsFiltered p.book n.book) (λ n id until i. cancel-filters p n id until i) (orders_of p who) p (filtered_itself p.book))))
in_order p (Pooling m) h c =
    itself_has (Keeps p) p (pooled p m) (by_filter p p h (filtered_itself p.book))
    (λ q e. by_filter p q h (subst (λ (n : Node). IsFiltered p.book n.book) (pooled_is p q m e).1 (filtered_itself p.book)))
in_order p (Feeding market price) h c =
    itself_has (Keeps p) p (fed p market price) (by_filter p p h (filtered_itself p.book))
    (λ q e. by_filter p q h (subst (λ (n : Node). IsFiltered p.book n.book) (fed_is p q market price e) (filtered_itself p.book)))
in_order p (Sweeping who) h c =
    sweep_has (Keeps p) p (sweep p who) (by_filter p p h (filtered_itself p.book))
    (λ q e. let s = swept_is p who q e in
    by_filter p q.0 h (subst (λ (n : Node). IsFiltered p.book n.book) s.2 (filtered_more (λ x. not (is_among s.0.gone x)) p.book p.book (filtered_itself p.book))))
in_order p (Committing b) h c = unless_committed (Keeps p) p (commit p b) (by_filter p p h (filtered_itself p.book)) c
in_order p Replaying h c = absurd c

pub lists_name_once : ListsNameOnce
lists_name_once p h = once_in (speculative p) p.book h.one_per_id

pub lists_may_follow : ListsMayFollow
lists_may_follow p event cleared h only = record {
  once = lists_name_once (after p event) (every_event_keeps_faithful p event h);
  in_order = λ e. in_order p event h.one_per_id (only e);
}
