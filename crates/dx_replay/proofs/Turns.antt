-- The list to place again, from one id and one message to the next.
use Rattle.std.proofs.Common.{◌≡◌, ℕ, suc, ◌+◌, ◌<◌, ◌≤◌, Bool, true, false, cond, Option, None, Some, List, [], ◌∷◌, ◌++◌, filter, get_or, drop, length, Result, Ok, Err, OnOk, is_ok, refl, sym, ap, ◌∙◌, arith}
use Rattle.std.specs.Prelude.{slice_get}
use Rattle.std.specs.List.{list_any, filter_map, cons_option, zip}
use Rattle.std.proofs.lemmas.List.{drop_all}
use Rattle.std.proofs.lemmas.Option.{slice_get-get_or}
use Rattle.dx_types.specs.declared.OrderId.{OrderId}
use Rattle.dx_types.specs.declared.Order.{Order}
use Rattle.dx_types.specs.declared.Op.{Op}
use Rattle.dx_types.specs.declared.Msg.{Msg}
use Rattle.dx_spec.specs.State.{State}
use Rattle.dx_spec.specs.Orders.{is_same_id}
use Rattle.dx_node_spec.specs.Queue.{named_by}
use Rattle.dx_node_spec.specs.Node.{Node}
use Rattle.dx_node_spec.specs.Commits.{holds_as_is, placed_by_message, with_new, triggered_orders, again_after}
use Rattle.dx_book.proofs.Walks.{from_place, none_behind}
use Rattle.dx_replay.specs.Parts.{again_of, if_held, newly, new_orders}

-- one id more
pub next_mentioned : (f : OrderId → Option Order) (ids : List OrderId) (k : ℕ) (id : OrderId) (found : Option Order) (before after whole : List Order) → slice_get ids k ≡ Some id → found ≡ f id
    → after ++ filter_map f (drop (k + 1) ids) ≡ before ++ cons_option found (filter_map f (drop (k + 1) ids))
    → before ++ filter_map f (drop k ids) ≡ whole → after ++ filter_map f (drop (k + 1) ids) ≡ whole
next_mentioned f ids k id found before after whole e i h made =
    let one_on : k + 1 ≡ suc k = omega arith in
    h
    ∙ ap (λ r. before ++ cons_option r (filter_map f (drop (k + 1) ids))) i
    ∙ ap (λ n. before ++ cons_option (f id) (filter_map f (drop n ids))) one_on
    ∙ ap (λ l. before ++ filter_map f l) (sym (from_place ids k id e))
    ∙ made

-- the orders of a message, and of those behind it
next_new : (s : State) (m : Msg) (ms : List Msg) (code : ℕ) (codes : List ℕ) → new_orders s (m ∷ ms) (code ∷ codes) ≡ cons_option (newly s m code) (new_orders s ms codes)
unfolding new_orders
next_new s m ms code codes = go (placed_by_message (m, code))
  where
    either : (b : Bool) (o : Order) (os : List Order) → cond b (o ∷ os) os ≡ cons_option (cond b (Some o) None) os
    either true o os = refl
    either false o os = refl

    go : (r : Option Order) → filter (holds_as_is s) (cons_option r (filter_map placed_by_message (zip ms codes))) ≡ cons_option (if_held s r) (filter (holds_as_is s) (filter_map placed_by_message (zip ms codes)))
    go None = refl
    go (Some o) = either (holds_as_is s o) o (filter (holds_as_is s) (filter_map placed_by_message (zip ms codes)))

no_messages : (s : State) (codes : List ℕ) → new_orders s [] codes ≡ []
unfolding new_orders
no_messages s codes = refl

no_results : (s : State) (ms : List Msg) → new_orders s ms [] ≡ []
unfolding new_orders
no_results s [] = refl
no_results s (m ∷ ms) = refl

-- one message more
next_after : (s : State) (ms : List Msg) (codes : List ℕ) (k : ℕ) (m : Msg) (code : ℕ) (found : Option Order) (before after whole : List Order)
    → slice_get ms k ≡ Some m → slice_get codes k ≡ Some code → found ≡ newly s m code
    → with_new after (new_orders s (drop (k + 1) ms) (drop (k + 1) codes)) ≡ with_new before (cons_option found (new_orders s (drop (k + 1) ms) (drop (k + 1) codes)))
    → with_new before (new_orders s (drop k ms) (drop k codes)) ≡ whole
    → with_new after (new_orders s (drop (k + 1) ms) (drop (k + 1) codes)) ≡ whole
next_after s ms codes k m code found before after whole e f i h made =
    let one_on : k + 1 ≡ suc k = omega arith in
    h
    ∙ ap (λ r. with_new before (cons_option r (new_orders s (drop (k + 1) ms) (drop (k + 1) codes)))) i
    ∙ ap (λ n. with_new before (cons_option (newly s m code) (new_orders s (drop n ms) (drop n codes)))) one_on
    ∙ ap (with_new before) (sym (next_new s m (drop (suc k) ms) code (drop (suc k) codes)))
    ∙ ap (λ l. with_new before (new_orders s l (code ∷ drop (suc k) codes))) (sym (from_place ms k m e))
    ∙ ap (λ l. with_new before (new_orders s (drop k ms) l)) (sym (from_place codes k code f))
    ∙ made

pub next_placed : (s : State) (ms : List Msg) (codes : List ℕ) (k : ℕ) (d : Msg) (code : ℕ) (found : Option Order) (result : Option ℕ) (before after whole : List Order)
    → k < length ms → result ≡ slice_get codes k → result ≡ Some code → found ≡ newly s (get_or ms k d) code
    → with_new after (new_orders s (drop (k + 1) ms) (drop (k + 1) codes)) ≡ with_new before (cons_option found (new_orders s (drop (k + 1) ms) (drop (k + 1) codes)))
    → with_new before (new_orders s (drop k ms) (drop k codes)) ≡ whole
    → with_new after (new_orders s (drop (k + 1) ms) (drop (k + 1) codes)) ≡ whole
next_placed s ms codes k d code found result before after whole l e f i h made =
    next_after s ms codes k (get_or ms k d) code found before after whole (slice_get-get_or ms k d l) (sym e ∙ f) i h made

-- without a result the list is whole
pub results_end : (s : State) (ms : List Msg) (codes : List ℕ) (k : ℕ) (list whole : List Order) → None ≡ slice_get codes k
    → with_new list (new_orders s (drop k ms) (drop k codes)) ≡ whole → list ≡ whole
results_end s ms codes k list whole e made =
    ap (with_new list) (sym (ap (new_orders s (drop k ms)) (none_behind codes k e) ∙ no_results s (drop k ms))) ∙ made

-- and so it is behind the last message
pub messages_end : (s : State) (ms : List Msg) (codes : List ℕ) (k : ℕ) (list whole : List Order) → length ms ≤ k
    → with_new list (new_orders s (drop k ms) (drop k codes)) ≡ whole → list ≡ whole
messages_end s ms codes k list whole h made =
    ap (with_new list) (sym (ap (λ l. new_orders s l (drop k codes)) (drop_all k ms h) ∙ no_messages s (drop k codes))) ∙ made

-- the parts of a node make its list
list_of : (p : Node) (after : State) (msgs : List Msg) (results : List ℕ) (triggered : List OrderId)
    → with_new (with_new (filter_map (again_of p.queue p.book after) (named_by p.queue)) (new_orders after msgs results)) (triggered_orders after triggered)
    ≡ again_after p after msgs results triggered
unfolding again_after new_orders
list_of p after msgs results triggered = refl

-- the orders that a queue mentions, and those that messages placed behind them
placed_is : (queue : List Op) (book : List Order) (after : State) (msgs same_msgs : List Msg) (results same_results : List ℕ) (first placed : List Order)
    → first ≡ filter_map (again_of queue book after) (named_by queue) → same_msgs ≡ msgs → same_results ≡ results → placed ≡ with_new first (new_orders after same_msgs same_results)
    → (p : Node) → p.queue ≡ queue → p.book ≡ book → placed ≡ with_new (filter_map (again_of p.queue p.book after) (named_by p.queue)) (new_orders after msgs results)
placed_is queue book after msgs same_msgs results same_results first placed e m r h p q b =
    h
    ∙ ap (λ l. with_new l (new_orders after same_msgs same_results)) e
    ∙ ap (λ l. with_new (filter_map (again_of queue book after) (named_by queue)) (new_orders after l same_results)) m
    ∙ ap (λ l. with_new (filter_map (again_of queue book after) (named_by queue)) (new_orders after msgs l)) r
    ∙ ap (λ l. with_new (filter_map (again_of l book after) (named_by l)) (new_orders after msgs results)) (sym q)
    ∙ ap (λ l. with_new (filter_map (again_of p.queue l after) (named_by p.queue)) (new_orders after msgs results)) (sym b)

pub list_is : (queue : List Op) (book : List Order) (after : State) (msgs same_msgs : List Msg) (results same_results : List ℕ) (triggered same_triggered : List OrderId) (first placed list : List Order)
    → first ≡ filter_map (again_of queue book after) (named_by queue) → same_msgs ≡ msgs → same_results ≡ results → placed ≡ with_new first (new_orders after same_msgs same_results)
    → same_triggered ≡ triggered → list ≡ with_new placed (triggered_orders after same_triggered)
    → (p : Node) → p.queue ≡ queue → p.book ≡ book → list ≡ again_after p after msgs results triggered
list_is queue book after msgs same_msgs results same_results triggered same_triggered first placed list e m r h t i p q b =
    i
    ∙ ap (λ l. with_new placed (triggered_orders after l)) t
    ∙ ap (λ l. with_new l (triggered_orders after triggered)) (placed_is queue book after msgs same_msgs results same_results first placed e m r h p q b)
    ∙ list_of p after msgs results triggered

-- an order whose id the list names adds nothing
pub named_already : (list same : List Order) (found : Option Order) (o : Order) (listed : Bool) → found ≡ Some o → listed ≡ list_any (λ p. is_same_id p.id o.id) same → listed ≡ true → same ≡ list
    → (rest : List Order) → with_new list rest ≡ with_new list (cons_option found rest)
named_already list same found o listed f e t i rest =
    let there : list_any (λ p. is_same_id p.id o.id) list ≡ true = ap (list_any (λ p. is_same_id p.id o.id)) (sym i) ∙ sym e ∙ t in
    sym (ap (λ r. with_new list (cons_option r rest)) f ∙ ap (λ b. cond b (with_new list rest) (with_new (list ++ o ∷ []) rest)) there)

-- and any other is the last
pub named_anew : {E : Type 0} (list same after : List Order) (found : Option Order) (o : Order) (listed : Bool) (r : Result (Unit {0}) E) → found ≡ Some o
    → listed ≡ list_any (λ p. is_same_id p.id o.id) same → listed ≡ false → same ≡ list → after ≡ cond (is_ok r) (list ++ o ∷ []) list
    → (rest : List Order) → OnOk r (with_new after rest ≡ with_new list (cons_option found rest))
named_anew list same after found o listed (Ok u) f e t i j rest =
    let there : list_any (λ p. is_same_id p.id o.id) list ≡ false = ap (list_any (λ p. is_same_id p.id o.id)) (sym i) ∙ sym e ∙ t in
    ap (λ l. with_new l rest) j ∙ sym (ap (λ r. with_new list (cons_option r rest)) f ∙ ap (λ b. cond b (with_new list rest) (with_new (list ++ o ∷ []) rest)) there)
named_anew list same after found o listed (Err x) f e t i j rest = tt
