-- No node has an order left to place again behind an event, if none had before it.
use Rattle.std.proofs.Common.{◌≡◌, ℕ, List, Option, Some, None, Result, Ok, Err, refl, subst, ◌∙◌}
use Rattle.dx_types.specs.declared.SubaccountId.{SubaccountId}
use Rattle.dx_types.specs.declared.OrderId.{OrderId}
use Rattle.dx_types.specs.declared.Order.{Order}
use Rattle.dx_types.specs.declared.Msg.{Msg}
use Rattle.dx_types.specs.declared.Block.{Block}
use Rattle.dx_types.specs.declared.Bad.{Bad}
use Rattle.dx_node_spec.specs.Node.{Node}
use Rattle.dx_node_spec.specs.Placing.{place}
use Rattle.dx_node_spec.specs.Events.{fed, pooled, cancel, cancel_all, orders_of, sweep}
use Rattle.dx_node_spec.specs.Commits.{commit, restarted}
use Rattle.dx_speculation.specs.NodeEvents.{NodeEvent, Placing, Cancelling, CancellingAll, Pooling, Feeding, Sweeping, Committing, Replaying, after as node_after}
use Rattle.dx_speculation.proofs.Outcomes.{placed_is_taken, cancelled_is, cancels-keep, cancelled_all_is, pooled_is, fed_is, swept_is}
use Rattle.dx_speculation.proofs.Replaying.{taken_keeps_list, placing_all_empties_list}
use Rattle.dx_speculation.proofs.NodeEvents.{node_has, itself_has, sweep_has}
use Rattle.dx_cluster.specs.Acts.{place_order, cancel_order, cancel_orders, feed_price, pool_message, sweep_account, commit_answer, commit_slot, started}
use Rattle.dx_cluster.specs.World.{IsIdle}
use Rattle.dx_cluster.proofs.Living.{placed_node, cancelled_node, all_cancelled_node, done_node, swept_node}

-- what happens is neither a commit nor a turn of the list
abbrev IsBesideList : NodeEvent → Type 0
IsBesideList (Committing b) = ⊥
IsBesideList Replaying = ⊥
IsBesideList event = Unit {0}

-- then the list stays
list_stays : (p : Node) (event : NodeEvent) → IsBesideList event → (node_after p event).again ≡ p.again
list_stays p (Placing o) n = node_has (λ x. x.again ≡ p.again) p (place p o) refl (λ q e. taken_keeps_list p o q (placed_is_taken p o q e))
list_stays p (Cancelling id until) n = node_has (λ x. x.again ≡ p.again) p (cancel p id until) refl (λ q e. subst (λ (x : Node). x.again ≡ p.again) (cancelled_is p id until q e) refl)
list_stays p (CancellingAll who) n =
    node_has (λ x. x.again ≡ p.again) p (cancel_all p who) refl
    (λ q e. subst (λ (x : Node). x.again ≡ p.again) (cancelled_all_is p who q e) (cancels-keep (λ x. x.again ≡ p.again) (λ x id until h. h) (orders_of p who) p refl))
list_stays p (Pooling m) n = itself_has (λ x. x.again ≡ p.again) p (pooled p m) refl (λ q e. subst (λ (x : Node). x.again ≡ p.again) (pooled_is p q m e).1 refl)
list_stays p (Feeding market price) n = itself_has (λ x. x.again ≡ p.again) p (fed p market price) refl (λ q e. subst (λ (x : Node). x.again ≡ p.again) (fed_is p q market price e) refl)
list_stays p (Sweeping who) n = sweep_has (λ x. x.again ≡ p.again) p (sweep p who) refl (λ q e. subst (λ (x : Node). x.again ≡ p.again) (swept_is p who q e).2 refl)
list_stays p (Committing b) n = absurd n
list_stays p Replaying n = absurd n

pub placing_idle : (o : Order) (p : Node) → IsIdle p → IsIdle (place_order o p).0
placing_idle o p h = subst IsIdle (placed_node p (place p o)) (list_stays p (Placing o) tt ∙ h)

pub cancelling_idle : (id : OrderId) (until : ℕ) (p : Node) → IsIdle p → IsIdle (cancel_order id until p).0
cancelling_idle id until p h = subst IsIdle (cancelled_node p (cancel p id until)) (list_stays p (Cancelling id until) tt ∙ h)

pub all_cancelling_idle : (who : SubaccountId) (p : Node) → IsIdle p → IsIdle (cancel_orders who p).0
all_cancelling_idle who p h = subst IsIdle (all_cancelled_node p (cancel_all p who)) (list_stays p (CancellingAll who) tt ∙ h)

pub feeding_idle : (market price : ℕ) (p : Node) → IsIdle p → IsIdle (feed_price market price p).0
feeding_idle market price p h = subst IsIdle (done_node p (fed p market price)) (list_stays p (Feeding market price) tt ∙ h)

pub pooling_idle : (m : Msg) (p : Node) → IsIdle p → IsIdle (pool_message m p).0
pooling_idle m p h = subst IsIdle (done_node p (pooled p m)) (list_stays p (Pooling m) tt ∙ h)

pub sweeping_idle : (who : SubaccountId) (p : Node) → IsIdle p → IsIdle (sweep_account who p).0
sweeping_idle who p h = subst IsIdle (swept_node p (sweep p who)) (list_stays p (Sweeping who) tt ∙ h)

-- a commit places its whole list
commit_idle : (p : Node) (b : Block) (r : Result (Node × List ℕ) Bad) → IsIdle p → IsIdle (commit_answer p b r).0
commit_idle p b (Ok q) h = placing_all_empties_list q.0
commit_idle p b (Err bad) h = h

pub committing_idle : (o : Option Block) (p : Node) → IsIdle p → IsIdle (commit_slot o p).0
committing_idle None p h = h
committing_idle (Some b) p h = commit_idle p b (commit p b) h

-- a start places its whole list
pub started_idle : (p : Node) (blocks : List Block) → IsIdle (started p blocks)
started_idle p blocks = placing_all_empties_list (restarted p blocks)
