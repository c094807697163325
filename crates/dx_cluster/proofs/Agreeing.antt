-- Worlds with the same committed states and slots give the same replies about these.
use Rattle.std.proofs.Common.{◌≡◌, ℕ, zero, suc, List, [], ◌∷◌, ◌++◌, map, refl, sym, ap, subst, ◌∙◌, Option, Some, None, Ok}
use Rattle.std.specs.Prelude.{slice_get, All, IsTrue, false}
use Rattle.std.specs.FinMap.{get, insert}
use Rattle.dx_types.specs.declared.SubaccountId.{SubaccountId}
use Rattle.dx_types.specs.declared.OrderId.{OrderId}
use Rattle.dx_types.specs.declared.Block.{Block}
use Rattle.dx_spec.specs.State.{State, filled_of}
use Rattle.dx_spec.specs.Blocks.{block_step}
use Rattle.dx_spec.specs.Audits.{audit}
use Rattle.dx_io.specs.Rows.{Rows}
use Rattle.dx_snapshot.specs.Snapshots.{state_digest}
use Rattle.dx_history.proofs.Starting.{chain_read}
use Rattle.dx_node_spec.specs.Node.{Node, committed}
use Rattle.dx_node_spec.specs.Commits.{restarted}
use Rattle.dx_speculation.proofs.Committing.{restarted_is}
use Rattle.dx_scenario.specs.declared.event.Event.{Event}
use Rattle.dx_scenario.specs.declared.event.Event.TheVariants as events
use Rattle.dx_print.specs.declared.words.Word.{Word}
use Rattle.dx_print.specs.declared.words.Word.TheVariants as words
use Rattle.dx_print.specs.declared.answer.Answer.{Answer}
use Rattle.dx_print.specs.declared.answer.Answer.TheVariants as answers
use Rattle.dx_cluster.specs.Stored.{Stored}
use Rattle.dx_cluster.specs.Acts.{height_of, check_answer, check_slot, commit_slot, balance_answer, tell_balance, tell_filled, tell_audit, tell_digest, tell_waits, waits_answer, show_slot, started}
use Rattle.dx_cluster.specs.Snapshots.{Turn, restarted_by, restart_node}
use Rattle.dx_cluster.specs.World.{World, node_acts, act_at, node_snaps, turned, node_turns, replied, step}
use Rattle.dx_cluster.specs.Laws.{IsFoldFrom, IsOwn, states_after, is_of_committed, is_start, AreAlike, StepsAgree, committed_amount, CommittedRepliesAgree}
use Rattle.dx_cluster.proofs.Everywhere.{all_at}
use Rattle.dx_cluster.proofs.Living.{started_folds}
use Rattle.dx_cluster.proofs.Keeping.{only_commits_count, state_same}
use Rattle.dx_cluster.proofs.AgreeingInRows.{commit_says, said, rows_are_told}

-- two nodes, where both are there, have the same committed state
abbrev SameState : Option Node → Option Node → Type 0
SameState None None = Unit {0}
SameState (Some p) (Some q) = committed p ≡ committed q
SameState None (Some q) = ⊥
SameState (Some p) None = ⊥

same_state : (ps qs : List Node) (n : ℕ) → map committed ps ≡ map committed qs → SameState (slice_get ps n) (slice_get qs n)
same_state [] [] n e = tt
same_state [] (q ∷ qs) n e = absurd (cc)
same_state (p ∷ ps) [] n e = absurd (cc)
same_state (p ∷ ps) (q ∷ qs) zero e = let h : committed p ≡ committed q = cc in h
same_state (p ∷ ps) (q ∷ qs) (suc n) e = let t : map committed ps ≡ map committed qs = cc in same_state ps qs n t

same_at : (w v : World) (node : ℕ) → AreAlike w v → SameState (slice_get w.nodes node) (slice_get v.nodes node)
same_at w v node a = same_state w.nodes v.nodes node a.states

-- ---- what is answered

-- what a node answers comes from its committed state
abbrev IsOfState : (Node → Node × Answer) → Type 0
IsOfState act = (p q : Node) → committed p ≡ committed q → (act p).1 ≡ (act q).1

same_answer : (w v : World) (o u : Option Node) (node : ℕ) (act : Node → Node × Answer) → SameState o u → IsOfState act → (node_acts w o node act).1 ≡ (node_acts v u node act).1
same_answer w v None None node act h k = refl
same_answer w v (Some p) (Some q) node act h k = k p q h
same_answer w v None (Some q) node act h k = absurd h
same_answer w v (Some p) None node act h k = absurd h

answers_agree : (w v : World) (node : ℕ) (act : Node → Node × Answer) → AreAlike w v → IsOfState act → (act_at w node act).1 ≡ (act_at v node act).1
answers_agree w v node act a k = same_answer w v (slice_get w.nodes node) (slice_get v.nodes node) node act (same_at w v node a) k

of_check : (o : Option Block) → IsOfState (check_slot o)
of_check None = λ p q e. refl
of_check (Some b) = λ p q e. ap (λ (s : State). check_answer (block_step s b)) e

of_commit : (o : Option Block) → IsOfState (commit_slot o)
of_commit None = λ p q e. refl
of_commit (Some b) = λ p q e. commit_says p b ∙ ap (λ (s : State). said b (block_step s b)) e ∙ sym (commit_says q b)

of_balance : (who : SubaccountId) → IsOfState (tell_balance who)
of_balance who = λ p q e. ap (λ (s : State). balance_answer s.clock.height (get s.accounts who)) e

of_audit : IsOfState tell_audit
of_audit = λ p q e. ap (λ (s : State). answers.Audit (audit s)) e

of_digest : IsOfState tell_digest
of_digest = λ p q e. ap (λ (s : State). answers.Digest s.clock.height (state_digest s)) e

of_waits : (id : OrderId) → IsOfState (tell_waits id)
of_waits id = λ p q e. ap (λ (s : State). waits_answer (get s.waiting id)) e

snaps_told : (w v : World) (o u : Option Node) → SameState o u → (node_snaps w o).1 ≡ (node_snaps v u).1
snaps_told w v None None h = refl
snaps_told w v (Some p) (Some q) h = of_digest p q h
snaps_told w v None (Some q) h = absurd h
snaps_told w v (Some p) None h = absurd h

-- ---- slots

-- the blocks of both worlds' slots are the same
slots_agree : (w v : World) (slot : ℕ) → AreAlike w v → get w.slots slot ≡ get v.slots slot
slots_agree w v slot a = ap (λ (m : Stored). get m slot) a.slots

-- a node's act leaves the slots
slots_stay : (w : World) (o : Option Node) (node : ℕ) (act : Node → Node × Answer) → (node_acts w o node act).0.slots ≡ w.slots
slots_stay w None node act = refl
slots_stay w (Some p) node act = refl

both_stay : (w v : World) (node : ℕ) (act other : Node → Node × Answer) → AreAlike w v → (act_at w node act).0.slots ≡ (act_at v node other).0.slots
both_stay w v node act other a = slots_stay w (slice_get w.nodes node) node act ∙ a.slots ∙ sym (slots_stay v (slice_get v.nodes node) node other)

snap_slots : (w : World) (o : Option Node) → (node_snaps w o).0.slots ≡ w.slots
snap_slots w None = refl
snap_slots w (Some p) = refl

-- ---- no node is started

-- alike worlds stay so at an event that leaves both slots the same
alike_by : (w v : World) (event : Event) (x y : World) → map committed x.nodes ≡ states_after (map committed w.nodes) w.slots event → map committed y.nodes ≡ states_after (map committed v.nodes) v.slots event
    → AreAlike w v → x.slots ≡ y.slots → AreAlike x y
alike_by w v event x y h k a slots = record {
  states = h
      ∙ ap (λ (ss : List State). states_after ss w.slots event) a.states
      ∙ ap (λ (m : Stored). states_after (map committed v.nodes) m event) a.slots
      ∙ sym k;
  slots = slots;
}

-- so they agree where the answers do
agree_by : (w v : World) (event : Event) (word : Word) (r q : World × Answer) → map committed r.0.nodes ≡ states_after (map committed w.nodes) w.slots event → map committed q.0.nodes ≡ states_after (map committed v.nodes) v.slots event
    → AreAlike w v → r.0.slots ≡ q.0.slots → r.1 ≡ q.1 → StepsAgree AreAlike (λ one other. one ≡ other) (replied word (Ok r)) (replied word (Ok q))
agree_by w v event word r q h k a slots e = (ap (λ (x : Answer). record { word = word; answer = x }) e, alike_by w v event r.0 q.0 h k a slots)

events_agree : (w v : World) (event : Event) → All IsFoldFrom w.nodes → All IsFoldFrom v.nodes → AreAlike w v → IsTrue (is_of_committed event) → is_start event ≡ false
    → StepsAgree AreAlike (λ one other. one ≡ other) (step w event) (step v event)
events_agree w v (events.Handed slot b) h k a t n = (refl, record { states = a.states; slots = ap (λ (m : Stored). insert m slot b) a.slots })
events_agree w v (events.Show slot) h k a t n = (ap (λ (o : Option Block). record { word = words.Show; answer = show_slot o }) (slots_agree w v slot a), a)
events_agree w v (events.Check node slot) h k a t n =
    let event = events.Check node slot in
    let one = act_at w node (check_slot (get w.slots slot)) in
    let other = act_at v node (check_slot (get v.slots slot)) in
    agree_by w v event words.Check one other (only_commits_count.0 w event h refl) (only_commits_count.0 v event k refl) a
    (both_stay w v node (check_slot (get w.slots slot)) (check_slot (get v.slots slot)) a)
    (answers_agree w v node (check_slot (get w.slots slot)) a (of_check (get w.slots slot)) ∙ ap (λ (o : Option Block). (act_at v node (check_slot o)).1) (slots_agree w v slot a))
events_agree w v (events.Commit node slot) h k a t n =
    let event = events.Commit node slot in
    agree_by w v event words.Commit _ _ (only_commits_count.0 w event h refl) (only_commits_count.0 v event k refl) a
    (both_stay w v node (commit_slot (get w.slots slot)) (commit_slot (get v.slots slot)) a)
    (answers_agree w v node (commit_slot (get w.slots slot)) a (of_commit (get w.slots slot)) ∙ ap (λ (o : Option Block). (act_at v node (commit_slot o)).1) (slots_agree w v slot a))
events_agree w v (events.Balance node who) h k a t n =
    let event = events.Balance node who in
    agree_by w v event words.Balance (act_at w node (tell_balance who)) (act_at v node (tell_balance who)) (only_commits_count.0 w event h refl) (only_commits_count.0 v event k refl) a
    (both_stay w v node (tell_balance who) (tell_balance who) a) (answers_agree w v node (tell_balance who) a (of_balance who))
events_agree w v (events.Audit node) h k a t n =
    let event = events.Audit node in
    agree_by w v event words.Audit (act_at w node tell_audit) (act_at v node tell_audit) (only_commits_count.0 w event h refl) (only_commits_count.0 v event k refl) a
    (both_stay w v node tell_audit tell_audit a) (answers_agree w v node tell_audit a of_audit)
events_agree w v (events.Digest node) h k a t n =
    let event = events.Digest node in
    agree_by w v event words.Digest (act_at w node tell_digest) (act_at v node tell_digest) (only_commits_count.0 w event h refl) (only_commits_count.0 v event k refl) a
    (both_stay w v node tell_digest tell_digest a) (answers_agree w v node tell_digest a of_digest)
events_agree w v (events.Waits node id) h k a t n =
    let event = events.Waits node id in
    agree_by w v event words.Waits (act_at w node (tell_waits id)) (act_at v node (tell_waits id)) (only_commits_count.0 w event h refl) (only_commits_count.0 v event k refl) a
    (both_stay w v node (tell_waits id) (tell_waits id) a) (answers_agree w v node (tell_waits id) a (of_waits id))
events_agree w v (events.Snap node) h k a t n =
    let event = events.Snap node in
    agree_by w v event words.Snap (node_snaps w (slice_get w.nodes node)) (node_snaps v (slice_get v.nodes node)) (only_commits_count.0 w event h refl) (only_commits_count.0 v event k refl) a
    (snap_slots w (slice_get w.nodes node) ∙ a.slots ∙ sym (snap_slots v (slice_get v.nodes node))) (snaps_told w v (slice_get w.nodes node) (slice_get v.nodes node) (same_at w v node a))
events_agree w v (events.Restart node) h k a t n = absurd (cc)
events_agree w v (events.Resume node height) h k a t n = absurd (cc)
events_agree w v event h k a t n = absurd (cc)

-- the committed amount that a node tells of an order
same_amount : (w v : World) (o u : Option Node) (node : ℕ) (id : OrderId) → SameState o u → committed_amount (node_acts w o node (tell_filled id)).1 ≡ committed_amount (node_acts v u node (tell_filled id)).1
same_amount w v None None node id h = refl
same_amount w v (Some p) (Some q) node id h = ap (λ (s : State). Some (filled_of s id)) h
same_amount w v None (Some q) node id h = absurd h
same_amount w v (Some p) None node id h = absurd h

-- ---- a node starts anew from its own chain

record RestartsAs (rows : Rows) (p : Node) : Type 0 where
  told : Node × Answer
  is : restart_node rows p ≡ Ok told
  state : committed told.0 ≡ committed p
  answer : told.1 ≡ answers.Done (Some (height_of p))

own_restart : (rows : Rows) (p : Node) → IsOwn rows p → RestartsAs rows p
own_restart rows p h =
    let all = h.first ++ p.blocks in
    record {
      told = (started p all, answers.Done (Some (height_of (restarted p all))));
      is = ap (restarted_by p) (chain_read rows p.number p.genesis all h.chain);
      state = (started_folds p all (committed p) h.folded).1;
      answer = ap (λ (s : State). answers.Done (Some s.clock.height)) (restarted_is p all (committed p) h.folded);
    }

turned_agree : (w v : World) (node : ℕ) (p q : Node) (t u : Turn) (r s : Node × Answer) → t ≡ Ok r → u ≡ Ok s → slice_get w.nodes node ≡ Some p → slice_get v.nodes node ≡ Some q
    → committed r.0 ≡ committed p → committed s.0 ≡ committed q → AreAlike w v → r.1 ≡ s.1
    → StepsAgree AreAlike (λ one other. one ≡ other) (replied words.Restart (turned w node t)) (replied words.Restart (turned v node u))
turned_agree w v node p q t u r s e f at there h k a same =
    subst (λ (x : Turn). StepsAgree AreAlike (λ one other. one ≡ other) (replied words.Restart (turned w node x)) (replied words.Restart (turned v node u))) (sym e)
    (subst (λ (y : Turn). StepsAgree AreAlike (λ one other. one ≡ other) (replied words.Restart (turned w node (Ok r))) (replied words.Restart (turned v node y))) (sym f) (
      ap (λ (x : Answer). record { word = words.Restart; answer = x }) same,
      record { states = state_same w.nodes node p r.0 at h ∙ a.states ∙ sym (state_same v.nodes node q s.0 there k); slots = a.slots },
    ))

restarts_agree : (w v : World) (o u : Option Node) (node : ℕ) → slice_get w.nodes node ≡ o → slice_get v.nodes node ≡ u → All (IsOwn w.rows) w.nodes → All (IsOwn v.rows) v.nodes → AreAlike w v → SameState o u
    → StepsAgree AreAlike (λ one other. one ≡ other) (replied words.Restart (node_turns w o node restart_node)) (replied words.Restart (node_turns v u node restart_node))
restarts_agree w v None None node d e h k a s = (refl, a)
restarts_agree w v (Some p) (Some q) node d e h k a s =
    let one = own_restart w.rows p (all_at (IsOwn w.rows) w.nodes node p d h) in
    let other = own_restart v.rows q (all_at (IsOwn v.rows) v.nodes node q e k) in
    turned_agree w v node p q (restart_node w.rows p) (restart_node v.rows q) one.told other.told one.is other.is d e one.state other.state a
    (one.answer ∙ ap (λ (x : State). answers.Done (Some x.clock.height)) s ∙ sym other.answer)
restarts_agree w v None (Some q) node d e h k a s = absurd s
restarts_agree w v (Some p) None node d e h k a s = absurd s

-- alike worlds agree on what is committed
pub committed_replies_agree : CommittedRepliesAgree
committed_replies_agree w v h k a = (
  (
    λ event t n. events_agree w v event h k a t n,
    λ node id. (
      same_amount w v (slice_get w.nodes node) (slice_get v.nodes node) node id (same_at w v node a),
      alike_by w v (events.Filled node id) (act_at w node (tell_filled id)).0 (act_at v node (tell_filled id)).0 (only_commits_count.0 w (events.Filled node id) h refl) (only_commits_count.0 v (events.Filled node id) k refl) a
          (both_stay w v node (tell_filled id) (tell_filled id) a),
    ),
  ),
  λ rows. rows_are_told w v h k rows,
  λ own other node. restarts_agree w v (slice_get w.nodes node) (slice_get v.nodes node) node refl refl own other a (same_at w v node a),
)
