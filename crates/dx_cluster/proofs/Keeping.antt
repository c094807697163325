-- What stays so of the nodes whatever happens.
use Rattle.std.proofs.Common.{◌≡◌, ℕ, zero, suc, true, false, List, [], ◌∷◌, ◌++◌, take, drop, map, refl, subst, sym, ap, ◌∙◌, Option, Some, None, Result, Ok, Err}
use Rattle.std.specs.Prelude.{slice_get, slice_set, IfOk, All}
use Rattle.std.specs.FinMap.{get}
use Rattle.std.specs.List.{AllZip}
use Rattle.dx_types.specs.declared.Block.{Block}
use Rattle.dx_types.specs.declared.Genesis.{Genesis}
use Rattle.dx_spec.specs.Lists.{changed_at}
use Rattle.dx_spec.specs.State.{State, genesis_state}
use Rattle.dx_spec.specs.Blocks.{fold_from, fold_blocks}
use Rattle.dx_spec.specs.Genesis.{IsGenesis}
use Rattle.dx_io.specs.Rows.{Rows}
use Rattle.dx_laws.proofs.Auditing.{balance_shown}
use Rattle.dx_history.specs.Chains.{Unkept, IsChain}
use Rattle.dx_history.proofs.Starting.{chain_read}
use Rattle.dx_snapshot.specs.Snapshots.{Unread, snapshot_at}
use Rattle.dx_spec.proofs.Folds.{fold_on}
use Rattle.dx_node.specs.Resumes.{Unresumed, resumable}
use Rattle.dx_node.proofs.Resumed.{chain_resumed}
use Rattle.dx_speculation.proofs.Roots.{other_events_keep_blocks}
use Rattle.std.proofs.lemmas.List.{take-append-drop}
use Rattle.std.proofs.lemmas.List.Elements.{All-weaker}
use Rattle.dx_node_spec.specs.Node.{Node, committed}
use Rattle.dx_node_spec.specs.Placing.{Refusal, place}
use Rattle.dx_node_spec.specs.Events.{fed, pooled, cancel, cancel_all, sweep}
use Rattle.dx_speculation.specs.NodeEvents.{NodeEvent, Placing, Cancelling, CancellingAll, Pooling, Feeding, Sweeping, IsNoCommit, after as node_after}
use Rattle.dx_node_spec.specs.Proposals.{propose}
use Rattle.dx_scenario.specs.declared.event.Event.{Event}
use Rattle.dx_scenario.specs.declared.event.Event.TheVariants as events
use Rattle.dx_print.specs.declared.answer.Answer.{Answer}
use Rattle.dx_print.specs.declared.replies.Reply.{Reply}
use Rattle.dx_spec.proofs.Scripts.{stage_passes}
use Rattle.dx_spec.proofs.Steps.{ok_same}
use Rattle.dx_cluster.specs.Acts.{place_order, cancel_order, cancel_orders, feed_price, pool_message, sweep_account, check_slot, commit_slot, tell_balance, tell_speculative, tell_filled, tell_best, tell_audit, tell_digest, tell_waits}
use Rattle.dx_cluster.specs.Snapshots.{Turn, restarted_by, restart_node, resumed_by, from_snapshot, resume_node}
use Rattle.dx_cluster.specs.World.{World, opened, node_acts, put_proposal, node_proposes, node_snaps, turned, node_turns, replied, step}
use Rattle.dx_print.specs.declared.words.Word.{Word}
use Rattle.dx_print.specs.declared.words.Word.TheVariants as words
use Rattle.dx_cluster.specs.Laws.{IsFold, IsFoldFrom, is_resume, is_start, OwnSnapshots, IsOwn, IsNodeOf, GoesOn, AreCounted, FoldsStayGood, FoldsGoOn, after_block, OnlyCommitsCount, after, IsReached, IsInBalance, StatesBalance, NodesAreInOrder, PlacingsStopByRisk, ProposalsAreGood}
use Rattle.dx_cluster.proofs.Everywhere.{all_at, all_along, zip_same, zip_set}
use Rattle.dx_cluster.proofs.Chains.{chain_folds}
use Rattle.dx_cluster.proofs.Opening.{opened_all}
use Rattle.dx_cluster.proofs.Living.{folds_by, placed_node, cancelled_node, all_cancelled_node, done_node, swept_node, committing_folds, restarting_folds, new_started_folds, if_ok, started_folds, gone_on_state, from_genesis, from_by, committing_state, committing_from, restarting_from, resuming_from, Lives, lives_by, committing_lives, restarting_lives, resuming_lives, new_started_lives, in_order, stops_by_risk, proposes_good}

-- a proposal changes no node
put_nodes : (w : World) (slot : ℕ) (r : Result Block Refusal) → (put_proposal w slot r).0.nodes ≡ w.nodes
put_nodes w slot (Ok b) = refl
put_nodes w slot (Err cause) = refl

pub propose_nodes : (w : World) (o : Option Node) (slot time : ℕ) → (node_proposes w o slot time).0.nodes ≡ w.nodes
propose_nodes w None slot time = refl
propose_nodes w (Some p) slot time = put_nodes w slot (propose p time)

-- nor does a snapshot
pub snap_nodes : (w : World) (o : Option Node) → (node_snaps w o).0.nodes ≡ w.nodes
snap_nodes w None = refl
snap_nodes w (Some p) = refl

-- what follows of a turn where something is so
under : (t : Turn) (X : Type 0) (P : Node → Type 0) → (X → IfOk t (λ r. P r.0)) → IfOk t (λ r. X → P r.0)
under (Ok r) X P f = f
under (Err unkept) X P f = tt

-- nothing but a commit, a restart or a resume
module _ (R : Node → Node → Type 0) (same : (p : Node) → R p p) where
  acted_at : (w : World) (node : ℕ) (act : Node → Node × Answer) (o : Option Node) → slice_get w.nodes node ≡ o → ((p : Node) → R p (act p).0) → AllZip R w.nodes (node_acts w o node act).0.nodes
  acted_at w node act None e a = zip_same R same w.nodes
  acted_at w node act (Some p) e a = zip_set R same w.nodes node p (act p).0 e (a p)

  turned_at : (w : World) (node : ℕ) (turn : Rows → Node → Turn) (word : Word) (o : Option Node) → slice_get w.nodes node ≡ o → ((p : Node) → IfOk (turn w.rows p) (λ r. R p r.0))
      → IfOk (replied word (node_turns w o node turn)) (λ r. AllZip R w.nodes r.0.nodes)
  turned_at w node turn word None e a = zip_same R same w.nodes
  turned_at w node turn word (Some p) e a = go (turn w.rows p) (a p)
    where
      go : (t : Turn) → IfOk t (λ r. R p r.0) → IfOk (replied word (turned w node t)) (λ r. AllZip R w.nodes r.0.nodes)
      go (Ok r) h = zip_set R same w.nodes node p r.0 e h
      go (Err unkept) h = tt

  -- what everything that happens at a node leaves of it, every event leaves of each node
  pub stepped : ((p : Node) (event : NodeEvent) → IsNoCommit event → R p (node_after p event)) → (w : World) (event : Event)
      → ((node slot : ℕ) → event ≡ events.Commit node slot → (p : Node) → R p (commit_slot (get w.slots slot) p).0)
      → ((node : ℕ) → event ≡ events.Restart node → (p : Node) → IfOk (restart_node w.rows p) (λ r. R p r.0))
      → ((node height : ℕ) → event ≡ events.Resume node height → (p : Node) → IfOk (resume_node height w.rows p) (λ r. R p r.0))
      → IfOk (step w event) (λ r. AllZip R w.nodes r.0.nodes)
  stepped left w (events.Place node order) committed restarted resumed = acted_at w node (place_order order) (slice_get w.nodes node) refl (λ p. subst (R p) (placed_node p (place p order)) (left p (Placing order) tt))
  stepped left w (events.Cancel node id until) committed restarted resumed = acted_at w node (cancel_order id until) (slice_get w.nodes node) refl (λ p. subst (R p) (cancelled_node p (cancel p id until)) (left p (Cancelling id until) tt))
  stepped left w (events.CancelAll node who) committed restarted resumed = acted_at w node (cancel_orders who) (slice_get w.nodes node) refl (λ p. subst (R p) (all_cancelled_node p (cancel_all p who)) (left p (CancellingAll who) tt))
  stepped left w (events.Feed node market price) committed restarted resumed = acted_at w node (feed_price market price) (slice_get w.nodes node) refl (λ p. subst (R p) (done_node p (fed p market price)) (left p (Feeding market price) tt))
  stepped left w (events.Message node msg) committed restarted resumed = acted_at w node (pool_message msg) (slice_get w.nodes node) refl (λ p. subst (R p) (done_node p (pooled p msg)) (left p (Pooling msg) tt))
  stepped left w (events.Sweep node who) committed restarted resumed = acted_at w node (sweep_account who) (slice_get w.nodes node) refl (λ p. subst (R p) (swept_node p (sweep p who)) (left p (Sweeping who) tt))
  stepped left w (events.Propose node slot time) committed restarted resumed = subst (AllZip R w.nodes) (sym (propose_nodes w (slice_get w.nodes node) slot time)) (zip_same R same w.nodes)
  stepped left w (events.Check node slot) committed restarted resumed = acted_at w node (check_slot (get w.slots slot)) (slice_get w.nodes node) refl same
  stepped left w (events.Commit node slot) committed restarted resumed = acted_at w node (commit_slot (get w.slots slot)) (slice_get w.nodes node) refl (committed node slot refl)
  stepped left w (events.Balance node who) committed restarted resumed = acted_at w node (tell_balance who) (slice_get w.nodes node) refl same
  stepped left w (events.Spec node who) committed restarted resumed = acted_at w node (tell_speculative who) (slice_get w.nodes node) refl same
  stepped left w (events.Filled node id) committed restarted resumed = acted_at w node (tell_filled id) (slice_get w.nodes node) refl same
  stepped left w (events.Best node market) committed restarted resumed = acted_at w node (tell_best market) (slice_get w.nodes node) refl same
  stepped left w (events.Audit node) committed restarted resumed = acted_at w node tell_audit (slice_get w.nodes node) refl same
  stepped left w (events.Digest node) committed restarted resumed = acted_at w node tell_digest (slice_get w.nodes node) refl same
  stepped left w (events.Restart node) committed restarted resumed = turned_at w node restart_node words.Restart (slice_get w.nodes node) refl (restarted node refl)
  stepped left w (events.Waits node id) committed restarted resumed = acted_at w node (tell_waits id) (slice_get w.nodes node) refl same
  stepped left w (events.Snap node) committed restarted resumed = subst (AllZip R w.nodes) (sym (snap_nodes w (slice_get w.nodes node))) (zip_same R same w.nodes)
  stepped left w (events.Resume node height) committed restarted resumed = turned_at w node (resume_node height) words.Resume (slice_get w.nodes node) refl (resumed node height refl)
  stepped left w (events.Handed slot b) committed restarted resumed = zip_same R same w.nodes
  stepped left w (events.Show slot) committed restarted resumed = zip_same R same w.nodes

module _ (P : Node → Type 0) where
  -- what everything that happens at a node keeps of it, every event keeps
  kept_by : ((p : Node) (event : NodeEvent) → IsNoCommit event → P p → P (node_after p event)) → ((o : Option Block) (p : Node) → P p → P (commit_slot o p).0)
      → ((rows : Rows) (p : Node) → P p → IfOk (restart_node rows p) (λ r. P r.0)) → (w : World) (event : Event)
      → ((node height : ℕ) → event ≡ events.Resume node height → (p : Node) → P p → IfOk (resume_node height w.rows p) (λ r. P r.0))
      → All P w.nodes → IfOk (step w event) (λ r. All P r.0.nodes)
  kept_by left committed restarted w event resumed h =
      if_ok (step w event) (λ r. AllZip (λ p q. P p → P q) w.nodes r.0.nodes) (λ r. All P r.0.nodes) (λ r z. all_along P w.nodes r.0.nodes z h)
      (stepped (λ p q. P p → P q) (λ p g. g) left w event (λ node slot e p. committed (get w.slots slot) p)
      (λ node e p. under (restart_node w.rows p) (P p) P (restarted w.rows p)) (λ node height e p. under (resume_node height w.rows p) (P p) P (resumed node height e p)))

-- what every event keeps of a world, a run keeps
pub ran : (P : World → Type 0) → ((w : World) (event : Event) → P w → IfOk (step w event) (λ r. P r.0)) → (w v : World) (es : List Event) → after w es ≡ Ok v → P w → P v
ran P k w v [] e h = subst P (ok_same w v e) h
ran P k w v (event ∷ es) e h =
    let a = stage_passes (step w event) (λ (r : World × Reply). after r.0 es) v e in
    ran P k a.0.0 v es a.2 (subst (λ r. IfOk r (λ x. P x.0)) a.1 (k w event h))

-- and so it holds of each world that is reached
pub reached : (P : World → Type 0) (g : Genesis) (w : World) → IsReached g w → ((count : ℕ) (rows : Rows) (start : World) → opened count g rows ≡ Ok start → P start) → ((v : World) (event : Event) → P v → IfOk (step v event) (λ r. P r.0)) → P w
reached P g w r first k = ran P k r.start w r.events r.after (first r.count r.rows r.start r.opened)

-- the committed state of each node is the fold of its blocks in every world
pub folds_stay_good : FoldsStayGood
folds_stay_good = (
  λ count g rows w e. opened_all IsFold count g rows w e (λ number blocks h c. let f = chain_folds rows number g blocks c in new_started_folds number g blocks f.0 f.1),
  λ w event h n. kept_by IsFold (λ p event other h. (folds_by p event other h).0) (λ o p h. (committing_folds o p h).0) (λ rows p h. restarting_folds rows p) w event
      (λ node height e p h. absurd (let i : true ≡ false = ap is_resume (sym e) ∙ n in cc)) h,
)

-- from any base
pub folds_go_on : FoldsGoOn
folds_go_on = (
  from_genesis,
  λ w event h. kept_by IsFoldFrom from_by committing_from (λ rows p h. restarting_from rows p) w event (λ node height e p h. resuming_from height w.rows p h) h,
)

-- the states where the state of one node comes to be another
state_set : (ps : List Node) (n : ℕ) (p q : Node) (f : State → State) → slice_get ps n ≡ Some p → committed q ≡ f (committed p) → map committed (slice_set ps n q) ≡ changed_at (map committed ps) n f
state_set [] n p q f e h = refl
state_set (x ∷ ps) zero p q f e h = let same : x ≡ p = cc in ap (λ s. s ∷ map committed ps) (h ∙ ap (λ (y : Node). f (committed y)) (sym same))
state_set (x ∷ ps) (suc n) p q f e h = ap (λ ss. committed x ∷ ss) (state_set ps n p q f e h)

-- the states where there is no such node
state_none : (ps : List Node) (n : ℕ) (f : State → State) → slice_get ps n ≡ None → map committed ps ≡ changed_at (map committed ps) n f
state_none [] n f e = refl
state_none (x ∷ ps) zero f e = absurd (cc)
state_none (x ∷ ps) (suc n) f e = ap (λ ss. committed x ∷ ss) (state_none ps n f e)

-- the states where that of one node stays
pub state_same : (ps : List Node) (n : ℕ) (p q : Node) → slice_get ps n ≡ Some p → committed q ≡ committed p → map committed (slice_set ps n q) ≡ map committed ps
state_same [] n p q e h = refl
state_same (x ∷ ps) zero p q e h = let same : x ≡ p = cc in ap (λ s. s ∷ map committed ps) (h ∙ ap (λ (y : Node). committed y) (sym same))
state_same (x ∷ ps) (suc n) p q e h = ap (λ ss. committed x ∷ ss) (state_same ps n p q e h)

-- one node has acted, and its state stays
act_stays : (w : World) (node : ℕ) (act : Node → Node × Answer) (o : Option Node) → slice_get w.nodes node ≡ o → ((p : Node) → committed (act p).0 ≡ committed p) → map committed (node_acts w o node act).0.nodes ≡ map committed w.nodes
act_stays w node act None e a = refl
act_stays w node act (Some p) e a = state_same w.nodes node p (act p).0 e (a p)

-- what happens at a node but a commit leaves its committed state
event_stays : (p : Node) (event : NodeEvent) (q : Node) → IsNoCommit event → node_after p event ≡ q → committed q ≡ committed p
event_stays p event q other e = ap (λ (x : Node). committed x) (sym e) ∙ (other_events_keep_blocks p event other).1

-- one node has committed
commit_changes : (w : World) (node : ℕ) (b : Option Block) (o : Option Node) → slice_get w.nodes node ≡ o → All IsFoldFrom w.nodes → map committed (node_acts w o node (commit_slot b)).0.nodes ≡ changed_at (map committed w.nodes) node (after_block b)
commit_changes w node b None e h = state_none w.nodes node (after_block b) e
commit_changes w node b (Some p) e h = state_set w.nodes node p (commit_slot b p).0 (after_block b) e (committing_state b p (all_at IsFoldFrom w.nodes node p e h))

-- nothing but a commit changes a committed state, where no node is started
commits_count : (w : World) (event : Event) → All IsFoldFrom w.nodes → is_start event ≡ false → AreCounted w event
commits_count w (events.Place node order) h n = act_stays w node (place_order order) (slice_get w.nodes node) refl (λ p. event_stays p (Placing order) (place_order order p).0 tt (placed_node p (place p order)))
commits_count w (events.Cancel node id until) h n = act_stays w node (cancel_order id until) (slice_get w.nodes node) refl (λ p. event_stays p (Cancelling id until) (cancel_order id until p).0 tt (cancelled_node p (cancel p id until)))
commits_count w (events.CancelAll node who) h n = act_stays w node (cancel_orders who) (slice_get w.nodes node) refl (λ p. event_stays p (CancellingAll who) (cancel_orders who p).0 tt (all_cancelled_node p (cancel_all p who)))
commits_count w (events.Feed node market price) h n = act_stays w node (feed_price market price) (slice_get w.nodes node) refl (λ p. event_stays p (Feeding market price) (feed_price market price p).0 tt (done_node p (fed p market price)))
commits_count w (events.Message node msg) h n = act_stays w node (pool_message msg) (slice_get w.nodes node) refl (λ p. event_stays p (Pooling msg) (pool_message msg p).0 tt (done_node p (pooled p msg)))
commits_count w (events.Sweep node who) h n = act_stays w node (sweep_account who) (slice_get w.nodes node) refl (λ p. event_stays p (Sweeping who) (sweep_account who p).0 tt (swept_node p (sweep p who)))
commits_count w (events.Propose node slot time) h n = ap (map committed) (propose_nodes w (slice_get w.nodes node) slot time)
commits_count w (events.Commit node slot) h n = commit_changes w node (get w.slots slot) (slice_get w.nodes node) refl h
commits_count w (events.Check node slot) h n = act_stays w node (check_slot (get w.slots slot)) (slice_get w.nodes node) refl (λ p. refl)
commits_count w (events.Balance node who) h n = act_stays w node (tell_balance who) (slice_get w.nodes node) refl (λ p. refl)
commits_count w (events.Spec node who) h n = act_stays w node (tell_speculative who) (slice_get w.nodes node) refl (λ p. refl)
commits_count w (events.Filled node id) h n = act_stays w node (tell_filled id) (slice_get w.nodes node) refl (λ p. refl)
commits_count w (events.Best node market) h n = act_stays w node (tell_best market) (slice_get w.nodes node) refl (λ p. refl)
commits_count w (events.Audit node) h n = act_stays w node tell_audit (slice_get w.nodes node) refl (λ p. refl)
commits_count w (events.Digest node) h n = act_stays w node tell_digest (slice_get w.nodes node) refl (λ p. refl)
commits_count w (events.Waits node id) h n = act_stays w node (tell_waits id) (slice_get w.nodes node) refl (λ p. refl)
commits_count w (events.Snap node) h n = ap (map committed) (snap_nodes w (slice_get w.nodes node))
commits_count w (events.Restart node) h n = absurd (cc)
commits_count w (events.Resume node height) h n = absurd (cc)
commits_count w event h n = refl

-- a turn goes on, and leaves a committed state
abbrev StateStays : Turn → State → Type 0
StateStays (Ok r) s = committed r.0 ≡ s
StateStays (Err unkept) s = ⊥

-- one node has taken a turn, and its state stays
turn_stays : (w : World) (node : ℕ) (turn : Rows → Node → Turn) (word : Word) (o : Option Node) → slice_get w.nodes node ≡ o → ((p : Node) → o ≡ Some p → StateStays (turn w.rows p) (committed p))
    → GoesOn (replied word (node_turns w o node turn)) (λ r. map committed r.0.nodes ≡ map committed w.nodes)
turn_stays w node turn word None e a = refl
turn_stays w node turn word (Some p) e a = go (turn w.rows p) (a p refl)
  where
    go : (t : Turn) → StateStays t (committed p) → GoesOn (replied word (turned w node t)) (λ r. map committed r.0.nodes ≡ map committed w.nodes)
    go (Ok r) h = state_same w.nodes node p r.0 e h
    go (Err unkept) h = absurd h

-- a node of its own chain starts from it with the same committed state
own_restarts : (rows : Rows) (p : Node) → IsOwn rows p → StateStays (restart_node rows p) (committed p)
own_restarts rows p h =
    let all = h.first ++ p.blocks in
    subst (λ (k : Result (List Block) Unkept). StateStays (restarted_by p k) (committed p)) (sym (chain_read rows p.number p.genesis all h.chain)) (started_folds p all (committed p) h.folded).1

-- it is the fold of its blocks from its base on
pub own_from : (rows : Rows) (p : Node) → IsOwn rows p → IsFoldFrom p
own_from rows p h = fold_on (genesis_state p.genesis) h.first p.blocks p.base h.base ∙ h.folded

-- and resumes from a snapshot of its own blocks with the same committed state
own_resumes : (g : Genesis) (height : ℕ) (rows : Rows) (p : Node) → IsNodeOf g p → IsOwn rows p → OwnSnapshots g rows → StateStays (resume_node height rows p) (committed p)
own_resumes g height rows p of h own = read (snapshot_at p.genesis rows p.number height) refl
  where
    all : List Block
    all = h.first ++ p.blocks

    first : List Block
    first = take height all

    later : List Block
    later = drop height all

    own_here : OwnSnapshots p.genesis rows
    own_here = subst (λ (x : Genesis). OwnSnapshots x rows) (sym of.genesis) own

    joined : first ++ later ≡ all
    joined = take-append-drop height all

    read : (r : Result (Option State) Unread) → snapshot_at p.genesis rows p.number height ≡ r → StateStays (from_snapshot rows p r) (committed p)
    read (Ok None) e = refl
    read (Err unread) e = refl
    read (Ok (Some s)) e =
        let lead : fold_blocks p.genesis first ≡ Ok s = own_here p.number height all s of.number (chain_read rows p.number p.genesis all h.chain) e in
        let chain : IsChain rows p.number p.genesis (first ++ later) = subst (IsChain rows p.number p.genesis) (sym joined) h.chain in
        let told : resumable p.genesis s rows p.number ≡ Ok later = chain_resumed rows p.number p.genesis s first later chain lead in
        let rest : fold_from s later ≡ Ok (committed p) = fold_on (genesis_state p.genesis) first later s lead ∙ ap (fold_blocks p.genesis) joined ∙ h.folded in
        subst (λ (k : Result (List Block) Unresumed). StateStays (resumed_by p s k) (committed p)) (sym told) (gone_on_state p s later (committed p) rest).1

starts_count : (w : World) (event : Event) → All (IsOwn w.rows) w.nodes → is_resume event ≡ false → AreCounted w event
starts_count w (events.Restart node) h n =
    turn_stays w node restart_node words.Restart (slice_get w.nodes node) refl (λ p e. own_restarts w.rows p (all_at (IsOwn w.rows) w.nodes node p e h))
starts_count w (events.Resume node height) h n = absurd (cc)
starts_count w event h n = commits_count w event (All-weaker (IsOwn w.rows) IsFoldFrom (own_from w.rows) w.nodes h) refl

all_count : (g : Genesis) (w : World) (event : Event) → All (IsNodeOf g) w.nodes → All (IsOwn w.rows) w.nodes → OwnSnapshots g w.rows → AreCounted w event
all_count g w (events.Resume node height) of h own =
    turn_stays w node (resume_node height) words.Resume (slice_get w.nodes node) refl (λ p e. own_resumes g height w.rows p (all_at (IsNodeOf g) w.nodes node p e of) (all_at (IsOwn w.rows) w.nodes node p e h) own)
all_count g w event of h own = starts_count w event h refl

-- nothing but a commit changes a committed state
pub only_commits_count : OnlyCommitsCount
only_commits_count = (commits_count, starts_count, all_count)

-- every node of a run lives
pub all_live : (g : Genesis) (w : World) → IsGenesis g → IsReached g w → All Lives w.nodes
all_live g w h r =
    reached (λ (v : World). All Lives v.nodes) g w r
    (λ count rows start e. opened_all Lives count g rows start e (λ number blocks l c. let f = chain_folds rows number g blocks c in new_started_lives number g blocks f.0 h f.1))
    (λ v event l. kept_by Lives lives_by committing_lives restarting_lives v event (λ node height e p h. resuming_lives height v.rows p h) l)

-- the state of good blocks from a genesis in its ranges
in_balance : (p : Node) → Lives p → IsInBalance (committed p)
in_balance p h =
    record { sound = h.faithful.sound; balanced = h.faithful.balanced; audit = balance_shown (committed p) h.faithful.balanced }

-- each committed state of a run is sound and balanced
pub states_balance : StatesBalance
states_balance g w h r = λ n d lt. in_balance _ (all_live g w h r n d lt)

-- no state of a run comes from a default
pub nodes_are_in_order : NodesAreInOrder
nodes_are_in_order g w h r = λ n d lt. in_order _ (all_live g w h r n d lt)

-- and no placing is stopped by another code
pub placings_stop_by_risk : PlacingsStopByRisk
placings_stop_by_risk g w h r = λ n d lt o. stops_by_risk _ o (all_live g w h r n d lt)

-- and what each node proposes is good
pub proposals_are_good : ProposalsAreGood
proposals_are_good g w h r = λ n d lt. proposes_good _ (all_live g w h r n d lt)
