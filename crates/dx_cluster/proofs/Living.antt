-- What stays so of a node whatever happens at it.
use Rattle.std.proofs.Common.{◌≡◌, ℕ, zero, suc, Bool, true, false, List, [], ◌∷◌, ◌++◌, length, arith, Option, Some, None, Result, Ok, Err, refl, sym, ap, subst, ◌∙◌}
use Rattle.std.specs.Prelude.{IfOk, IsOk}
use Rattle.std.specs.Result.{result_unwrap_or}
use Rattle.std.specs.FinMap as map
use Rattle.dx_types.specs.declared.Order.{Order}
use Rattle.dx_types.specs.declared.Block.{Block}
use Rattle.dx_types.specs.declared.Bad.{Bad}
use Rattle.dx_types.specs.declared.Genesis.{Genesis}
use Rattle.dx_spec.specs.Step.{◌>>=◌}
use Rattle.dx_spec.specs.State.{State, genesis_state}
use Rattle.dx_spec.specs.Genesis.{IsGenesis}
use Rattle.dx_spec.specs.Blocks.{Applied, block_step, fold_blocks, fold_from}
use Rattle.dx_io.specs.Rows.{Rows}
use Rattle.dx_codec.specs.Building.{IsStateOf}
use Rattle.dx_history.specs.Chains.{Unkept, kept}
use Rattle.dx_history.proofs.Starting.{read_chain}
use Rattle.dx_snapshot.specs.Snapshots.{Unread, snapshot_place, snapshot_in, snapshot_of, snapshot_at}
use Rattle.dx_snapshot.proofs.Sealing.{snapshot_from}
use Rattle.dx_node.proofs.Above.{reaches}
use Rattle.dx_spec.proofs.Scripts.{stage_passes}
use Rattle.dx_node_spec.specs.Node.{Node, new_node, committed}
use Rattle.dx_node.specs.Resumes.{Unresumed, AheadOf, Broken, resumable}
use Rattle.dx_node_spec.specs.Commits.{resumed, adopted, commit, replay_next, placed_again, after_turns, restarted}
use Rattle.dx_node_spec.specs.Placing.{Outcome, AllFilled, Rested, Dropped, Stopped, Refusal, place}
use Rattle.dx_speculation.specs.Faithful.{IsFaithful}
use Rattle.dx_speculation.specs.NodeEvents.{NodeEvent, Replaying, IsNoCommit, node_of, itself_or, swept_or, after as node_after}
use Rattle.dx_spec.proofs.Folds.{fold_more}
use Rattle.dx_speculation.proofs.Events.{speculative_is_sound}
use Rattle.dx_speculation.proofs.NodeEvents.{every_event_keeps_faithful}
use Rattle.dx_speculation.proofs.Roots.{other_events_keep_blocks}
use Rattle.dx_speculation.proofs.Stopping.{placing_stops_by_risk}
use Rattle.dx_speculation.proofs.Outcomes.{committed_is}
use Rattle.dx_speculation.proofs.Committing.{committing_keeps_faithful, restarted_is, restarting_is_faithful, resuming_is_faithful}
use Rattle.dx_speculation.proofs.Replaying.{replaying_places_again}
use Rattle.dx_speculation.proofs.Proposals.{proposal_is_good}
use Rattle.dx_cluster.specs.Acts.{outcome_answer, place_answer, place_order, cancel_answer, cancel_all_answer, done_answer, sweep_answer, commit_answer, commit_slot, started}
use Rattle.dx_cluster.specs.Snapshots.{restarted_by, restart_node, resumed_by, from_snapshot, resume_node, gone_on}
use Rattle.dx_cluster.specs.Laws.{IsFold, IsFoldFrom, state_or, after_block, IsInOrder, StopsByRisk, ProposesGood}

-- the value of a good result
pub ok_of : {A E : Type 0} (r : Result A E) → IsOk r → (x : A) × (r ≡ Ok x)
ok_of (Ok x) h = (x, refl)
ok_of (Err e) h = absurd (let i : false ≡ true = h in cc)

pub if_ok : {A E : Type 0} (r : Result A E) (P Q : A → Type 0) → ((x : A) → P x → Q x) → IfOk r P → IfOk r Q
if_ok (Ok x) P Q f h = f x h
if_ok (Err e) P Q f h = tt

-- the committed state of a node and its fold, where the committed state comes to be another
abbrev pub FoldsTo : Node → State → Type 0
FoldsTo p s = IsFold p × (committed p ≡ s)

-- what happens at a node but a commit leaves its blocks and their fold
pub folds_by : (p : Node) (event : NodeEvent) → IsNoCommit event → IsFold p → FoldsTo (node_after p event) (committed p)
folds_by p event other h =
    let q = node_after p event in
    let k = other_events_keep_blocks p event other in (
      record {
        base = k.0.base ∙ h.base ∙ ap genesis_state (sym k.0.genesis);
        folded = ap (λ g. fold_blocks g q.blocks) k.0.genesis ∙ ap (fold_blocks p.genesis) k.0.blocks ∙ h.folded ∙ ap Ok (sym k.1);
      },
      k.1,
    )

-- the node after a placing
pub placed_node : (p : Node) (r : Result (Node × Outcome) Refusal) → node_of p r ≡ (place_answer p r).0
placed_node p (Ok q) = refl
placed_node p (Err cause) = refl

-- the node after a cancel
pub cancelled_node : (p : Node) (r : Result (Node × Bool) Refusal) → node_of p r ≡ (cancel_answer p r).0
cancelled_node p (Ok q) = refl
cancelled_node p (Err cause) = refl

-- the node after the cancels of an account's orders
pub all_cancelled_node : (p : Node) (r : Result (Node × ℕ) Refusal) → node_of p r ≡ (cancel_all_answer p r).0
all_cancelled_node p (Ok q) = refl
all_cancelled_node p (Err cause) = refl

-- the node after a price or a message
pub done_node : (p : Node) (r : Result Node Refusal) → itself_or p r ≡ (done_answer p r).0
done_node p (Ok q) = refl
done_node p (Err cause) = refl

-- the node after a sweep
pub swept_node : (p : Node) (r : Result (Node × ℕ × ℕ) Refusal) → swept_or p r ≡ (sweep_answer p r).0
swept_node p (Ok q) = refl
swept_node p (Err cause) = refl

-- what each turn keeps, so many turns keep, and so does the placing of the whole list
turns_keep : (P : Node → Type 0) → ((p : Node) → P p → P (replay_next p).0) → (turns : ℕ) (p : Node) → P p → P (after_turns turns p)
turns_keep P k zero p h = h
turns_keep P k (suc n) p h = turns_keep P k n (replay_next p).0 (k p h)

pub list_keeps : (P : Node → Type 0) → ((p : Node) → P p → P (replay_next p).0) → (p : Node) → P p → P (placed_again p)
list_keeps P k p h = subst P (replaying_places_again p (length p.again) (omega arith)) (turns_keep P k (length p.again) p h)

-- one turn leaves the committed state
turn_folds : (s : State) (p : Node) → FoldsTo p s → FoldsTo (replay_next p).0 s
turn_folds s p h = let k = folds_by p Replaying tt h.0 in (k.0, k.1 ∙ h.1)

-- a stage fails as the one before it
stage_fails : {A B E : Type 0} (r : Result A E) (f : A → B) (code : E) → (r >>= λ x. Ok (f x)) ≡ Err code → r ≡ Err code
stage_fails (Ok x) f code e = absurd (cc)
stage_fails (Err c) f code e = let same : c ≡ code = cc in ap Err same

-- a bad block leaves the node
commit_bad : (p : Node) (b : Block) (bad : Bad) → commit p b ≡ Err bad → block_step (committed p) b ≡ Err bad
unfolding commit
commit_bad p b bad e = stage_fails (block_step (committed p) b) (λ r. (adopted p b r.0 r.1 r.2, r.1)) bad e

-- a good block leads to the next state
with_block : (p : Node) (b : Block) (r : Applied) → IsFold p → block_step (committed p) b ≡ Ok r → FoldsTo (adopted p b r.0 r.1 r.2) r.0
unfolding committed adopted
with_block p b r h e =
    let f = fold_more (genesis_state p.genesis) p.blocks (committed p) b r h.folded e in
    let same : committed (adopted p b r.0 r.1 r.2) ≡ r.0 = ap (λ s. result_unwrap_or (fold_from s (p.blocks ++ b ∷ [])) p.base) h.base ∙ ap (λ x. result_unwrap_or x p.base) f in
    (record { base = h.base; folded = f ∙ ap Ok (sym same) }, same)

commit_folds : (p : Node) (b : Block) (r : Result (Node × List ℕ) Bad) → commit p b ≡ r → IsFold p → FoldsTo (commit_answer p b r).0 (after_block (Some b) (committed p))
commit_folds p b (Ok q) e h =
    let d = committed_is p b q e in
    let k : FoldsTo q.0 d.0.0 = subst (λ x. FoldsTo x d.0.0) d.2 (with_block p b d.0 h d.1) in
    let l = list_keeps (λ x. FoldsTo x d.0.0) (turn_folds d.0.0) q.0 k in
    (l.0, l.1 ∙ ap (state_or (committed p)) (sym d.1))
commit_folds p b (Err bad) e h = (h, ap (state_or (committed p)) (sym (commit_bad p b bad e)))

pub committing_folds : (o : Option Block) (p : Node) → IsFold p → FoldsTo (commit_slot o p).0 (after_block o (committed p))
committing_folds None p h = (h, refl)
committing_folds (Some b) p h = commit_folds p b (commit p b) refl h

-- a node that starts anew from good blocks has their fold as its committed state
restarted_folds : (p : Node) (blocks : List Block) (t : State) → fold_blocks p.genesis blocks ≡ Ok t → FoldsTo (restarted p blocks) t
unfolding restarted resumed
restarted_folds p blocks t e =
    let same : committed (restarted p blocks) ≡ t = restarted_is p blocks t e in
    (record { base = refl; folded = e ∙ ap Ok (sym same) }, same)

pub started_folds : (p : Node) (blocks : List Block) (t : State) → fold_blocks p.genesis blocks ≡ Ok t → FoldsTo (started p blocks) t
started_folds p blocks t e = list_keeps (λ x. FoldsTo x t) (turn_folds t) (restarted p blocks) (restarted_folds p blocks t e)

-- so each restart leads to a fold from the genesis on
restarted_to : (p : Node) (k : Result (List Block) Unkept) → ((blocks : List Block) → k ≡ Ok blocks → IsOk (fold_blocks p.genesis blocks)) → IfOk (restarted_by p k) (λ r. IsFold r.0)
restarted_to p (Ok blocks) f = let t = ok_of (fold_blocks p.genesis blocks) (f blocks refl) in (started_folds p blocks t.0 t.1).0
restarted_to p (Err unkept) f = tt

pub restarting_folds : (rows : Rows) (p : Node) → IfOk (restart_node rows p) (λ r. IsFold r.0)
restarting_folds rows p = restarted_to p (kept p.genesis rows p.number) (λ blocks e. (read_chain rows p.number p.genesis blocks e).good)

-- a new node has its genesis
new_genesis : (number : ℕ) (g : Genesis) → (new_node number g).genesis ≡ g
unfolding new_node
new_genesis number g = refl

pub new_started_folds : (number : ℕ) (g : Genesis) (blocks : List Block) (t : State) → fold_blocks g blocks ≡ Ok t → IsFold (started (new_node number g) blocks)
new_started_folds number g blocks t e = (started_folds (new_node number g) blocks t (ap (λ (x : Genesis). fold_blocks x blocks) (new_genesis number g) ∙ e)).0

-- ---- folds from any base

pub from_genesis : (p : Node) → IsFold p → IsFoldFrom p
from_genesis p h = ap (λ (s : State). fold_from s p.blocks) h.base ∙ h.folded

pub from_by : (p : Node) (event : NodeEvent) → IsNoCommit event → IsFoldFrom p → IsFoldFrom (node_after p event)
from_by p event other h =
    let q = node_after p event in
    let k = other_events_keep_blocks p event other in
    ap (λ (s : State). fold_from s q.blocks) k.0.base ∙ ap (fold_from p.base) k.0.blocks ∙ h ∙ ap Ok (sym k.1)

block_from : (p : Node) (b : Block) (r : Applied) → IsFoldFrom p → block_step (committed p) b ≡ Ok r → IsFoldFrom (adopted p b r.0 r.1 r.2)
unfolding committed adopted
block_from p b r h e =
    let f = fold_more p.base p.blocks (committed p) b r h e in
    f ∙ ap Ok (sym (ap (λ x. result_unwrap_or x p.base) f))

block_leads : (p : Node) (b : Block) (r : Applied) → IsFoldFrom p → block_step (committed p) b ≡ Ok r → committed (adopted p b r.0 r.1 r.2) ≡ r.0
unfolding committed adopted
block_leads p b r h e = ap (λ x. result_unwrap_or x p.base) (fold_more p.base p.blocks (committed p) b r h e)

-- a fold from any base, where the committed state is another
abbrev LeadsTo : Node → State → Type 0
LeadsTo p s = IsFoldFrom p × (committed p ≡ s)

turn_leads : (s : State) (p : Node) → LeadsTo p s → LeadsTo (replay_next p).0 s
turn_leads s p h = (from_by p Replaying tt h.0, (other_events_keep_blocks p Replaying tt).1 ∙ h.1)

commit_leads : (p : Node) (b : Block) (r : Result (Node × List ℕ) Bad) → commit p b ≡ r → IsFoldFrom p → LeadsTo (commit_answer p b r).0 (after_block (Some b) (committed p))
commit_leads p b (Ok q) e h =
    let d = committed_is p b q e in
    let k : LeadsTo q.0 d.0.0 = subst (λ x. LeadsTo x d.0.0) d.2 (block_from p b d.0 h d.1, block_leads p b d.0 h d.1) in
    let l = list_keeps (λ x. LeadsTo x d.0.0) (turn_leads d.0.0) q.0 k in
    (l.0, l.1 ∙ ap (state_or (committed p)) (sym d.1))
commit_leads p b (Err bad) e h = (h, ap (state_or (committed p)) (sym (commit_bad p b bad e)))

commit_slot_leads : (o : Option Block) (p : Node) → IsFoldFrom p → LeadsTo (commit_slot o p).0 (after_block o (committed p))
commit_slot_leads None p h = (h, refl)
commit_slot_leads (Some b) p h = commit_leads p b (commit p b) refl h

pub committing_from : (o : Option Block) (p : Node) → IsFoldFrom p → IsFoldFrom (commit_slot o p).0
committing_from o p h = (commit_slot_leads o p h).0

pub committing_state : (o : Option Block) (p : Node) → IsFoldFrom p → committed (commit_slot o p).0 ≡ after_block o (committed p)
committing_state o p h = (commit_slot_leads o p h).1

pub restarting_from : (rows : Rows) (p : Node) → IfOk (restart_node rows p) (λ r. IsFoldFrom r.0)
restarting_from rows p = if_ok (restart_node rows p) (λ r. IsFold r.0) (λ r. IsFoldFrom r.0) (λ r h. from_genesis r.0 h) (restarting_folds rows p)

-- a node that goes on from a state
resumed_from : (p : Node) (s : State) (blocks : List Block) (t : State) → fold_from s blocks ≡ Ok t → IsFoldFrom (resumed p s blocks)
unfolding resumed committed
resumed_from p s blocks t e = e ∙ ap Ok (sym (ap (λ x. result_unwrap_or x s) e))

pub gone_on_from : (p : Node) (s : State) (blocks : List Block) (t : State) → fold_from s blocks ≡ Ok t → IsFoldFrom (gone_on p s blocks)
gone_on_from p s blocks t e = list_keeps IsFoldFrom (λ x l. from_by x Replaying tt l) (resumed p s blocks) (resumed_from p s blocks t e)

read_state : (g : Genesis) (height : ℕ) (row : List ℕ) (s : State) → snapshot_of g height (Some row) ≡ Ok (Some s) → IsStateOf g s
read_state g height row s e =
    let a = stage_passes (snapshot_in g height row) (λ (x : State). Ok (Some x)) (Some s) e in
    subst (IsStateOf g) (same_state a.0 s a.2) (snapshot_from g height row a.0 a.1).0.state
  where
    same_state : (x s : State) → ◌≡◌ {A = Result (Option State) Unread} (Ok (Some x)) (Ok (Some s)) → x ≡ s
    same_state x s e = cc

resumed_leads : (p : Node) (s : State) (blocks : List Block) (t : State) → fold_from s blocks ≡ Ok t → committed (resumed p s blocks) ≡ t
unfolding resumed committed
resumed_leads p s blocks t e = ap (λ x. result_unwrap_or x s) e

pub gone_on_state : (p : Node) (s : State) (blocks : List Block) (t : State) → fold_from s blocks ≡ Ok t → (committed (resumed p s blocks) ≡ t) × (committed (gone_on p s blocks) ≡ t)
gone_on_state p s blocks t e =
    let k = resumed_leads p s blocks t e in
    (k, (list_keeps (λ x. LeadsTo x t) (turn_leads t) (resumed p s blocks) (resumed_from p s blocks t e, k)).1)

-- what a resume leads to, of whatever is so of a node that goes on from a snapshot that is read and the blocks above it
pub resumes_to : (P : Node → Type 0) (height : ℕ) (rows : Rows) (p : Node) → P p
    → ((s : State) (blocks : List Block) (t : State) → IsStateOf p.genesis s → fold_from s blocks ≡ Ok t → P (gone_on p s blocks)) → IfOk (resume_node height rows p) (λ r. P r.0)
resumes_to P height rows p h f = read (map.get rows (snapshot_place p.number height)) (snapshot_at p.genesis rows p.number height) refl
  where
    gone : (s : State) → IsStateOf p.genesis s → (k : Result (List Block) Unresumed) → resumable p.genesis s rows p.number ≡ k → IfOk (resumed_by p s k) (λ r. P r.0)
    gone s of (Ok blocks) e = let t = reaches rows p.number p.genesis s blocks e in f s blocks t.state of t.leads
    gone s of (Err (AheadOf count)) e = h
    gone s of (Err (Broken unkept)) e = tt

    read : (row : Option (List ℕ)) (r : Result (Option State) Unread) → snapshot_of p.genesis height row ≡ r → IfOk (from_snapshot rows p r) (λ r. P r.0)
    read row (Ok None) e = h
    read row (Err unread) e = h
    read None (Ok (Some s)) e = absurd (cc)
    read (Some row) (Ok (Some s)) e = gone s (read_state p.genesis height row s e) (resumable p.genesis s rows p.number) refl

pub resuming_from : (height : ℕ) (rows : Rows) (p : Node) → IsFoldFrom p → IfOk (resume_node height rows p) (λ r. IsFoldFrom r.0)
resuming_from height rows p h = resumes_to IsFoldFrom height rows p h (λ s blocks t of e. gone_on_from p s blocks t e)

-- a node of a genesis in its ranges
pub record Lives (p : Node) : Type 0 where
  pub genesis : IsGenesis p.genesis
  pub faithful : IsFaithful p

-- what happens at a node but a commit keeps it so
pub lives_by : (p : Node) (event : NodeEvent) → IsNoCommit event → Lives p → Lives (node_after p event)
lives_by p event other h =
    let k = other_events_keep_blocks p event other in
    record {
      genesis = subst IsGenesis (sym k.0.genesis) h.genesis;
      faithful = every_event_keeps_faithful p event h.faithful;
    }

adopted_genesis : (p : Node) (b : Block) (r : Applied) → IsGenesis p.genesis → IsGenesis (adopted p b r.0 r.1 r.2).genesis
unfolding adopted
adopted_genesis p b r h = h

commit_lives : (p : Node) (b : Block) (r : Result (Node × List ℕ) Bad) → commit p b ≡ r → Lives p → Lives (commit_answer p b r).0
commit_lives p b (Ok q) e h =
    let d = committed_is p b q e in
    let k : Lives q.0 = record {
      genesis = subst (λ (x : Node). IsGenesis x.genesis) d.2 (adopted_genesis p b d.0 h.genesis);
      faithful = committing_keeps_faithful p b q h.faithful e;
    } in
    list_keeps Lives (λ x l. lives_by x Replaying tt l) q.0 k
commit_lives p b (Err bad) e h = h

pub committing_lives : (o : Option Block) (p : Node) → Lives p → Lives (commit_slot o p).0
committing_lives None p h = h
committing_lives (Some b) p h = commit_lives p b (commit p b) refl h

restarted_genesis : (p : Node) (blocks : List Block) → IsGenesis p.genesis → IsGenesis (restarted p blocks).genesis
unfolding restarted resumed
restarted_genesis p blocks h = h

-- a node that starts anew from good blocks of a genesis in its ranges
started_lives : (p : Node) (blocks : List Block) (t : State) → IsGenesis p.genesis → fold_blocks p.genesis blocks ≡ Ok t → Lives (started p blocks)
started_lives p blocks t h e =
    let k : Lives (restarted p blocks) = record {
      genesis = restarted_genesis p blocks h;
      faithful = restarting_is_faithful p blocks t h e;
    } in
    list_keeps Lives (λ x l. lives_by x Replaying tt l) (restarted p blocks) k

restarted_lives : (p : Node) (k : Result (List Block) Unkept) → IsGenesis p.genesis → ((blocks : List Block) → k ≡ Ok blocks → IsOk (fold_blocks p.genesis blocks)) → IfOk (restarted_by p k) (λ r. Lives r.0)
restarted_lives p (Ok blocks) g f = let t = ok_of (fold_blocks p.genesis blocks) (f blocks refl) in started_lives p blocks t.0 g t.1
restarted_lives p (Err unkept) g f = tt

pub restarting_lives : (rows : Rows) (p : Node) → Lives p → IfOk (restart_node rows p) (λ r. Lives r.0)
restarting_lives rows p h = restarted_lives p (kept p.genesis rows p.number) h.genesis (λ blocks e. (read_chain rows p.number p.genesis blocks e).good)

resumed_genesis : (p : Node) (s : State) (blocks : List Block) → IsGenesis p.genesis → IsGenesis (resumed p s blocks).genesis
unfolding resumed
resumed_genesis p s blocks h = h

-- a node that goes on from a sound and balanced state
gone_on_lives : (p : Node) (s : State) (blocks : List Block) (t : State) → IsGenesis p.genesis → IsStateOf p.genesis s → fold_from s blocks ≡ Ok t → Lives (gone_on p s blocks)
gone_on_lives p s blocks t h of e =
    let k : Lives (resumed p s blocks) = record {
      genesis = resumed_genesis p s blocks h;
      faithful = resuming_is_faithful p s blocks t of.sound of.balanced e;
    } in
    list_keeps Lives (λ x l. lives_by x Replaying tt l) (resumed p s blocks) k

pub resuming_lives : (height : ℕ) (rows : Rows) (p : Node) → Lives p → IfOk (resume_node height rows p) (λ r. Lives r.0)
resuming_lives height rows p h = resumes_to Lives height rows p h (λ s blocks t of e. gone_on_lives p s blocks t h.genesis of e)

pub new_started_lives : (number : ℕ) (g : Genesis) (blocks : List Block) (t : State) → IsGenesis g → fold_blocks g blocks ≡ Ok t → Lives (started (new_node number g) blocks)
new_started_lives number g blocks t h e =
    let same = new_genesis number g in
    started_lives (new_node number g) blocks t (subst IsGenesis (sym same) h) (ap (λ (x : Genesis). fold_blocks x blocks) same ∙ e)

-- neither state of such a node comes from a default
pub in_order : (p : Node) → Lives p → IsInOrder p
in_order p h =
    let both = speculative_is_sound p h.faithful in
    record {
      faithful = h.faithful;
      sound = both.0;
      balanced = both.2;
    }

-- a placing at such a node is stopped by risk or a bound alone
outcome_stops : (p : Node) (o : Order) (q : Node) (u : Outcome) → place p o ≡ Ok (q, u) → IsFaithful p → StopsByRisk (outcome_answer u)
outcome_stops p o q AllFilled e h = tt
outcome_stops p o q (Rested filled) e h = tt
outcome_stops p o q (Dropped filled) e h = tt
outcome_stops p o q (Stopped filled code) e h = placing_stops_by_risk p o q filled code h e

place_stops : (p : Node) (o : Order) (r : Result (Node × Outcome) Refusal) → place p o ≡ r → IsFaithful p → StopsByRisk (place_answer p r).1
place_stops p o (Ok r) e h = outcome_stops p o r.0 r.1 e h
place_stops p o (Err cause) e h = tt

pub stops_by_risk : (p : Node) (o : Order) → Lives p → StopsByRisk (place_order o p).1
stops_by_risk p o h = place_stops p o (place p o) refl h.faithful

-- what such a node proposes is good
pub proposes_good : (p : Node) → Lives p → ProposesGood p
proposes_good p h time b e = proposal_is_good p time b h.faithful e
