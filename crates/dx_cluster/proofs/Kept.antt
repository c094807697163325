-- What an event makes of the rows that a keeper tells.
use Rattle.std.proofs.Common.{◌≡◌, ◌<◌, ◌+◌, ℕ, true, false, List, length, arith, refl, sym, ap, subst, ◌∙◌, get_or, inl, inr, Option, Some, None, Result, Ok, Err}
use Rattle.std.specs.Prelude.{slice_get, slice_set, is_some, IfSome, All}
use Rattle.std.specs.List.{AllZip, range_with_len}
use Rattle.std.specs.Result.{IfOk, OnOk, IfErr, OnErr}
use Rattle.std.specs.FinMap.{get, insert}
use Rattle.std.proofs.lemmas.List.{length-set}
use Rattle.std.proofs.lemmas.List.Elements.{All-weaker}
use Rattle.dx_types.specs.declared.Block.{Block}
use Rattle.dx_types.specs.declared.Bad.{Bad}
use Rattle.dx_spec.specs.State.{State}
use Rattle.dx_io.specs.declared.row_key.RowKey.{RowKey}
use Rattle.dx_io.specs.Rows.{Rows, SameRows, SetsRow}
use Rattle.dx_codec.specs.Blocks.{block_bytes}
use Rattle.dx_codec.specs.Genesis.{digest_of}
use Rattle.dx_codec.specs.States.{FitsNames}
use Rattle.dx_history.specs.Rows.{place_of}
use Rattle.dx_history.specs.Chains.{Unkept, BadAt, OtherGenesis, kept, begun}
use Rattle.dx_snapshot.specs.Snapshots.{Unread, snapshot_place, snapshot_bytes, snapshot_at}
use Rattle.dx_node_spec.specs.Node.{Node, committed}
use Rattle.dx_node_spec.specs.Placing.{Refusal, place}
use Rattle.dx_node_spec.specs.Events.{fed, pooled, cancel, cancel_all, sweep}
use Rattle.dx_node_spec.specs.Commits.{commit, placed_again, resumed}
use Rattle.dx_node_spec.specs.Proposals.{propose}
use Rattle.dx_speculation.specs.NodeEvents.{NodeEvent, Placing, Cancelling, CancellingAll, Pooling, Feeding, Sweeping, IsNoCommit, after as node_after}
use Rattle.dx_speculation.proofs.Roots.{other_events_keep_blocks}
use Rattle.dx_node.specs.Held.{Held}
use Rattle.dx_node.specs.Restarts.{AreKept, BeginsRows}
use Rattle.dx_node.specs.Standing.{StandsFor}
use Rattle.dx_node.specs.Resumes.{Unresumed, AheadOf, Broken, Resumes, resumable}
use Rattle.dx_speculation.proofs.Replaying.{placing_all_empties_list}
use Rattle.dx_scenario.specs.declared.event.Event.{Event}
use Rattle.dx_scenario.specs.declared.event.Event.TheVariants as events
use Rattle.dx_print.specs.declared.answer.Answer.{Answer}
use Rattle.dx_print.specs.declared.answer.Answer.TheVariants as answers
use Rattle.dx_cluster.specs.declared.cluster.Cluster.{Cluster}
use Rattle.dx_cluster.specs.declared.fault.StartFault.{StartFault}
use Rattle.dx_cluster.specs.declared.fault.StartFault.TheVariants as starts
use Rattle.dx_cluster.specs.Acts.{height_of, place_order, cancel_order, cancel_orders, feed_price, pool_message, sweep_account, check_slot, commit_answer, commit_slot, started, tell_balance, tell_speculative, tell_filled, tell_best, tell_audit, tell_digest, tell_waits}
use Rattle.dx_cluster.specs.Snapshots.{Turn, restarted_by, restart_node, resumed_by, from_snapshot, resume_node}
use Rattle.dx_cluster.specs.World.{World, Goes, node_acts, act_at, put_proposal, node_proposes, rows_with, rows_behind, commit_at, node_snaps, snap_at, turned, node_turns, turn_at, acted, uses_rows, Stands, StandsForSome, HasFirst, KeepsRows, IsIdle, HasActed, HasKept, HasDone, HasGone, IsOutside, AreEither, Breaks}
use Rattle.dx_cluster.specs.Fitting.{CommitFits, SnapFits, EventFits}
use Rattle.dx_cluster.specs.Starts.{Starts, StartRefused, KeepsBlock, MayKeepBlock, GivesTurn, StandsForOne, TurnRefused}
use Rattle.dx_cluster.proofs.Everywhere.{AreNumbered, all_set, all_at, number_at, map_along, zip_set}
use Rattle.dx_cluster.proofs.Living.{placed_node, cancelled_node, all_cancelled_node, done_node, swept_node}
use Rattle.dx_cluster.proofs.Chains.{placed_same, resumed_names, started_over, committed_grows, begins_are, first_stays, first_begun}
use Rattle.dx_cluster.proofs.Idling.{started_idle}
use Rattle.dx_cluster.proofs.Worlds.{found, both_set, slot_of, has_acted_at}

-- ---- rows that are known

pub sets_are : (before after : Option Rows) (rows : Rows) (key : RowKey) (bytes : List ℕ) → before ≡ Some rows → SetsRow before after key bytes → after ≡ Some (insert rows key bytes)
sets_are before after rows key bytes e k = told after (subst (λ (o : Option Rows). SetsRow o after key bytes) e k)
  where
    told : (after : Option Rows) → SetsRow (Some rows) after key bytes → after ≡ Some (insert rows key bytes)
    told None k = absurd k
    told (Some now) k = ap Some k

pub same_are : (before after : Option Rows) (rows : Rows) → before ≡ Some rows → SameRows before after → after ≡ Some rows
same_are before after rows e k = told after (subst (λ (o : Option Rows). SameRows o after) e k)
  where
    told : (after : Option Rows) → SameRows (Some rows) after → after ≡ Some rows
    told None k = absurd k
    told (Some now) k = ap Some k

-- ---- nodes whose names stay

-- a node of the same number has its first row as well
first_of : (rows : Rows) (p q : Node) → q.number ≡ p.number → HasFirst rows p → HasFirst rows q
first_of rows p q e h = subst (λ (n : ℕ). is_some (get rows (place_of n 0)) ≡ true) (sym e) h

-- numbers where one node becomes another of its number
pub numbers_set : (ps : List Node) (n : ℕ) (p q : Node) → slice_get ps n ≡ Some p → q.number ≡ p.number → AreNumbered 0 ps → AreNumbered 0 (slice_set ps n q)
numbers_set ps n p q at same m =
    map_along (λ (x : Node). x.number) ps (slice_set ps n q) (zip_set (λ x y. y.number ≡ x.number) (λ x. refl) ps n p q at same) ∙ m ∙ ap (range_with_len 0) (sym (length-set ps n q))

-- one node becomes another of its number
set_keeps : (rows : Option Rows) (w : World) (node : ℕ) (p q : Node) → slice_get w.nodes node ≡ Some p → q.number ≡ p.number → KeepsRows rows w → KeepsRows rows (record w { nodes = slice_set w.nodes node q })
set_keeps rows w node p q at same h = record {
  told = h.told;
  numbered = numbers_set w.nodes node p q at same h.numbered;
  begun = all_set (HasFirst w.rows) w.nodes node q h.begun (first_of w.rows p q same (all_at (HasFirst w.rows) w.nodes node p at h.begun));
}

-- what is done leaves a node's number
abbrev KeepsNumber : (Node → Node × Answer) → Type 0
KeepsNumber act = (p : Node) → (act p).0.number ≡ p.number

node_keeps : (rows : Option Rows) (w : World) (node : ℕ) (act : Node → Node × Answer) (o : Option Node) → slice_get w.nodes node ≡ o → KeepsNumber act → KeepsRows rows w → KeepsRows rows (node_acts w o node act).0
node_keeps rows w node act None at k h = h
node_keeps rows w node act (Some p) at k h = set_keeps rows w node p (act p).0 at (k p) h

act_keeps : (rows : Option Rows) (w : World) (node : ℕ) (act : Node → Node × Answer) → KeepsNumber act → KeepsRows rows w → KeepsRows rows (act_at w node act).0
act_keeps rows w node act k h = node_keeps rows w node act (slice_get w.nodes node) refl k h

-- what happens at a node but a commit leaves its number
number_by : (p : Node) (event : NodeEvent) → IsNoCommit event → (node_after p event).number ≡ p.number
number_by p event other = (other_events_keep_blocks p event other).0.number

placing_number : (p : Node) (event : NodeEvent) (q : Node) → IsNoCommit event → node_after p event ≡ q → q.number ≡ p.number
placing_number p event q other e = ap (λ (x : Node). x.number) (sym e) ∙ number_by p event other

put_keeps : (rows : Option Rows) (w : World) (slot : ℕ) (r : Result Block Refusal) → KeepsRows rows w → KeepsRows rows (put_proposal w slot r).0
put_keeps rows w slot (Ok b) h = record { told = h.told; numbered = h.numbered; begun = h.begun }
put_keeps rows w slot (Err cause) h = h

propose_keeps : (rows : Option Rows) (w : World) (o : Option Node) (slot time : ℕ) → KeepsRows rows w → KeepsRows rows (node_proposes w o slot time).0
propose_keeps rows w None slot time h = h
propose_keeps rows w (Some p) slot time h = put_keeps rows w slot (propose p time) h

-- an event that reads and sets no rows leaves them those of the world
pub beside_keeps : (rows : Option Rows) (w : World) (event : Event) (c : Cluster) (answer : Answer) → uses_rows event ≡ false → HasDone (acted w event) c answer → KeepsRows rows w → HasGone (acted w event) c answer rows
beside_keeps rows w (events.Place node order) c answer e d h = (d, act_keeps rows w node (place_order order) (λ p. placing_number p (Placing order) (place_order order p).0 tt (placed_node p (place p order))) h)
beside_keeps rows w (events.Cancel node id until) c answer e d h = (d, act_keeps rows w node (cancel_order id until) (λ p. placing_number p (Cancelling id until) (cancel_order id until p).0 tt (cancelled_node p (cancel p id until))) h)
beside_keeps rows w (events.CancelAll node who) c answer e d h = (d, act_keeps rows w node (cancel_orders who) (λ p. placing_number p (CancellingAll who) (cancel_orders who p).0 tt (all_cancelled_node p (cancel_all p who))) h)
beside_keeps rows w (events.Message node msg) c answer e d h = (d, act_keeps rows w node (pool_message msg) (λ p. placing_number p (Pooling msg) (pool_message msg p).0 tt (done_node p (pooled p msg))) h)
beside_keeps rows w (events.Feed node market price) c answer e d h = (d, act_keeps rows w node (feed_price market price) (λ p. placing_number p (Feeding market price) (feed_price market price p).0 tt (done_node p (fed p market price))) h)
beside_keeps rows w (events.Sweep node who) c answer e d h = (d, act_keeps rows w node (sweep_account who) (λ p. placing_number p (Sweeping who) (sweep_account who p).0 tt (swept_node p (sweep p who))) h)
beside_keeps rows w (events.Propose node slot time) c answer e d h = (d, propose_keeps rows w (slice_get w.nodes node) slot time h)
beside_keeps rows w (events.Handed slot b) c answer e d h = (d, record { told = h.told; numbered = h.numbered; begun = h.begun })
beside_keeps rows w (events.Show slot) c answer e d h = (d, h)
beside_keeps rows w (events.Check node slot) c answer e d h = (d, act_keeps rows w node (check_slot (get w.slots slot)) (λ p. refl) h)
beside_keeps rows w (events.Commit node slot) c answer e d h = absurd (cc)
beside_keeps rows w (events.Balance node who) c answer e d h = (d, act_keeps rows w node (tell_balance who) (λ p. refl) h)
beside_keeps rows w (events.Spec node who) c answer e d h = (d, act_keeps rows w node (tell_speculative who) (λ p. refl) h)
beside_keeps rows w (events.Filled node id) c answer e d h = (d, act_keeps rows w node (tell_filled id) (λ p. refl) h)
beside_keeps rows w (events.Best node market) c answer e d h = (d, act_keeps rows w node (tell_best market) (λ p. refl) h)
beside_keeps rows w (events.Audit node) c answer e d h = (d, act_keeps rows w node tell_audit (λ p. refl) h)
beside_keeps rows w (events.Digest node) c answer e d h = (d, act_keeps rows w node tell_digest (λ p. refl) h)
beside_keeps rows w (events.Restart node) c answer e d h = absurd (cc)
beside_keeps rows w (events.Waits node id) c answer e d h = (d, act_keeps rows w node (tell_waits id) (λ p. refl) h)
beside_keeps rows w (events.Snap node) c answer e d h = absurd (cc)
beside_keeps rows w (events.Resume node height) c answer e d h = absurd (cc)

-- the program stands for some world behind an act that is done
pub done_stands : (r : Goes) (c : Cluster) (answer : Answer) → HasDone r c answer → StandsForSome c
done_stands (Ok r) c answer h = (r.0, h.stands)
done_stands (Err unkept) c answer h = absurd h

-- a run may end at an act that is no turn for a fault of the outside
pub outside_breaks : (w : World) (r : World × Answer) (rows : Option Rows) (fault : StartFault) → IsOutside fault → AreEither rows w.rows r.0.rows → Breaks w (Ok r) rows fault
outside_breaks w r rows fault (inl e) k = subst (Breaks w (Ok r) rows) (sym e) k
outside_breaks w r rows fault (inr e) k = subst (Breaks w (Ok r) rows) (sym e) k

-- ---- a commit

-- the world behind the commit of a node that is there
commit_at_is : (w : World) (node slot : ℕ) (p : Node) (o : Option Block) → slice_get w.nodes node ≡ Some p → get w.slots slot ≡ o
    → commit_at w node slot ≡ (record { nodes = slice_set w.nodes node (commit_slot o p).0; slots = w.slots; rows = rows_behind w.rows (Some p) o }, (commit_slot o p).1)
commit_at_is w node slot p o at filled =
    let told : Option Node → Option Block → World × Answer = λ q b. let r = node_acts w q node (commit_slot b) in (record r.0 { rows = rows_behind w.rows q b }, r.1) in
    ap (λ (q : Option Node). told q (get w.slots slot)) at ∙ ap (told (Some p)) filled

-- a change of the rows alone leaves what the program holds
pub with_rows : (r : World × Answer) (rows : Rows) (c : Cluster) (answer : Answer) → HasActed r c answer → HasActed (record r.0 { rows = rows }, r.1) c answer
with_rows r rows c answer h = record { answered = h.answered; stands = record { nodes = h.stands.nodes; slots = h.stands.slots; idle = h.stands.idle } }

-- the rows behind a commit are those of the world behind it
commit_keeps : (before after : Option Rows) (w : World) (node : ℕ) (p : Node) (b : Block) (r : Result (Node × List ℕ) Bad) → commit p b ≡ r → slice_get w.nodes node ≡ Some p
    → KeepsBlock before after p b → KeepsRows before w
    → KeepsRows after (record { nodes = slice_set w.nodes node (commit_answer p b r).0; slots = w.slots; rows = rows_with w.rows p.number b r })
commit_keeps before after w node p b (Ok q) e at k h =
    let key = place_of p.number b.height in
    let rows = insert w.rows key (block_bytes b) in
    let x = placed_again q.0 in
    let same = (committed_grows p b q e).number in
    record {
      told = k.rows w.rows h.told ∙ ap (λ (r : Result (Node × List ℕ) Bad). Some (rows_with w.rows p.number b r)) e;
      numbered = numbers_set w.nodes node p x at same h.numbered;
      begun =
          all_set (HasFirst rows) w.nodes node x (All-weaker (HasFirst w.rows) (HasFirst rows) (λ y f. first_stays w.rows key (block_bytes b) y f) w.nodes h.begun)
          (first_of rows p x same (first_stays w.rows key (block_bytes b) p (all_at (HasFirst w.rows) w.nodes node p at h.begun)));
    }
commit_keeps before after w node p b (Err bad) e at k h = record {
  told = k.rows w.rows h.told ∙ ap (λ (r : Result (Node × List ℕ) Bad). Some (rows_with w.rows p.number b r)) e;
  numbered = numbers_set w.nodes node p p at refl h.numbered;
  begun = all_set (HasFirst w.rows) w.nodes node p h.begun (all_at (HasFirst w.rows) w.nodes node p at h.begun);
}

-- a node committed the block of a slot
pub commit_kept : (c : Cluster) (w : World) (node slot : ℕ) (b : Block) (old : Held) (before after : Option Rows) → Stands c w → node < length c.nodes.items → Some b ≡ get c.slots slot → old ≡ get_or c.nodes.items node old
    → ((p : Node) → StandsFor old p → KeepsBlock before after p b) → KeepsRows before w → KeepsRows after (commit_at w node slot).0
commit_kept c w node slot b old before after st l filled o k h =
    let p = found StandsFor c.nodes.items w.nodes node st.nodes l in
    subst (λ (r : World × Answer). KeepsRows after r.0) (sym (commit_at_is w node slot p.0 (Some b) p.1 (slot_of c w slot (Some b) st filled)))
    (commit_keeps before after w node p.0 b (commit p.0 b) refl p.1 (k p.0 (p.2 old o)) h)

-- a slot that was never filled
pub empty_kept : (c : Cluster) (w : World) (node slot : ℕ) (rows : Option Rows) → Stands c w → node < length c.nodes.items → None ≡ get c.slots slot → KeepsRows rows w → KeepsRows rows (commit_at w node slot).0
empty_kept c w node slot rows st l filled h =
    let p = found StandsFor c.nodes.items w.nodes node st.nodes l in
    subst (λ (r : World × Answer). KeepsRows rows r.0) (sym (commit_at_is w node slot p.0 None p.1 (slot_of c w slot None st filled))) (set_keeps rows w node p.0 p.0 p.1 refl h)

-- what follows where a call answers
pub both_done : {T E : Type 0} (r : Result T E) (P Q : T → Type 0) (X : Type 0) → ((x : T) → P x → X → Q x) → IfOk r P → OnOk r X → IfOk r Q
both_done (Ok x) P Q X f h k = f x h k
both_done (Err e) P Q X f h k = tt

pub stands_done : {T E : Type 0} (r : Result T E) (P : T → Type 0) (X : Type 0) → ((x : T) → P x → X) → IfOk r P → OnOk r X
stands_done (Ok x) P X f h = f x h
stands_done (Err e) P X f h = tt

-- and where it fails
pub both_err : {T E : Type 0} (r : Result T E) (P Q : E → Type 0) (X : Type 0) → ((e : E) → P e → X → Q e) → IfErr r P → OnErr r X → IfErr r Q
both_err (Ok x) P Q X f h k = tt
both_err (Err e) P Q X f h k = f e h k

pub on_ok : {T E : Type 0} (r : Result T E) (X Y : Type 0) → (X → Y) → OnOk r X → OnOk r Y
on_ok (Ok x) X Y f h = f h
on_ok (Err e) X Y f h = tt

pub if_err : {T E : Type 0} (r : Result T E) (P Q : E → Type 0) → ((e : E) → P e → Q e) → IfErr r P → IfErr r Q
if_err (Ok x) P Q f h = tt
if_err (Err e) P Q f h = f e h

-- a node's commit is not answered
pub commit_ended : (c : Cluster) (w : World) (node slot : ℕ) (b : Block) (old : Held) (before after : Option Rows) (fault : StartFault) → Stands c w → node < length c.nodes.items → Some b ≡ get c.slots slot → old ≡ get_or c.nodes.items node old
    → IsOutside fault → ((p : Node) → StandsFor old p → MayKeepBlock before after p b) → KeepsRows before w → Breaks w (Ok (commit_at w node slot)) after fault
commit_ended c w node slot b old before after fault st l filled o outside k h =
    let p = found StandsFor c.nodes.items w.nodes node st.nodes l in
    subst (λ (r : World × Answer). Breaks w (Ok r) after fault) (sym (commit_at_is w node slot p.0 (Some b) p.1 (slot_of c w slot (Some b) st filled)))
    (outside_breaks w (record { nodes = slice_set w.nodes node (commit_slot (Some b) p.0).0; slots = w.slots; rows = rows_behind w.rows (Some p.0) (Some b) }, (commit_slot (Some b) p.0).1) after fault outside
    (k p.0 (p.2 old o) w.rows h.told))

-- ---- a turn by the rows as they stand

-- a turn leaves a node's number, and no order to place again
abbrev pub KeepsName : Node → Turn → Type 0
KeepsName p turn = IfOk turn (λ r. (r.0.number ≡ p.number) × IsIdle r.0)

turn_at_is : (w : World) (node : ℕ) (turn : Rows → Node → Turn) (p : Node) → slice_get w.nodes node ≡ Some p → turn_at w node turn ≡ turned w node (turn w.rows p)
turn_at_is w node turn p at = ap (λ (q : Option Node). node_turns w q node turn) at

-- a node has taken a turn, and the rows are as before
pub turn_gone : (c d : Cluster) (w : World) (node : ℕ) (turn : Rows → Node → Turn) (old new : Held) (answer : Answer) (before after : Option Rows) → Stands c w → node < length c.nodes.items → old ≡ get_or c.nodes.items node old
    → ((p : Node) → slice_get w.nodes node ≡ Some p → StandsFor old p → IsIdle p → GivesTurn new answer (turn w.rows p) × KeepsName p (turn w.rows p))
    → KeepsRows before w → after ≡ Some w.rows → d.nodes.items ≡ slice_set c.nodes.items node new → d.slots ≡ c.slots → HasGone (turn_at w node turn) d answer after
turn_gone c d w node turn old new answer before after st l o f h same ns ss =
    let p = found StandsFor c.nodes.items w.nodes node st.nodes l in
    let t = f p.0 p.1 (p.2 old o) (all_at IsIdle w.nodes node p.0 p.1 st.idle) in
    subst (λ (r : Goes). HasGone r d answer after) (sym (turn_at_is w node turn p.0 p.1)) (go p.0 p.1 (turn w.rows p.0) t.0 t.1)
  where
    go : (p : Node) → slice_get w.nodes node ≡ Some p → (t : Turn) → GivesTurn new answer t → KeepsName p t → HasGone (turned w node t) d answer after
    go p at (Err unkept) g k = absurd g
    go p at (Ok r) g k = (
      record {
        answered = g.1;
        stands = record {
          nodes = subst (λ xs. AllZip StandsFor xs (slice_set w.nodes node r.0)) (sym ns) (both_set StandsFor c.nodes.items w.nodes node new r.0 st.nodes g.0);
          slots = ss ∙ st.slots;
          idle = all_set IsIdle w.nodes node r.0 st.idle k.1;
        };
      },
      (let m = set_keeps before w node p r.0 at k.0 h in record { told = same; numbered = m.numbered; begun = m.begun }),
    )

-- a node's number is that of its place
at_place : (w : World) (node : ℕ) (p : Node) → AreNumbered 0 w.nodes → slice_get w.nodes node ≡ Some p → p.number ≡ node
at_place w node p m at = let none : 0 + node ≡ node = omega arith in number_at w.nodes 0 node p m at ∙ none

-- a turn ends the run, and the rows are as before
pub turn_breaks : (w : World) (node : ℕ) (turn : Rows → Node → Turn) (p : Node) (rows : Option Rows) (fault : StartFault) → slice_get w.nodes node ≡ Some p → AreNumbered 0 w.nodes → rows ≡ Some w.rows
    → TurnRefused p (turn w.rows p) fault → Breaks w (turn_at w node turn) rows fault
turn_breaks w node turn p rows (starts.KeptBad n height) at m same r =
    let own : n ≡ node = r.0 ∙ at_place w node p m at in
    (turn_at_is w node turn p at ∙ ap (turned w node) r.1 ∙ ap (λ (k : ℕ). Err (k, BadAt height)) (sym own), same)
turn_breaks w node turn p rows (starts.KeptOther n theirs ours) at m same r =
    let own : n ≡ node = r.0 ∙ at_place w node p m at in (
      turn_at_is w node turn p at ∙ ap (turned w node) r.1 ∙ ap (λ (k : ℕ). Err (k, OtherGenesis theirs)) (sym own),
      subst (λ (o : Option Node). IfSome o (λ q. ours ≡ digest_of q.genesis)) (sym (ap (slice_get w.nodes) own ∙ at)) r.2,
      same,
    )
turn_breaks w node turn p rows starts.KeepFault at m same r = inl same
turn_breaks w node turn p rows starts.NoMemory at m same r = inl same

-- ---- a restart

restarted_name : (p : Node) (k : Result (List Block) Unkept) → KeepsName p (restarted_by p k)
restarted_name p (Ok blocks) = ((started_over p blocks).number, started_idle p blocks)
restarted_name p (Err unkept) = tt

-- a node that starts from its rows does what the definition says
restart_gives : (before : Option Rows) (rows : Rows) (p : Node) (new : Held) (height : ℕ) → before ≡ Some rows → Starts before p new height → GivesTurn new (answers.Done (Some height)) (restart_node rows p)
restart_gives before rows p new height e s =
    let told : kept p.genesis rows p.number ≡ Ok s.blocks = subst (λ (o : Option Rows). AreKept o p s.blocks) e s.chain in
    subst (λ (k : Result (List Block) Unkept). GivesTurn new (answers.Done (Some height)) (restarted_by p k)) (sym told) (s.stands, ap (λ (n : ℕ). answers.Done (Some n)) s.told)

-- the rows behind it are those before it, since the node has its first row
begun_are : (before after : Option Rows) (w : World) (node : ℕ) (p : Node) → slice_get w.nodes node ≡ Some p → BeginsRows before after p → KeepsRows before w → after ≡ Some w.rows
begun_are before after w node p at b h = begins_are before after w.rows p h.told b ∙ ap Some (first_begun w.rows p p.genesis (all_at (HasFirst w.rows) w.nodes node p at h.begun))

pub restart_gone : (c d : Cluster) (w : World) (node : ℕ) (old new : Held) (before after : Option Rows) (height : ℕ) → Stands c w → node < length c.nodes.items → old ≡ get_or c.nodes.items node old
    → ((p : Node) → StandsFor old p → Starts before p new height) → ((p : Node) → StandsFor old p → BeginsRows before after p) → KeepsRows before w → d.nodes.items ≡ slice_set c.nodes.items node new → d.slots ≡ c.slots
    → HasGone (turn_at w node restart_node) d (answers.Done (Some height)) after
restart_gone c d w node old new before after height st l o s b h ns ss =
    let p = found StandsFor c.nodes.items w.nodes node st.nodes l in
    turn_gone c d w node restart_node old new (answers.Done (Some height)) before after st l o
    (λ q at stands idle. (restart_gives before w.rows q new height h.told (s q stands), restarted_name q (kept q.genesis w.rows q.number)))
    h (begun_are before after w node p.0 p.1 (b p.0 (p.2 old o)) h) ns ss

-- whatever its rows are, the program stands for some world behind it
pub restart_stands : (c d : Cluster) (node : ℕ) (old new : Held) (before : Option Rows) (height : ℕ) → StandsForSome c → node < length c.nodes.items → old ≡ get_or c.nodes.items node old
    → ((p : Node) → StandsFor old p → Starts before p new height) → d.nodes.items ≡ slice_set c.nodes.items node new → d.slots ≡ c.slots → StandsForSome d
restart_stands c d node old new before height some l o s ns ss =
    let w = some.0 in
    let p = found StandsFor c.nodes.items w.nodes node some.1.nodes l in
    let k = s p.0 (p.2 old o) in
    let act : Node → Node × Answer = λ q. (started p.0 k.blocks, answers.Absent) in
    let a = has_acted_at c d w node act old new answers.Absent some.1 l o (λ q at stands. (k.stands, refl)) (λ q idle. started_idle p.0 k.blocks) ns ss in
    ((act_at w node act).0, a.stands)

-- the rows before, which are those behind
either_same : (after : Option Rows) (before behind : Rows) → behind ≡ before → AreEither after before behind → after ≡ Some before
either_same after before behind same (inl e) = e
either_same after before behind same (inr e) = e ∙ ap Some same

-- a restart that does not come about leaves the rows
restart_refused : (rows : Rows) (p : Node) (after : Option Rows) (fault : StartFault) → HasFirst rows p → StartRefused rows p after fault → TurnRefused p (restart_node rows p) fault × (after ≡ Some rows)
restart_refused rows p after (starts.KeptBad node height) has r = ((r.0, ap (restarted_by p) r.1), r.2)
restart_refused rows p after (starts.KeptOther node theirs ours) has r = ((r.0, ap (restarted_by p) r.1, r.2), r.3)
restart_refused rows p after starts.KeepFault has r = (tt, either_same after rows (begun rows p.number p.genesis) (first_begun rows p p.genesis has) r)
restart_refused rows p after starts.NoMemory has r = (tt, either_same after rows (begun rows p.number p.genesis) (first_begun rows p p.genesis has) r)

pub restart_ended : (c : Cluster) (w : World) (node : ℕ) (old : Held) (before after : Option Rows) (fault : StartFault) → Stands c w → node < length c.nodes.items → old ≡ get_or c.nodes.items node old
    → ((p : Node) → StandsFor old p → (rows : Rows) → before ≡ Some rows → StartRefused rows p after fault) → KeepsRows before w → Breaks w (turn_at w node restart_node) after fault
restart_ended c w node old before after fault st l o r h =
    let p = found StandsFor c.nodes.items w.nodes node st.nodes l in
    let k = restart_refused w.rows p.0 after fault (all_at (HasFirst w.rows) w.nodes node p.0 p.1 h.begun) (r p.0 (p.2 old o) w.rows h.told) in
    turn_breaks w node restart_node p.0 after fault p.1 h.numbered k.1 k.0

-- ---- a resume

-- the program stands for some world behind a turn, whatever the rows are
pub turn_stands : (c d : Cluster) (node : ℕ) (old new : Held) → StandsForSome c → node < length c.nodes.items → old ≡ get_or c.nodes.items node old
    → ((p : Node) → StandsFor old p → IsIdle p → StandsForOne new) → d.nodes.items ≡ slice_set c.nodes.items node new → d.slots ≡ c.slots → StandsForSome d
turn_stands c d node old new some l o s ns ss =
    let w = some.0 in
    let p = found StandsFor c.nodes.items w.nodes node some.1.nodes l in
    let k = s p.0 (p.2 old o) (all_at IsIdle w.nodes node p.0 p.1 some.1.idle) in
    let act : Node → Node × Answer = λ q. (k.0, answers.Absent) in
    let a = has_acted_at c d w node act old new answers.Absent some.1 l o (λ q at stands. (k.1, refl)) (λ q idle. k.2) ns ss in
    ((act_at w node act).0, a.stands)

-- a node that has resumed and placed its orders again
pub resumed_stands : (rows : Option Rows) (p : Node) (s : State) (mid new : Held) (height : ℕ) → Resumes rows p s mid height → ((q : Node) → StandsFor mid q → StandsFor new (placed_again q)) → StandsForOne new
resumed_stands rows p s mid new height r f = let q = resumed p s r.blocks in (placed_again q, f q r.stands, placing_all_empties_list q)

-- one that is as before
pub same_stands : (old new : Held) (p : Node) → new ≡ old → StandsFor old p → IsIdle p → StandsForOne new
same_stands old new p e st idle = (p, subst (λ (h : Held). StandsFor h p) (sym e) st, idle)

pub any_ok : {T E : Type 0} (r : Result T E) (X : Type 0) → X → OnOk r X
any_ok (Ok x) X h = h
any_ok (Err e) X h = tt

resumed_name : (p : Node) (s : State) (k : Result (List Block) Unresumed) → IsIdle p → KeepsName p (resumed_by p s k)
resumed_name p s (Ok blocks) h = ((placed_same (resumed p s blocks)).number ∙ (resumed_names p s blocks).0, placing_all_empties_list (resumed p s blocks))
resumed_name p s (Err (AheadOf rows)) h = (refl, h)
resumed_name p s (Err (Broken unkept)) h = tt

read_name : (rows : Rows) (p : Node) (r : Result (Option State) Unread) → IsIdle p → KeepsName p (from_snapshot rows p r)
read_name rows p (Ok None) h = (refl, h)
read_name rows p (Ok (Some s)) h = resumed_name p s (resumable p.genesis s rows p.number) h
read_name rows p (Err unread) h = (refl, h)

-- a node of its number
pub own_number : (before : Option Rows) (w : World) (node : ℕ) (p : Node) → slice_get w.nodes node ≡ Some p → KeepsRows before w → p.number ≡ node
own_number before w node p at h = at_place w node p h.numbered at

-- a node has resumed
pub resume_gone : (c d : Cluster) (w : World) (node height : ℕ) (old new : Held) (answer : Answer) (before after : Option Rows) → Stands c w → node < length c.nodes.items → old ≡ get_or c.nodes.items node old
    → ((p : Node) → StandsFor old p → p.number ≡ node → (rows : Rows) → before ≡ Some rows → GivesTurn new answer (resume_node height rows p)) → SameRows before after → KeepsRows before w
    → d.nodes.items ≡ slice_set c.nodes.items node new → d.slots ≡ c.slots → HasGone (turn_at w node (resume_node height)) d answer after
resume_gone c d w node height old new answer before after st l o g same h ns ss =
    turn_gone c d w node (resume_node height) old new answer before after st l o
    (λ p at stands idle. (g p stands (own_number before w node p at h) w.rows h.told, read_name w.rows p (snapshot_at p.genesis w.rows p.number height) idle))
    h (same_are before after w.rows h.told same) ns ss

pub resume_ended : (c : Cluster) (w : World) (node height : ℕ) (old : Held) (before after : Option Rows) (fault : StartFault) → Stands c w → node < length c.nodes.items → old ≡ get_or c.nodes.items node old
    → ((p : Node) → StandsFor old p → p.number ≡ node → (rows : Rows) → before ≡ Some rows → TurnRefused p (resume_node height rows p) fault) → SameRows before after → KeepsRows before w
    → Breaks w (turn_at w node (resume_node height)) after fault
resume_ended c w node height old before after fault st l o r same h =
    let p = found StandsFor c.nodes.items w.nodes node st.nodes l in
    turn_breaks w node (resume_node height) p.0 after fault p.1 h.numbered (same_are before after w.rows h.told same)
    (r p.0 (p.2 old o) (own_number before w node p.0 p.1 h) w.rows h.told)

-- ---- a snapshot

snap_at_is : (w : World) (node : ℕ) (p : Node) → slice_get w.nodes node ≡ Some p → snap_at w node ≡ node_snaps w (Some p)
snap_at_is w node p at = ap (node_snaps w) at

pub snap_kept : (c : Cluster) (w : World) (node : ℕ) (old : Held) (answer : Answer) (before after : Option Rows) → Stands c w → node < length c.nodes.items → old ≡ get_or c.nodes.items node old
    → ((p : Node) → StandsFor old p → answer ≡ (tell_digest p).1) → ((p : Node) → StandsFor old p → SetsRow before after (snapshot_place node (height_of p)) (snapshot_bytes (committed p)))
    → KeepsRows before w → HasKept (snap_at w node) c answer after
snap_kept c w node old answer before after st l o a s h =
    let p = found StandsFor c.nodes.items w.nodes node st.nodes l in
    let q = p.0 in
    let stands = p.2 old o in
    let own = own_number before w node q p.1 h in
    let key = snapshot_place q.number (height_of q) in
    let rows = insert w.rows key (snapshot_bytes (committed q)) in
    let set : after ≡ Some rows = sets_are before after w.rows key (snapshot_bytes (committed q)) h.told (subst (λ (n : ℕ). SetsRow before after (snapshot_place n (height_of q)) (snapshot_bytes (committed q))) (sym own) (s q stands)) in
    subst (λ (r : World × Answer). HasKept r c answer after) (sym (snap_at_is w node q p.1)) (
      record { answered = a q stands; stands = record { nodes = st.nodes; slots = st.slots; idle = st.idle } },
      record {
        told = set;
        numbered = h.numbered;
        begun = All-weaker (HasFirst w.rows) (HasFirst rows) (λ y f. first_stays w.rows key (snapshot_bytes (committed q)) y f) w.nodes h.begun;
      },
    )

pub snap_ended : (w : World) (node : ℕ) (before after : Option Rows) (fault : StartFault) → IsOutside fault → SameRows before after → KeepsRows before w → Breaks w (Ok (snap_at w node)) after fault
snap_ended w node before after fault outside same h = outside_breaks w (snap_at w node) after fault outside (inl (same_are before after w.rows h.told same))

-- ---- what is kept has bytes

pub commit_fits : (c : Cluster) (w : World) (node slot : ℕ) (b : Block) (old : Held) (before after : Option Rows) → Stands c w → node < length c.nodes.items → Some b ≡ get c.slots slot → old ≡ get_or c.nodes.items node old
    → ((p : Node) → StandsFor old p → KeepsBlock before after p b) → CommitFits (slice_get w.nodes node) (get w.slots slot)
commit_fits c w node slot b old before after st l filled o k =
    let p = found StandsFor c.nodes.items w.nodes node st.nodes l in
    subst (λ (q : Option Node). CommitFits q (get w.slots slot)) (sym p.1)
    (subst (CommitFits (Some p.0)) (sym (slot_of c w slot (Some b) st filled)) (k p.0 (p.2 old o)).fits)

pub snap_fits : (c : Cluster) (w : World) (node : ℕ) (old : Held) → Stands c w → node < length c.nodes.items → old ≡ get_or c.nodes.items node old
    → ((p : Node) → StandsFor old p → FitsNames (committed p)) → SnapFits (slice_get w.nodes node)
snap_fits c w node old st l o names =
    let p = found StandsFor c.nodes.items w.nodes node st.nodes l in
    subst SnapFits (sym p.1) (names p.0 (p.2 old o))

-- nor does an event keep anything that reads and sets no rows
pub beside_fits : (w : World) (event : Event) → uses_rows event ≡ false → EventFits w event
beside_fits w (events.Commit node slot) e = absurd (cc)
beside_fits w (events.Snap node) e = absurd (cc)
beside_fits w event e = tt
