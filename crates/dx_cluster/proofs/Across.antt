-- What an event keeps of each node over the rows, whichever node it happens at.
use Rattle.std.proofs.Common.{◌≡◌, ◌<◌, ◌≤◌, ◌+◌, ◌==◌, ℕ, Bool, true, false, List, [], ◌∷◌, length, get_or, arith, refl, sym, ap, subst, ◌∙◌, inl, inr, Option, Some, None, Result, Ok, Err}
use Rattle.std.specs.Prelude.{◌⊎◌, slice_get, slice_set, IfOk, All}
use Rattle.std.specs.List.{AllZip, range_with_len}
use Rattle.std.specs.FinMap.{get, insert}
use Rattle.std.proofs.lemmas.Bool.Decides.{nat_tests}
use Rattle.std.proofs.lemmas.Slice.Zip.{AllZip-long}
use Rattle.dx_types.specs.declared.Block.{Block}
use Rattle.dx_types.specs.declared.Bad.{Bad}
use Rattle.dx_types.specs.declared.Genesis.{Genesis}
use Rattle.dx_spec.specs.State.{State}
use Rattle.dx_io.specs.Rows.{Rows}
use Rattle.dx_codec.specs.Blocks.{block_bytes}
use Rattle.dx_history.specs.Rows.{place_of}
use Rattle.dx_history.specs.Chains.{Unkept, kept}
use Rattle.dx_snapshot.specs.Snapshots.{Unread, first_number as first_snapshot, snapshot_bytes, snapshot_at}
use Rattle.dx_node_spec.specs.Node.{Node, committed}
use Rattle.dx_node_spec.specs.Placing.{Refusal}
use Rattle.dx_node_spec.specs.Commits.{commit, placed_again, resumed}
use Rattle.dx_node_spec.specs.Proposals.{propose}
use Rattle.dx_node.specs.Resumes.{Unresumed, AheadOf, Broken, resumable}
use Rattle.dx_speculation.specs.Faithful.{SameBlocks}
use Rattle.dx_speculation.specs.NodeEvents.{after as node_after}
use Rattle.dx_speculation.proofs.Roots.{other_events_keep_blocks}
use Rattle.dx_scenario.specs.declared.event.Event.{Event}
use Rattle.dx_scenario.specs.declared.event.Event.TheVariants as events
use Rattle.dx_print.specs.declared.words.Word.{Word}
use Rattle.dx_print.specs.declared.words.Word.TheVariants as words
use Rattle.dx_print.specs.declared.answer.Answer.{Answer}
use Rattle.dx_print.specs.declared.replies.Reply.{Reply}
use Rattle.dx_cluster.specs.Acts.{height_of, commit_answer, commit_slot}
use Rattle.dx_cluster.specs.Snapshots.{Turn, restarted_by, restart_node, resumed_by, from_snapshot, resume_node}
use Rattle.dx_cluster.specs.World.{World, Steps, node_acts, act_at, put_proposal, node_proposes, rows_with, rows_behind, node_snaps, turned, node_turns, replied, step}
use Rattle.dx_cluster.specs.Laws.{is_start}
use Rattle.dx_cluster.proofs.Everywhere.{AreNumbered, all_set, all_at, all_along, map_along, all_low, all_changed}
use Rattle.dx_cluster.proofs.Living.{if_ok}
use Rattle.dx_cluster.proofs.Chains.{placed_same, started_over, committing_names, resumed_names}
use Rattle.dx_cluster.proofs.Keeping.{stepped}
use Rattle.dx_cluster.proofs.Worlds.{same_set}

-- two facts of one step
pub both_of : (r : Steps) (P Q R : World × Reply → Type 0) → ((x : World × Reply) → P x → Q x → R x) → IfOk r P → IfOk r Q → IfOk r R
both_of (Ok x) P Q R f p q = f x p q
both_of (Err unkept) P Q R f p q = tt

-- ---- rows

-- a block is committed
abbrev pub commits : Event → Bool
commits (events.Commit node slot) = true
commits event = false

-- a snapshot is kept
abbrev pub snaps : Event → Bool
snaps (events.Snap node) = true
snaps event = false

act_rows : (w : World) (node : ℕ) (act : Node → Node × Answer) → (act_at w node act).0.rows ≡ w.rows
act_rows w node act = go (slice_get w.nodes node)
  where
    go : (o : Option Node) → (node_acts w o node act).0.rows ≡ w.rows
    go None = refl
    go (Some p) = refl

put_rows : (w : World) (slot : ℕ) (r : Result Block Refusal) → (put_proposal w slot r).0.rows ≡ w.rows
put_rows w slot (Ok b) = refl
put_rows w slot (Err cause) = refl

propose_rows : (w : World) (o : Option Node) (slot time : ℕ) → (node_proposes w o slot time).0.rows ≡ w.rows
propose_rows w None slot time = refl
propose_rows w (Some p) slot time = put_rows w slot (propose p time)

turn_rows : (w : World) (o : Option Node) (node : ℕ) (turn : Rows → Node → Turn) (word : Word) → IfOk (replied word (node_turns w o node turn)) (λ r. r.0.rows ≡ w.rows)
turn_rows w None node turn word = refl
turn_rows w (Some p) node turn word = go (turn w.rows p)
  where
    go : (t : Turn) → IfOk (replied word (turned w node t)) (λ r. r.0.rows ≡ w.rows)
    go (Ok r) = refl
    go (Err unkept) = tt

-- nothing but a commit and a snapshot sets a row
pub rows_stay : (w : World) (event : Event) → commits event ≡ false → snaps event ≡ false → IfOk (step w event) (λ r. r.0.rows ≡ w.rows)
rows_stay w event = elim event as (λ e. commits e ≡ false → snaps e ≡ false → IfOk (step w e) (λ r. r.0.rows ≡ w.rows)) [
  | events.Handed slot block ↦ λ k s. refl
  | events.Show slot ↦ λ k s. refl
  | events.Propose node slot time ↦ λ k s. propose_rows w (slice_get w.nodes node) slot time
  | events.Commit node slot ↦ λ k s. absurd (cc)
  | events.Restart node ↦ λ k s. turn_rows w (slice_get w.nodes node) node restart_node words.Restart
  | events.Snap node ↦ λ k s. absurd (cc)
  | events.Resume node height ↦ λ k s. turn_rows w (slice_get w.nodes node) node (resume_node height) words.Resume
  | _ ↦ λ k s. search act_rows
]

-- ---- names

-- a node has the number and the genesis of another
pub record SameNames (p q : Node) : Type 0 where
  pub number : q.number ≡ p.number
  pub genesis : q.genesis ≡ p.genesis

restarted_names : (p : Node) (k : Result (List Block) Unkept) → IfOk (restarted_by p k) (λ r. SameNames p r.0)
restarted_names p (Ok blocks) = let s = started_over p blocks in record { number = s.number; genesis = s.genesis }
restarted_names p (Err unkept) = tt

gone_on_names : (p : Node) (s : State) (k : Result (List Block) Unresumed) → IfOk (resumed_by p s k) (λ r. SameNames p r.0)
gone_on_names p s (Ok blocks) =
    let n = resumed_names p s blocks in
    let a = placed_same (resumed p s blocks) in
    record { number = a.number ∙ n.0; genesis = a.genesis ∙ n.1 }
gone_on_names p s (Err (AheadOf rows)) = record { number = refl; genesis = refl }
gone_on_names p s (Err (Broken unkept)) = tt

read_names : (rows : Rows) (p : Node) (r : Result (Option State) Unread) → IfOk (from_snapshot rows p r) (λ x. SameNames p x.0)
read_names rows p (Ok None) = record { number = refl; genesis = refl }
read_names rows p (Ok (Some s)) = gone_on_names p s (resumable p.genesis s rows p.number)
read_names rows p (Err unread) = record { number = refl; genesis = refl }

-- every event leaves the names of each node
names_stay : (w : World) (event : Event) → IfOk (step w event) (λ r. AllZip SameNames w.nodes r.0.nodes)
names_stay w event =
    stepped SameNames (λ p. record { number = refl; genesis = refl })
    (λ p happens other. let k = (other_events_keep_blocks p happens other).0 in record { number = k.number; genesis = k.genesis }) w event
    (λ node slot e p. let k = committing_names (get w.slots slot) p in record { number = k.0; genesis = k.1 })
    (λ node e p. restarted_names p (kept p.genesis w.rows p.number))
    (λ node height e p. read_names w.rows p (snapshot_at p.genesis w.rows p.number height))

numbers_of : (ps qs : List Node) → AllZip SameNames ps qs → AllZip (λ p q. q.number ≡ p.number) ps qs
numbers_of [] [] z = tt
numbers_of [] (q ∷ qs) z = absurd z
numbers_of (p ∷ ps) [] z = absurd z
numbers_of (p ∷ ps) (q ∷ qs) z = (z.0.number, numbers_of ps qs z.1)

geneses_of : (g : Genesis) (ps qs : List Node) → AllZip SameNames ps qs → AllZip (λ p q. p.genesis ≡ g → q.genesis ≡ g) ps qs
geneses_of g [] [] z = tt
geneses_of g [] (q ∷ qs) z = absurd z
geneses_of g (p ∷ ps) [] z = absurd z
geneses_of g (p ∷ ps) (q ∷ qs) z = (λ e. z.0.genesis ∙ e, geneses_of g ps qs z.1)

-- the nodes of a run: they are numbered from 0, and of one genesis
pub record AreNodes (g : Genesis) (ps : List Node) : Type 0 where
  pub numbered : AreNumbered 0 ps
  pub geneses : All (λ p. p.genesis ≡ g) ps

pub numbers_stay : (w : World) (event : Event) → AreNumbered 0 w.nodes → IfOk (step w event) (λ r. AreNumbered 0 r.0.nodes)
numbers_stay w event h =
    if_ok (step w event) (λ r. AllZip SameNames w.nodes r.0.nodes) (λ r. AreNumbered 0 r.0.nodes)
    (λ r z. map_along (λ (p : Node). p.number) w.nodes r.0.nodes (numbers_of w.nodes r.0.nodes z) ∙ h ∙ ap (range_with_len 0) (sym (AllZip-long SameNames w.nodes r.0.nodes z)))
    (names_stay w event)

pub nodes_stay : (g : Genesis) (w : World) (event : Event) → AreNodes g w.nodes → IfOk (step w event) (λ r. AreNodes g r.0.nodes)
nodes_stay g w event h =
    both_of (step w event) (λ r. AllZip SameNames w.nodes r.0.nodes) (λ r. AreNumbered 0 r.0.nodes) (λ r. AreNodes g r.0.nodes)
    (λ r z n. record { numbered = n; geneses = all_along (λ p. p.genesis ≡ g) w.nodes r.0.nodes (geneses_of g w.nodes r.0.nodes z) h.geneses })
    (names_stay w event) (numbers_stay w event h.numbered)

-- and there are as many
pub count_stays : (w : World) (event : Event) → IfOk (step w event) (λ r. length r.0.nodes ≡ length w.nodes)
count_stays w event =
    if_ok (step w event) (λ r. AllZip SameNames w.nodes r.0.nodes) (λ r. length r.0.nodes ≡ length w.nodes) (λ r z. AllZip-long SameNames w.nodes r.0.nodes z) (names_stay w event)

-- a snapshot stands at another number
apart : (node other : ℕ) → other < 16 → (other == first_snapshot + node) ≡ false
apart node other few = grind (arith, nat_tests, few)

-- ---- what holds of each node over the rows

-- it holds of a node of the same blocks and the same state
abbrev pub SameKeeps : (Rows → Node → Type 0) → Type 0
SameKeeps P = (rows : Rows) (p q : Node) → SameBlocks p q → committed q ≡ committed p → P rows p → P rows q

-- it stays so where a row of another number is set
abbrev pub OthersKeep : (Rows → Node → Type 0) → Type 0
OthersKeep P = (rows : Rows) (m height : ℕ) (bytes : List ℕ) (p : Node) → (p.number == m) ≡ false → P rows p → P (insert rows (place_of m height) bytes) p

-- and where a block is committed
abbrev pub CommitsKeep : (Rows → Node → Type 0) → World → Event → Type 0
CommitsKeep P w event = (node slot : ℕ) → event ≡ events.Commit node slot → (p : Node) (b : Block) (q : Node × List ℕ) → slice_get w.nodes node ≡ Some p → get w.slots slot ≡ Some b
    → commit p b ≡ Ok q → P w.rows p → P (insert w.rows (place_of p.number b.height) (block_bytes b)) (placed_again q.0)

-- and where a node starts anew
abbrev pub RestartsKeep : (Rows → Node → Type 0) → Type 0
RestartsKeep P = (rows : Rows) (p : Node) → P rows p → IfOk (restart_node rows p) (λ r. P rows r.0)

-- or goes on from a snapshot
abbrev pub ResumesKeep : (Rows → Node → Type 0) → World → Event → Type 0
ResumesKeep P w event = (node height : ℕ) → event ≡ events.Resume node height → (p : Node) → slice_get w.nodes node ≡ Some p → P w.rows p
    → IfOk (resume_node height w.rows p) (λ r. P w.rows r.0)

module _ (P : Rows → Node → Type 0) where
  -- what everything that happens at a node keeps beside its blocks
  beside_all : SameKeeps P → (w : World) (event : Event) → commits event ≡ false → is_start event ≡ false → All (P w.rows) w.nodes → IfOk (step w event) (λ r. All (P w.rows) r.0.nodes)
  beside_all same w event c s h =
      if_ok (step w event) (λ r. AllZip (λ p q. P w.rows p → P w.rows q) w.nodes r.0.nodes) (λ r. All (P w.rows) r.0.nodes) (λ r z. all_along (P w.rows) w.nodes r.0.nodes z h)
      (stepped (λ p q. P w.rows p → P w.rows q) (λ p g. g)
      (λ p happens other. let k = other_events_keep_blocks p happens other in same w.rows p (node_after p happens) k.0 k.1) w event
      (λ node slot e. absurd (let i : true ≡ false = ap commits (sym e) ∙ c in cc))
      (λ node e. absurd (let i : true ≡ false = ap is_start (sym e) ∙ s in cc))
      (λ node height e. absurd (let i : true ≡ false = ap is_start (sym e) ∙ s in cc)))

  beside_keeps : SameKeeps P → (w : World) (event : Event) → commits event ≡ false → snaps event ≡ false → is_start event ≡ false → All (P w.rows) w.nodes → IfOk (step w event) (λ r. All (P r.0.rows) r.0.nodes)
  beside_keeps same w event c n s h =
      both_of (step w event) (λ r. All (P w.rows) r.0.nodes) (λ r. r.0.rows ≡ w.rows) (λ r. All (P r.0.rows) r.0.nodes)
      (λ r all e. subst (λ (rows : Rows). All (P rows) r.0.nodes) (sym e) all) (beside_all same w event c s h) (rows_stay w event c n)

  turn_keeps : (w : World) (node : ℕ) (turn : Rows → Node → Turn) (word : Word) (o : Option Node) → slice_get w.nodes node ≡ o → ((p : Node) → slice_get w.nodes node ≡ Some p → P w.rows p → IfOk (turn w.rows p) (λ r. P w.rows r.0))
      → All (P w.rows) w.nodes → IfOk (replied word (node_turns w o node turn)) (λ r. All (P r.0.rows) r.0.nodes)
  turn_keeps w node turn word None e f h = h
  turn_keeps w node turn word (Some p) e f h = go (turn w.rows p) (f p e (all_at (P w.rows) w.nodes node p e h))
    where
      go : (t : Turn) → IfOk t (λ r. P w.rows r.0) → IfOk (replied word (turned w node t)) (λ r. All (P r.0.rows) r.0.nodes)
      go (Ok r) k = all_set (P w.rows) w.nodes node r.0 h k
      go (Err unkept) k = tt

  -- one node has committed
  commit_keeps : (w : World) (node : ℕ) (p : Node) (b : Block) (r : Result (Node × List ℕ) Bad) → OthersKeep P → slice_get w.nodes node ≡ Some p → AreNumbered 0 w.nodes
      → ((q : Node × List ℕ) → r ≡ Ok q → P (insert w.rows (place_of p.number b.height) (block_bytes b)) (placed_again q.0))
      → All (P w.rows) w.nodes → All (P (rows_with w.rows p.number b r)) (slice_set w.nodes node (commit_answer p b r).0)
  commit_keeps w node p b (Ok q) others at m own h =
      all_changed (P w.rows) (P (insert w.rows (place_of p.number b.height) (block_bytes b))) w.nodes 0 node p (placed_again q.0) m at
      (λ y apart k. others w.rows p.number b.height (block_bytes b) y apart k) h (own q refl)
  commit_keeps w node p b (Err bad) others at m own h = subst (All (P w.rows)) (sym (same_set w.nodes node p at)) h

  slot_keeps : (w : World) (node : ℕ) (o : Option Node) (b : Option Block) → OthersKeep P → slice_get w.nodes node ≡ o → AreNumbered 0 w.nodes
      → ((p : Node) (c : Block) (q : Node × List ℕ) → o ≡ Some p → b ≡ Some c → commit p c ≡ Ok q → P w.rows p → P (insert w.rows (place_of p.number c.height) (block_bytes c)) (placed_again q.0))
      → All (P w.rows) w.nodes → All (P (rows_behind w.rows o b)) (node_acts w o node (commit_slot b)).0.nodes
  slot_keeps w node None b others at m own h = h
  slot_keeps w node (Some p) None others at m own h = subst (All (P w.rows)) (sym (same_set w.nodes node p at)) h
  slot_keeps w node (Some p) (Some b) others at m own h =
      commit_keeps w node p b (commit p b) others at m (λ q e. own p b q refl refl e (all_at (P w.rows) w.nodes node p at h)) h

  -- a snapshot is kept
  snap_keeps : (w : World) (o : Option Node) → OthersKeep P → AreNumbered 0 w.nodes → length w.nodes ≤ 16 → All (P w.rows) w.nodes → All (P (node_snaps w o).0.rows) (node_snaps w o).0.nodes
  snap_keeps w None others m few h = h
  snap_keeps w (Some p) others m few h =
      let low = all_low w.nodes 0 m (omega (arith, few)) in
      λ n d lt. others w.rows (first_snapshot + p.number) (height_of p) (snapshot_bytes (committed p)) (get_or w.nodes n d) (apart p.number (get_or w.nodes n d).number (low n d lt)) (h n d lt)

  -- what holds of each node holds of each behind an event
  pub event_keeps : SameKeeps P → OthersKeep P → RestartsKeep P → (w : World) (event : Event) → AreNumbered 0 w.nodes → (snaps event ≡ false) ⊎ (length w.nodes ≤ 16)
      → CommitsKeep P w event → ResumesKeep P w event → All (P w.rows) w.nodes → IfOk (step w event) (λ r. All (P r.0.rows) r.0.nodes)
  event_keeps same others restarts w (events.Commit node slot) m few commit resume h =
      slot_keeps w node (slice_get w.nodes node) (get w.slots slot) others refl m (commit node slot refl) h
  event_keeps same others restarts w (events.Snap node) m (inl none) commit resume h = absurd (cc)
  event_keeps same others restarts w (events.Snap node) m (inr few) commit resume h = snap_keeps w (slice_get w.nodes node) others m few h
  event_keeps same others restarts w (events.Restart node) m few commit resume h =
      turn_keeps w node restart_node words.Restart (slice_get w.nodes node) refl (λ p at k. restarts w.rows p k) h
  event_keeps same others restarts w (events.Resume node height) m few commit resume h =
      turn_keeps w node (resume_node height) words.Resume (slice_get w.nodes node) refl (resume node height refl) h
  event_keeps same others restarts w event m few commit resume h = beside_keeps same w event refl refl refl h
