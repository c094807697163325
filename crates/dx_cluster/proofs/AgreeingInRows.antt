-- Worlds with the same committed states, slots and rows give the same replies about these, also where a node starts from its rows.
use Rattle.std.proofs.Common.{◌≡◌, ℕ, zero, suc, List, [], ◌∷◌, map, refl, sym, ap, subst, ◌∙◌, Option, Some, None, Result, Ok, Err}
use Rattle.std.specs.Prelude.{slice_get, slice_set, All, IsTrue}
use Rattle.std.specs.FinMap.{get, insert}
use Rattle.dx_types.specs.declared.OrderId.{OrderId}
use Rattle.dx_types.specs.declared.Block.{Block}
use Rattle.dx_types.specs.declared.Bad.{Bad}
use Rattle.dx_types.specs.declared.Genesis.{Genesis}
use Rattle.dx_spec.specs.Step.{◌>>=◌}
use Rattle.dx_spec.specs.State.{State, filled_of}
use Rattle.dx_spec.specs.Blocks.{Applied, block_step, fold_from, fold_blocks}
use Rattle.dx_spec.specs.Audits.{audit}
use Rattle.dx_io.specs.Rows.{Rows}
use Rattle.dx_codec.specs.Blocks.{block_bytes}
use Rattle.dx_history.specs.Rows.{place_of}
use Rattle.dx_history.specs.Chains.{Unkept, kept}
use Rattle.dx_history.proofs.Starting.{read_chain}
use Rattle.dx_snapshot.specs.Snapshots.{Unread, snapshot_place, state_digest, snapshot_bytes, snapshot_at}
use Rattle.dx_node_spec.specs.Node.{Node, committed}
use Rattle.dx_node_spec.specs.Commits.{adopted, commit, resumed}
use Rattle.dx_speculation.proofs.Committing.{restarted_is}
use Rattle.dx_node.specs.Resumes.{Unresumed, AheadOf, Broken, resumable}
use Rattle.dx_node.proofs.Above.{reaches}
use Rattle.dx_scenario.specs.declared.event.Event.{Event}
use Rattle.dx_scenario.specs.declared.event.Event.TheVariants as events
use Rattle.dx_print.specs.declared.words.Word.{Word}
use Rattle.dx_print.specs.declared.words.Word.TheVariants as words
use Rattle.dx_print.specs.declared.answer.Answer.{Answer}
use Rattle.dx_print.specs.declared.answer.Answer.TheVariants as answers
use Rattle.dx_cluster.specs.Stored.{Stored}
use Rattle.dx_cluster.specs.Acts.{check_answer, check_slot, commit_answer, commit_slot, balance_answer, tell_balance, tell_filled, tell_audit, tell_digest, tell_waits, waits_answer, show_slot}
use Rattle.dx_cluster.specs.Snapshots.{Turn, restarted_by, restart_node, resumed_by, from_snapshot, resume_node}
use Rattle.dx_cluster.specs.World.{World, node_acts, act_at, rows_with, rows_behind, node_snaps, turned, node_turns, replied, step}
use Rattle.dx_cluster.specs.Laws.{IsFoldFrom, after_block, is_of_committed, AreAlikeInRows, StepsAgree, committed_amount, RowsAreTold}
use Rattle.dx_cluster.proofs.Everywhere.{all_at}
use Rattle.dx_cluster.proofs.Living.{ok_of, committing_state, started_folds, gone_on_state}
use Rattle.dx_cluster.proofs.Chains.{placed_same, started_over, committing_names, resumed_names}

-- two nodes have the same number, genesis and committed state
record Alike (p q : Node) : Type 0 where
  number : p.number ≡ q.number
  genesis : p.genesis ≡ q.genesis
  state : committed p ≡ committed q

-- and so have two, if they are there
abbrev AlikeIf : Option Node → Option Node → Type 0
AlikeIf None None = Unit {0}
AlikeIf (Some p) (Some q) = Alike p q
AlikeIf None (Some q) = ⊥
AlikeIf (Some p) None = ⊥

alike_at : (ps qs : List Node) (n : ℕ) → map (λ p. p.number) ps ≡ map (λ p. p.number) qs → map (λ p. p.genesis) ps ≡ map (λ p. p.genesis) qs → map committed ps ≡ map committed qs
    → AlikeIf (slice_get ps n) (slice_get qs n)
alike_at [] [] n a b c = tt
alike_at [] (q ∷ qs) n a b c = absurd (cc)
alike_at (p ∷ ps) [] n a b c = absurd (cc)
alike_at (p ∷ ps) (q ∷ qs) zero a b c = record { number = cc; genesis = cc; state = cc }
alike_at (p ∷ ps) (q ∷ qs) (suc n) a b c = alike_at ps qs n (cc) (cc) (cc)

-- what is so of all nodes where one becomes another
map_set : {A : Type 0} (f : Node → A) (ps : List Node) (n : ℕ) (p : Node) → map f (slice_set ps n p) ≡ slice_set (map f ps) n (f p)
map_set f [] n p = refl
map_set f (x ∷ ps) zero p = refl
map_set f (x ∷ ps) (suc n) p = ap (λ ys. f x ∷ ys) (map_set f ps n p)

set_same : {A : Type 0} (f : Node → A) (ps qs : List Node) (n : ℕ) (p q : Node) → map f ps ≡ map f qs → f p ≡ f q → map f (slice_set ps n p) ≡ map f (slice_set qs n q)
set_same f ps qs n p q e h = map_set f ps n p ∙ ap (λ xs. slice_set xs n (f p)) e ∙ ap (λ x. slice_set (map f qs) n x) h ∙ sym (map_set f qs n q)

set_alike : (w v : World) (n : ℕ) (p q : Node) → AreAlikeInRows w v → Alike p q → AreAlikeInRows (record w { nodes = slice_set w.nodes n p }) (record v { nodes = slice_set v.nodes n q })
set_alike w v n p q a h = record {
  numbers = set_same (λ x. x.number) w.nodes v.nodes n p q a.numbers h.number;
  geneses = set_same (λ x. x.genesis) w.nodes v.nodes n p q a.geneses h.genesis;
  alike = record { states = set_same committed w.nodes v.nodes n p q a.alike.states h.state; slots = a.alike.slots };
  rows = a.rows;
}

at_same : (w v : World) (node : ℕ) → AreAlikeInRows w v → AlikeIf (slice_get w.nodes node) (slice_get v.nodes node)
at_same w v node a = alike_at w.nodes v.nodes node a.numbers a.geneses a.alike.states

-- ---- one node acts

-- what is done makes alike nodes of alike ones, with the same answer
abbrev ActsAlike : (Node → Node × Answer) → Type 0
ActsAlike act = (p q : Node) → IsFoldFrom p → IsFoldFrom q → Alike p q → Alike (act p).0 (act q).0 × ((act p).1 ≡ (act q).1)

-- two worlds with answers agree
abbrev Agree : World × Answer → World × Answer → Type 0
Agree r q = AreAlikeInRows r.0 q.0 × (r.1 ≡ q.1)

act_agrees : (w v : World) (o u : Option Node) (node : ℕ) (act : Node → Node × Answer) → slice_get w.nodes node ≡ o → slice_get v.nodes node ≡ u → All IsFoldFrom w.nodes → All IsFoldFrom v.nodes → AreAlikeInRows w v → AlikeIf o u
    → ActsAlike act → Agree (node_acts w o node act) (node_acts v u node act)
act_agrees w v None None node act d e h k a s f = (a, refl)
act_agrees w v (Some p) (Some q) node act d e h k a s f =
    let r = f p q (all_at IsFoldFrom w.nodes node p d h) (all_at IsFoldFrom v.nodes node q e k) s in
    (set_alike w v node (act p).0 (act q).0 a r.0, r.1)
act_agrees w v None (Some q) node act d e h k a s f = absurd s
act_agrees w v (Some p) None node act d e h k a s f = absurd s

replies_agree : (word : Word) (r q : World × Answer) → Agree r q → StepsAgree AreAlikeInRows (λ one other. one ≡ other) (replied word (Ok r)) (replied word (Ok q))
replies_agree word r q h = (ap (λ (a : Answer). record { word = word; answer = a }) h.1, h.0)

acts_agree : (w v : World) (node : ℕ) (act : Node → Node × Answer) → All IsFoldFrom w.nodes → All IsFoldFrom v.nodes → AreAlikeInRows w v → ActsAlike act → Agree (act_at w node act) (act_at v node act)
acts_agree w v node act h k a f = act_agrees w v (slice_get w.nodes node) (slice_get v.nodes node) node act refl refl h k a (at_same w v node a) f

-- a node only tells something of its committed state
tells_alike : (f : State → Answer) → ActsAlike (λ p. (p, f (committed p)))
tells_alike f p q h k s = (s, ap f s.state)

check_alike : (o : Option Block) → ActsAlike (check_slot o)
check_alike None p q h k s = (s, refl)
check_alike (Some b) p q h k s = (s, ap (λ (t : State). check_answer (block_step t b)) s.state)

-- what is answered to a commit, by what the block comes to
abbrev pub said : Block → Result Applied Bad → Answer
said b (Ok r) = answers.Good (b.height ∷ r.1)
said b (Err bad) = answers.Bad bad

said_by : (p : Node) (b : Block) (r : Result Applied Bad) → (commit_answer p b (r >>= λ x. Ok (adopted p b x.0 x.1 x.2, x.1))).1 ≡ said b r
said_by p b (Ok x) = refl
said_by p b (Err bad) = refl

pub commit_says : (p : Node) (b : Block) → (commit_answer p b (commit p b)).1 ≡ said b (block_step (committed p) b)
unfolding commit
commit_says p b = said_by p b (block_step (committed p) b)

commit_alike : (o : Option Block) → ActsAlike (commit_slot o)
commit_alike None p q h k s = (s, refl)
commit_alike (Some b) p q h k s =
    let x = committing_names (Some b) p in
    let y = committing_names (Some b) q in (
      record {
        number = x.0 ∙ s.number ∙ sym y.0;
        genesis = x.1 ∙ s.genesis ∙ sym y.1;
        state = committing_state (Some b) p h ∙ ap (after_block (Some b)) s.state ∙ sym (committing_state (Some b) q k);
      },
      commit_says p b ∙ ap (λ t. said b (block_step t b)) s.state ∙ sym (commit_says q b),
    )

-- the rows behind a commit, by what the block comes to
abbrev rows_of : Rows → ℕ → Block → Result Applied Bad → Rows
rows_of rows number b (Ok r) = insert rows (place_of number b.height) (block_bytes b)
rows_of rows number b (Err bad) = rows

rows_by : (rows : Rows) (number : ℕ) (p : Node) (b : Block) (r : Result Applied Bad) → rows_with rows number b (r >>= λ x. Ok (adopted p b x.0 x.1 x.2, x.1)) ≡ rows_of rows number b r
rows_by rows number p b (Ok x) = refl
rows_by rows number p b (Err bad) = refl

rows_are : (rows : Rows) (number : ℕ) (p : Node) (b : Block) → rows_with rows number b (commit p b) ≡ rows_of rows number b (block_step (committed p) b)
unfolding commit
rows_are rows number p b = rows_by rows number p b (block_step (committed p) b)

rows_agree : (rows : Rows) (o u : Option Node) (b : Option Block) → AlikeIf o u → rows_behind rows o b ≡ rows_behind rows u b
rows_agree rows None None b s = refl
rows_agree rows (Some p) (Some q) None s = refl
rows_agree rows (Some p) (Some q) (Some b) s =
    rows_are rows p.number p b ∙ ap (λ (t : State). rows_of rows p.number b (block_step t b)) s.state ∙ ap (λ (n : ℕ). rows_of rows n b (block_step (committed q) b)) s.number ∙ sym (rows_are rows q.number q b)
rows_agree rows None (Some q) b s = absurd s
rows_agree rows (Some p) None b s = absurd s

-- other rows beside
with_rows : (w v : World) (r q : Rows) → AreAlikeInRows w v → r ≡ q → AreAlikeInRows (record w { rows = r }) (record v { rows = q })
with_rows w v r q a e = record { alike = record { states = a.alike.states; slots = a.alike.slots }; numbers = a.numbers; geneses = a.geneses; rows = e }

-- ---- snapshots

abbrev rows_told : Rows → ℕ → State → Rows
rows_told rows number s = insert rows (snapshot_place number s.clock.height) (snapshot_bytes s)

snaps_agree : (w v : World) (o u : Option Node) → AreAlikeInRows w v → AlikeIf o u → Agree (node_snaps w o) (node_snaps v u)
snaps_agree w v None None a s = (a, refl)
snaps_agree w v (Some p) (Some q) a s = (
  with_rows w v (rows_told w.rows p.number (committed p)) (rows_told v.rows q.number (committed q)) a
      (ap (λ (r : Rows). rows_told r p.number (committed p)) a.rows ∙ ap (λ (n : ℕ). rows_told v.rows n (committed p)) s.number ∙ ap (rows_told v.rows q.number) s.state),
  ap (λ (t : State). answers.Digest t.clock.height (state_digest t)) s.state,
)
snaps_agree w v None (Some q) a s = absurd s
snaps_agree w v (Some p) None a s = absurd s

-- ---- turns

-- two turns make alike nodes with the same answer, or end for the same row
abbrev TurnsAlike : Turn → Turn → Type 0
TurnsAlike (Ok r) (Ok q) = Alike r.0 q.0 × (r.1 ≡ q.1)
TurnsAlike (Err one) (Err other) = one ≡ other
TurnsAlike (Ok r) (Err other) = ⊥
TurnsAlike (Err one) (Ok q) = ⊥

turned_agree : (w v : World) (node : ℕ) (word : Word) (t u : Turn) → AreAlikeInRows w v → TurnsAlike t u → StepsAgree AreAlikeInRows (λ one other. one ≡ other) (replied word (turned w node t)) (replied word (turned v node u))
turned_agree w v node word (Ok r) (Ok q) a h = (ap (λ (x : Answer). record { word = word; answer = x }) h.1, set_alike w v node r.0 q.0 a h.0)
turned_agree w v node word (Err one) (Err other) a h = ap (λ (x : Unkept). (node, x)) h
turned_agree w v node word (Ok r) (Err other) a h = absurd h
turned_agree w v node word (Err one) (Ok q) a h = absurd h

turns_agree : (w v : World) (o u : Option Node) (node : ℕ) (word : Word) (turn : Rows → Node → Turn) → AreAlikeInRows w v → AlikeIf o u
    → ((p q : Node) → Alike p q → TurnsAlike (turn w.rows p) (turn v.rows q)) → StepsAgree AreAlikeInRows (λ one other. one ≡ other) (replied word (node_turns w o node turn)) (replied word (node_turns v u node turn))
turns_agree w v None None node word turn a s f = (refl, a)
turns_agree w v (Some p) (Some q) node word turn a s f = turned_agree w v node word (turn w.rows p) (turn v.rows q) a (f p q s)
turns_agree w v None (Some q) node word turn a s f = absurd s
turns_agree w v (Some p) None node word turn a s f = absurd s

-- alike nodes that start from the same blocks
restarted_alike : (p q : Node) (k : Result (List Block) Unkept) → Alike p q → ((blocks : List Block) → k ≡ Ok blocks → (t : State) × (fold_blocks p.genesis blocks ≡ Ok t)) → TurnsAlike (restarted_by p k) (restarted_by q k)
restarted_alike p q (Err unkept) s f = refl
restarted_alike p q (Ok blocks) s f =
    let t = f blocks refl in
    let x = started_over p blocks in
    let y = started_over q blocks in
    let one = started_folds p blocks t.0 t.1 in
    let other = started_folds q blocks t.0 (ap (λ (g : Genesis). fold_blocks g blocks) (sym s.genesis) ∙ t.1) in (
      record { number = x.number ∙ s.number ∙ sym y.number; genesis = x.genesis ∙ s.genesis ∙ sym y.genesis; state = one.1 ∙ sym other.1 },
      ap (λ (u : State). answers.Done (Some u.clock.height)) (restarted_is p blocks t.0 t.1 ∙ sym (restarted_is q blocks t.0 (ap (λ (g : Genesis). fold_blocks g blocks) (sym s.genesis) ∙ t.1))),
    )

restarts_alike : (rows other : Rows) (p q : Node) → rows ≡ other → Alike p q → TurnsAlike (restart_node rows p) (restart_node other q)
restarts_alike rows other p q e s =
    let same : kept p.genesis rows p.number ≡ kept q.genesis other q.number =
    ap (λ (r : Rows). kept p.genesis r p.number) e ∙ ap (λ (g : Genesis). kept g other p.number) s.genesis ∙ ap (kept q.genesis other) s.number in
    subst (λ (k : Result (List Block) Unkept). TurnsAlike (restart_node rows p) (restarted_by q k)) same
    (restarted_alike p q (kept p.genesis rows p.number) s (λ blocks f. ok_of (fold_blocks p.genesis blocks) (read_chain rows p.number p.genesis blocks f).good))

resumed_alike : (p q : Node) (s : State) (k : Result (List Block) Unresumed) → Alike p q → ((blocks : List Block) → k ≡ Ok blocks → (t : State) × (fold_from s blocks ≡ Ok t)) → TurnsAlike (resumed_by p s k) (resumed_by q s k)
resumed_alike p q s (Ok blocks) h f =
    let t = f blocks refl in
    let x = placed_same (resumed p s blocks) in
    let y = placed_same (resumed q s blocks) in
    let one = gone_on_state p s blocks t.0 t.1 in
    let other = gone_on_state q s blocks t.0 t.1 in (
      record {
        number = x.number ∙ (resumed_names p s blocks).0 ∙ h.number ∙ sym (y.number ∙ (resumed_names q s blocks).0);
        genesis = x.genesis ∙ (resumed_names p s blocks).1 ∙ h.genesis ∙ sym (y.genesis ∙ (resumed_names q s blocks).1);
        state = one.1 ∙ sym other.1;
      },
      ap (λ (u : State). answers.Done (Some u.clock.height)) (one.0 ∙ sym other.0),
    )
resumed_alike p q s (Err (AheadOf rows)) h f = (h, refl)
resumed_alike p q s (Err (Broken unkept)) h f = refl

read_alike : (rows : Rows) (p q : Node) (r : Result (Option State) Unread) → Alike p q → TurnsAlike (from_snapshot rows p r) (from_snapshot rows q r)
read_alike rows p q (Ok None) h = (h, refl)
read_alike rows p q (Err unread) h = (h, refl)
read_alike rows p q (Ok (Some s)) h =
    let same : resumable p.genesis s rows p.number ≡ resumable q.genesis s rows q.number = ap (λ (g : Genesis). resumable g s rows p.number) h.genesis ∙ ap (resumable q.genesis s rows) h.number in
    subst (λ (k : Result (List Block) Unresumed). TurnsAlike (resumed_by p s (resumable p.genesis s rows p.number)) (resumed_by q s k)) same
    (resumed_alike p q s (resumable p.genesis s rows p.number) h (λ blocks e. let t = reaches rows p.number p.genesis s blocks e in (t.state, t.leads)))

resumes_alike : (height : ℕ) (rows other : Rows) (p q : Node) → rows ≡ other → Alike p q → TurnsAlike (resume_node height rows p) (resume_node height other q)
resumes_alike height rows other p q e h =
    let same : snapshot_at p.genesis rows p.number height ≡ snapshot_at q.genesis rows q.number height =
    ap (λ (g : Genesis). snapshot_at g rows p.number height) h.genesis ∙ ap (λ (n : ℕ). snapshot_at q.genesis rows n height) h.number in
    subst (λ (r : Rows). TurnsAlike (resume_node height rows p) (resume_node height r q)) e
    (subst (λ (r : Result (Option State) Unread). TurnsAlike (resume_node height rows p) (from_snapshot rows q r)) same (read_alike rows p q (snapshot_at p.genesis rows p.number height) h))

-- ---- all events

-- the blocks of both worlds' slots are the same
slots_agree : (w v : World) (slot : ℕ) → AreAlikeInRows w v → get w.slots slot ≡ get v.slots slot
slots_agree w v slot a = ap (λ (m : Stored). get m slot) a.alike.slots

filled_slots : (w v : World) (slot : ℕ) (b : Block) → AreAlikeInRows w v → AreAlikeInRows (record w { slots = insert w.slots slot b }) (record v { slots = insert v.slots slot b })
filled_slots w v slot b a = record { alike = record { states = a.alike.states; slots = ap (λ (m : Stored). insert m slot b) a.alike.slots }; numbers = a.numbers; geneses = a.geneses; rows = a.rows }

commits_agree : (w v : World) (node : ℕ) (o : Option Block) → All IsFoldFrom w.nodes → All IsFoldFrom v.nodes → AreAlikeInRows w v
    → Agree (record (act_at w node (commit_slot o)).0 { rows = rows_behind w.rows (slice_get w.nodes node) o }, (act_at w node (commit_slot o)).1) (record (act_at v node (commit_slot o)).0 { rows = rows_behind v.rows (slice_get v.nodes node) o }, (act_at v node (commit_slot o)).1)
commits_agree w v node o h k a =
    let r = acts_agree w v node (commit_slot o) h k a (commit_alike o) in
    let same = ap (λ (x : Rows). rows_behind x (slice_get w.nodes node) o) a.rows ∙ rows_agree v.rows (slice_get w.nodes node) (slice_get v.nodes node) o (at_same w v node a) in
    (with_rows (act_at w node (commit_slot o)).0 (act_at v node (commit_slot o)).0 (rows_behind w.rows (slice_get w.nodes node) o) (rows_behind v.rows (slice_get v.nodes node) o) r.0 same, r.1)

events_agree : (w v : World) (event : Event) → All IsFoldFrom w.nodes → All IsFoldFrom v.nodes → AreAlikeInRows w v → IsTrue (is_of_committed event) → StepsAgree AreAlikeInRows (λ one other. one ≡ other) (step w event) (step v event)
events_agree w v (events.Handed slot b) h k a t = (refl, filled_slots w v slot b a)
events_agree w v (events.Check node slot) h k a t =
    subst (λ o. StepsAgree AreAlikeInRows (λ one other. one ≡ other) (step w (events.Check node slot)) (replied words.Check (Ok (act_at v node (check_slot o))))) (slots_agree w v slot a)
    (replies_agree words.Check (act_at w node (check_slot (get w.slots slot))) (act_at v node (check_slot (get w.slots slot))) (acts_agree w v node (check_slot (get w.slots slot)) h k a (check_alike (get w.slots slot))))
events_agree w v (events.Commit node slot) h k a t =
    subst (λ o. StepsAgree AreAlikeInRows (λ one other. one ≡ other) (step w (events.Commit node slot)) (replied words.Commit (Ok (record (act_at v node (commit_slot o)).0 { rows = rows_behind v.rows (slice_get v.nodes node) o }, (act_at v node (commit_slot o)).1)))) (slots_agree w v slot a)
    (replies_agree words.Commit _ _ (commits_agree w v node (get w.slots slot) h k a))
events_agree w v (events.Balance node who) h k a t =
    replies_agree words.Balance (act_at w node (tell_balance who)) (act_at v node (tell_balance who)) (acts_agree w v node (tell_balance who) h k a (tells_alike (λ s. balance_answer s.clock.height (get s.accounts who))))
events_agree w v (events.Audit node) h k a t =
    replies_agree words.Audit (act_at w node tell_audit) (act_at v node tell_audit) (acts_agree w v node tell_audit h k a (tells_alike (λ s. answers.Audit (audit s))))
events_agree w v (events.Show slot) h k a t = (ap (λ o. record { word = words.Show; answer = show_slot o }) (slots_agree w v slot a), a)
events_agree w v (events.Digest node) h k a t =
    replies_agree words.Digest (act_at w node tell_digest) (act_at v node tell_digest) (acts_agree w v node tell_digest h k a (tells_alike (λ s. answers.Digest s.clock.height (state_digest s))))
events_agree w v (events.Waits node id) h k a t =
    replies_agree words.Waits (act_at w node (tell_waits id)) (act_at v node (tell_waits id)) (acts_agree w v node (tell_waits id) h k a (tells_alike (λ s. waits_answer (get s.waiting id))))
events_agree w v (events.Snap node) h k a t =
    replies_agree words.Snap (node_snaps w (slice_get w.nodes node)) (node_snaps v (slice_get v.nodes node)) (snaps_agree w v (slice_get w.nodes node) (slice_get v.nodes node) a (at_same w v node a))
events_agree w v (events.Restart node) h k a t =
    turns_agree w v (slice_get w.nodes node) (slice_get v.nodes node) node words.Restart restart_node a (at_same w v node a) (λ p q s. restarts_alike w.rows v.rows p q a.rows s)
events_agree w v (events.Resume node height) h k a t =
    turns_agree w v (slice_get w.nodes node) (slice_get v.nodes node) node words.Resume (resume_node height) a (at_same w v node a) (λ p q s. resumes_alike height w.rows v.rows p q a.rows s)
events_agree w v event h k a t = absurd (cc)

-- the committed amount that a node tells of an order
amounts_agree : (w v : World) (o u : Option Node) (node : ℕ) (id : OrderId) → slice_get w.nodes node ≡ o → slice_get v.nodes node ≡ u → AreAlikeInRows w v → AlikeIf o u
    → AreAlikeInRows (node_acts w o node (tell_filled id)).0 (node_acts v u node (tell_filled id)).0 × (committed_amount (node_acts w o node (tell_filled id)).1 ≡ committed_amount (node_acts v u node (tell_filled id)).1)
amounts_agree w v None None node id d e a s = (a, refl)
amounts_agree w v (Some p) (Some q) node id d e a s = (set_alike w v node p q a s, ap (λ t. Some (filled_of t id)) s.state)
amounts_agree w v None (Some q) node id d e a s = absurd s
amounts_agree w v (Some p) None node id d e a s = absurd s

-- alike worlds agree on what is told of their committed states and their rows
pub rows_are_told : (w v : World) → All IsFoldFrom w.nodes → All IsFoldFrom v.nodes → AreAlikeInRows w v → RowsAreTold w v
rows_are_told w v h k a = (
  λ event t. events_agree w v event h k a t,
  λ node id. let r = amounts_agree w v (slice_get w.nodes node) (slice_get v.nodes node) node id refl refl a (at_same w v node a) in (r.1, r.0),
)
