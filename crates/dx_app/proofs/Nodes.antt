-- The nodes of a run stay as many, and nodes of its genesis.
use Rattle.std.proofs.Common.{◌≡◌, ℕ, List, [], length, Option, Some, None, Result, Ok, Err, refl, sym, ap, subst, ◌∙◌}
use Rattle.std.specs.Prelude.{slice_get, All, IfOk, IfSome}
use Rattle.std.specs.Option.{option_map_or}
use Rattle.std.specs.FinMap.{get}
use Rattle.std.specs.List.{AllZip}
use Rattle.dx_types.specs.declared.Block.{Block}
use Rattle.dx_types.specs.declared.Genesis.{Genesis}
use Rattle.dx_spec.specs.State.{State}
use Rattle.dx_io.specs.Rows.{Rows}
use Rattle.dx_codec.specs.Genesis.{digest_of}
use Rattle.dx_history.specs.Chains.{Unkept, kept}
use Rattle.dx_snapshot.specs.Snapshots.{Unread, snapshot_at}
use Rattle.dx_node.specs.Resumes.{Unresumed, AheadOf, Broken, resumable}
use Rattle.dx_node_spec.specs.Node.{Node, new_node}
use Rattle.dx_node_spec.specs.Commits.{resumed}
use Rattle.dx_speculation.proofs.Roots.{every_event_keeps_root}
use Rattle.dx_scenario.specs.declared.event.Event.{Event}
use Rattle.dx_scenario.specs.declared.event.Event.TheVariants as events
use Rattle.dx_print.specs.declared.words.Word.{Word}
use Rattle.dx_print.specs.declared.words.Word.TheVariants as words
use Rattle.dx_print.specs.declared.replies.Reply.{Reply}
use Rattle.dx_cluster.specs.declared.cluster.Cluster.{Cluster}
use Rattle.dx_cluster.specs.Snapshots.{Turn, restarted_by, restart_node, resumed_by, from_snapshot, resume_node}
use Rattle.dx_cluster.specs.World.{World, Steps, opened, turned, node_turns, replied, step, KeepsRows, IsDone, IsDigestAt, HasStepped}
use Rattle.dx_cluster.proofs.Everywhere.{all_at, all_along}
use Rattle.dx_cluster.proofs.Living.{if_ok}
use Rattle.dx_cluster.proofs.Chains.{placed_same, started_over, new_root, committing_names, resumed_names}
use Rattle.dx_cluster.proofs.Opening.{opened_all}
use Rattle.dx_cluster.proofs.Keeping.{stepped}
use Rattle.dx_cluster.proofs.Counting.{world_count, step_keeps}
use Rattle.dx_app.specs.Transcript.{digest_at}

-- a node of a genesis
abbrev pub IsOne : Genesis → Node → Type 0
IsOne g p = p.genesis ≡ g

-- a node of a genesis becomes another one of it
abbrev pub StaysOne : Genesis → Node → Node → Type 0
StaysOne g p q = IsOne g p → IsOne g q

-- so many nodes of one genesis
pub record HasNodes (g : Genesis) (count : ℕ) (w : World) : Type 0 where
  pub many : length w.nodes ≡ count
  pub ones : All (IsOne g) w.nodes

restart_stays : (g : Genesis) (p : Node) (k : Result (List Block) Unkept) → IfOk (restarted_by p k) (λ r. StaysOne g p r.0)
restart_stays g p (Ok blocks) = λ h. (started_over p blocks).genesis ∙ h
restart_stays g p (Err unkept) = tt

go_on_stays : (g : Genesis) (p : Node) (s : State) (k : Result (List Block) Unresumed) → IfOk (resumed_by p s k) (λ r. StaysOne g p r.0)
go_on_stays g p s (Ok blocks) = λ h. (placed_same (resumed p s blocks)).genesis ∙ (resumed_names p s blocks).1 ∙ h
go_on_stays g p s (Err (AheadOf rows)) = λ h. h
go_on_stays g p s (Err (Broken unkept)) = tt

resume_stays : (g : Genesis) (rows : Rows) (p : Node) (r : Result (Option State) Unread) → IfOk (from_snapshot rows p r) (λ x. StaysOne g p x.0)
resume_stays g rows p (Ok None) = λ h. h
resume_stays g rows p (Ok (Some s)) = go_on_stays g p s (resumable p.genesis s rows p.number)
resume_stays g rows p (Err unread) = λ h. h

-- an event leaves each node of a genesis one of it
step_ones : (g : Genesis) (w : World) (e : Event) → All (IsOne g) w.nodes → IfOk (step w e) (λ r. All (IsOne g) r.0.nodes)
step_ones g w e h =
    if_ok (step w e) (λ r. AllZip (StaysOne g) w.nodes r.0.nodes) (λ r. All (IsOne g) r.0.nodes) (λ r z. all_along (IsOne g) w.nodes r.0.nodes z h)
    (stepped (StaysOne g) (λ p k. k) (λ p happens n k. (every_event_keeps_root p happens).genesis ∙ k) w e
    (λ node slot is p k. (committing_names (get w.slots slot) p).1 ∙ k)
    (λ node is p. restart_stays g p (kept p.genesis w.rows p.number))
    (λ node height is p. resume_stays g w.rows p (snapshot_at p.genesis w.rows p.number height)))

-- the nodes of a world that is opened
pub opened_nodes : (count : ℕ) (g : Genesis) (rows : Rows) (w : World) → opened count g rows ≡ Ok w → HasNodes g count w
opened_nodes count g rows w e = record {
  many = world_count count g rows w e;
  ones = opened_all (IsOne g) count g rows w e (λ number blocks h c. (started_over (new_node number g) blocks).genesis ∙ (new_root number g).1);
}

-- and of the world behind an event
pub step_nodes : (g : Genesis) (count : ℕ) (w : World) (e : Event) (r : World × Reply) → step w e ≡ Ok r → HasNodes g count w → HasNodes g count r.0
step_nodes g count w e r is h =
    let many : length r.0.nodes ≡ length w.nodes = subst (λ (t : Steps). IfOk t (λ x. length x.0.nodes ≡ length w.nodes)) is (step_keeps w e) in
    let ones : All (IsOne g) r.0.nodes = subst (λ (t : Steps). IfOk t (λ x. All (IsOne g) x.0.nodes)) is (step_ones g w e h.ones) in
    record { many = many ∙ h.many; ones = ones }

-- a step that goes on does not end the run
goes_on : (r : World × Reply) (u : ℕ × Unkept) → ◌≡◌ {A = Steps} (Ok r) (Err u) → ⊥
goes_on r u e = cc

err_same : (a b : ℕ × Unkept) → ◌≡◌ {A = Steps} (Err a) (Err b) → a ≡ b
err_same a b e = cc

turn_there : (w : World) (word : Word) (node : ℕ) (turn : Rows → Node → Turn) (o : Option Node) (u : ℕ × Unkept) → slice_get w.nodes node ≡ o → replied word (node_turns w o node turn) ≡ Err u → (p : Node) × (slice_get w.nodes u.0 ≡ Some p)
turn_there w word node turn None u at e = absurd (goes_on _ u e)
turn_there w word node turn (Some p) u at e = go (turn w.rows p) e
  where
    go : (t : Turn) → replied word (turned w node t) ≡ Err u → (p : Node) × (slice_get w.nodes u.0 ≡ Some p)
    go (Ok r) e = absurd (goes_on _ u e)
    go (Err k) e = (p, ap (λ (x : ℕ × Unkept). slice_get w.nodes x.0) (sym (err_same (node, k) u e)) ∙ at)

-- a run ends at a node that is there
pub unkept_there : (w : World) (e : Event) (u : ℕ × Unkept) → step w e ≡ Err u → (p : Node) × (slice_get w.nodes u.0 ≡ Some p)
unkept_there w e u = elim e as (λ e. step w e ≡ Err u → (p : Node) × (slice_get w.nodes u.0 ≡ Some p)) [
  | events.Restart node ↦ turn_there w words.Restart node restart_node (slice_get w.nodes node) u refl
  | events.Resume node height ↦ turn_there w words.Resume node (resume_node height) (slice_get w.nodes node) u refl
  | _ ↦ λ k. absurd (goes_on _ u k)
]

-- the digest of its genesis
pub digest_is : (w : World) (node : ℕ) (p : Node) → slice_get w.nodes node ≡ Some p → digest_at w node ≡ digest_of p.genesis
digest_is w node p e = ap (λ (o : Option Node). option_map_or (λ x. digest_of x.genesis) o []) e

-- is that of the run's
pub digest_ours : (g : Genesis) (count : ℕ) (w : World) (e : Event) (u : ℕ × Unkept) → HasNodes g count w → step w e ≡ Err u → digest_at w u.0 ≡ digest_of g
digest_ours g count w e u h k =
    let t = unkept_there w e u k in
    digest_is w u.0 t.0 t.1 ∙ ap digest_of (all_at (IsOne g) w.nodes u.0 t.0 t.1 h.ones)

-- and the one that is told
pub digest_told : (w : World) (e : Event) (u : ℕ × Unkept) (digest : List ℕ) → step w e ≡ Err u → IsDigestAt w u.0 digest → digest ≡ digest_at w u.0
digest_told w e u digest k d =
    let t = unkept_there w e u k in
    let own : IfSome (Some t.0) (λ (p : Node). digest ≡ digest_of p.genesis) = subst (λ (o : Option Node). IfSome o (λ p. digest ≡ digest_of p.genesis)) t.1 d in
    own ∙ sym (digest_is w u.0 t.0 t.1)

-- an event that is done
pub record IsStepped (step : Steps) (c : Cluster) (reply : Reply) (rows : Option Rows) : Type 0 where
  pub behind : World × Reply
  pub is : step ≡ Ok behind
  pub done : IsDone behind c reply
  pub keeps : KeepsRows rows behind.0

pub stepped_world : (step : Steps) (c : Cluster) (reply : Reply) (rows : Option Rows) → HasStepped step c reply rows → IsStepped step c reply rows
stepped_world (Ok r) c reply rows h = record { behind = r; is = refl; done = h.0; keeps = h.1 }
stepped_world (Err unkept) c reply rows h = absurd h
