-- How many nodes there are, whatever happens.
use Rattle.std.proofs.Common.{◌≡◌, ℕ, length, refl, sym, ap, ◌∙◌, Option, Some, None, Ok, Err}
use Rattle.std.specs.Prelude.{slice_get, IfOk}
use Rattle.std.proofs.lemmas.List.{length-set}
use Rattle.std.specs.List.{range_with_len}
use Rattle.std.proofs.lemmas.List.FromFn.{length-range_with_len}
use Rattle.dx_types.specs.declared.Genesis.{Genesis}
use Rattle.dx_io.specs.Rows.{Rows}
use Rattle.dx_node_spec.specs.Node.{Node}
use Rattle.dx_scenario.specs.declared.event.Event.{Event}
use Rattle.dx_scenario.specs.declared.event.Event.TheVariants as events
use Rattle.dx_print.specs.declared.answer.Answer.{Answer}
use Rattle.dx_cluster.specs.Snapshots.{Turn, restart_node, resume_node}
use Rattle.dx_cluster.specs.World.{World, opened, node_acts, act_at, turned, node_turns, replied, step}
use Rattle.dx_print.specs.declared.words.Word.{Word}
use Rattle.dx_print.specs.declared.words.Word.TheVariants as words
use Rattle.dx_cluster.proofs.Keeping.{propose_nodes, snap_nodes}
use Rattle.dx_cluster.proofs.Opening.{nodes_long, opened_made}

-- at first there are as many as the genesis line says
pub world_count : (count : ℕ) (g : Genesis) (rows : Rows) (w : World) → opened count g rows ≡ Ok w → length w.nodes ≡ count
world_count count g rows w e =
    let o = opened_made count g rows w e in
    ap (λ (v : World). length v.nodes) (sym o.are) ∙ nodes_long g rows (range_with_len 0 count) o.nodes o.made ∙ length-range_with_len 0 count

-- a node acts, and there are as many as before
turn_keeps : (w : World) (o : Option Node) (node : ℕ) (turn : Rows → Node → Turn) (word : Word) → IfOk (replied word (node_turns w o node turn)) (λ r. length r.0.nodes ≡ length w.nodes)
turn_keeps w None node turn word = refl
turn_keeps w (Some p) node turn word = go (turn w.rows p)
  where
    go : (t : Turn) → IfOk (replied word (turned w node t)) (λ r. length r.0.nodes ≡ length w.nodes)
    go (Ok r) = length-set w.nodes node r.0
    go (Err unkept) = tt

node_keeps : (w : World) (o : Option Node) (node : ℕ) (act : Node → Node × Answer) → length (node_acts w o node act).0.nodes ≡ length w.nodes
node_keeps w None node act = refl
node_keeps w (Some p) node act = length-set w.nodes node (act p).0

act_keeps : (w : World) (node : ℕ) (act : Node → Node × Answer) → length (act_at w node act).0.nodes ≡ length w.nodes
act_keeps w node act = node_keeps w (slice_get w.nodes node) node act

-- an event leaves as many nodes as before
pub step_keeps : (w : World) (e : Event) → IfOk (step w e) (λ r. length r.0.nodes ≡ length w.nodes)
step_keeps w e = elim e as (λ e. IfOk (step w e) (λ r. length r.0.nodes ≡ length w.nodes)) [
  | events.Handed slot block ↦ refl
  | events.Show slot ↦ refl
  | events.Propose node slot time ↦ ap length (propose_nodes w (slice_get w.nodes node) slot time)
  | events.Snap node ↦ ap length (snap_nodes w (slice_get w.nodes node))
  | events.Restart node ↦ turn_keeps w (slice_get w.nodes node) node restart_node words.Restart
  | events.Resume node height ↦ turn_keeps w (slice_get w.nodes node) node (resume_node height) words.Resume
  | _ ↦ search act_keeps
]
