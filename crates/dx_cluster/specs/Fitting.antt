-- What is kept has bytes. So has each block and each state of the program, whose numbers are of 4, 8 and 16 bytes; a
-- definition alone has no bound on them.
use Rattle.std.specs.Prelude.{◌≡◌, ⊤, ℕ, List, [], ◌∷◌, Option, Some, Ok, IfOk, IfSome, slice_get}
use Rattle.std.specs.FinMap.{get}
use Rattle.dx_types.specs.declared.Block.{Block}
use Rattle.dx_codec.specs.Blocks.{FitsBlock}
use Rattle.dx_codec.specs.States.{FitsNames}
use Rattle.dx_node_spec.specs.Node.{Node, committed}
use Rattle.dx_node_spec.specs.Commits.{commit}
use Rattle.dx_scenario.specs.declared.event.Event.{Event}
use Rattle.dx_scenario.specs.declared.event.Event.TheVariants as events
use Rattle.dx_cluster.specs.World.{World, step}

-- a block that a node commits has bytes
abbrev pub CommitFits : Option Node → Option Block → Type 0
CommitFits (Some p) (Some b) = (r : Node × List ℕ) → commit p b ≡ Ok r → FitsBlock b
CommitFits p b = ⊤

-- the names of a state that is kept as a snapshot have bytes
abbrev pub SnapFits : Option Node → Type 0
SnapFits o = IfSome o (λ p. FitsNames (committed p))

-- so has what an event keeps
abbrev pub EventFits : World → Event → Type 0
EventFits w (events.Commit node slot) = CommitFits (slice_get w.nodes node) (get w.slots slot)
EventFits w (events.Snap node) = SnapFits (slice_get w.nodes node)
EventFits w event = ⊤

-- and what each event of a run keeps, as long as the run goes on
abbrev pub RunFits : World → List Event → Type 0
RunFits w [] = ⊤
RunFits w (event ∷ events) = EventFits w event × IfOk (step w event) (λ r. RunFits r.0 events)
