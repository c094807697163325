-- What a restart, a snap and a resume do at a node: all three go by the rows as they stand.
use Rattle.std.specs.Prelude.{ℕ, List, Option, Some, None, Result, Ok, Err}
use Rattle.std.specs.FinMap.{insert}
use Rattle.dx_types.specs.declared.Block.{Block}
use Rattle.dx_spec.specs.State.{State}
use Rattle.dx_io.specs.Rows.{Rows}
use Rattle.dx_history.specs.Chains.{Unkept, kept}
use Rattle.dx_snapshot.specs.Snapshots.{Unread, BadDigest, NoState, HasHeight, snapshot_place, snapshot_bytes, snapshot_at}
use Rattle.dx_node_spec.specs.Node.{Node, committed}
use Rattle.dx_node_spec.specs.Commits.{restarted, placed_again, resumed}
use Rattle.dx_node.specs.Resumes.{Unresumed, AheadOf, Broken, resumable}
use Rattle.dx_print.specs.declared.answer.Answer.{Answer}
use Rattle.dx_print.specs.declared.answer.Answer.TheVariants as answers
use Rattle.dx_cluster.specs.Acts.{height_of, started}

-- a node goes on as another one with an answer, or a row that is none of its chain ends the run
abbrev pub Turn : Type 0
Turn = Result (Node × Answer) Unkept

-- a node starts anew from these blocks, and places its stateful orders again
abbrev pub restarted_by : Node → Result (List Block) Unkept → Turn
restarted_by p (Ok blocks) = Ok (started p blocks, answers.Done (Some (height_of (restarted p blocks))))
restarted_by p (Err unkept) = Err unkept

-- a node starts anew from its rows, and tells its height
abbrev pub restart_node : Rows → Node → Turn
restart_node rows p = restarted_by p (kept p.genesis rows p.number)

-- the rows behind a snapshot of a node's committed state
abbrev pub rows_snapped : Rows → Node → Rows
rows_snapped rows p = insert rows (snapshot_place p.number (height_of p)) (snapshot_bytes (committed p))

-- the number of what is wrong with the row of a snapshot
abbrev pub number_of : Unread → ℕ
number_of BadDigest = 1
number_of NoState = 2
number_of (HasHeight has) = 3

-- and of a snapshot that is ahead of the node's rows
abbrev pub ahead_number : ℕ
ahead_number = 4

-- a node that starts from a state and these blocks behind it, and places its stateful orders again
abbrev pub gone_on : Node → State → List Block → Node
gone_on p s blocks = placed_again (resumed p s blocks)

-- a node goes on from a state and the blocks of its rows above it; a state that is ahead of the rows is refused
abbrev pub resumed_by : Node → State → Result (List Block) Unresumed → Turn
resumed_by p s (Ok blocks) = Ok (gone_on p s blocks, answers.Done (Some (height_of (resumed p s blocks))))
resumed_by p s (Err (AheadOf rows)) = Ok (p, answers.BadSnapshot ahead_number)
resumed_by p s (Err (Broken unkept)) = Err unkept

-- a node goes on from a snapshot that is read, if there is one
abbrev pub from_snapshot : Rows → Node → Result (Option State) Unread → Turn
from_snapshot rows p (Ok None) = Ok (p, answers.Absent)
from_snapshot rows p (Err unread) = Ok (p, answers.BadSnapshot (number_of unread))
from_snapshot rows p (Ok (Some s)) = resumed_by p s (resumable p.genesis s rows p.number)

-- a node resumes from its snapshot at a height, and tells the height that it reaches
abbrev pub resume_node : ℕ → Rows → Node → Turn
resume_node height rows p = from_snapshot rows p (snapshot_at p.genesis rows p.number height)
