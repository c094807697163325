-- How a node starts from the rows that a keeper has of it, and what a commit makes of them.
use Rattle.std.specs.Prelude.{◌≡◌, ℕ, List, Option, Some, Result, Ok, Err}
use Rattle.dx_types.specs.declared.Block.{Block}
use Rattle.dx_io.specs.Rows.{Rows}
use Rattle.dx_io.specs.declared.keeper.KeepError.{KeepError}
use Rattle.dx_io.specs.declared.keeper.KeepError.TheVariants as keep
use Rattle.dx_codec.specs.Blocks.{FitsBlock}
use Rattle.dx_codec.specs.Genesis.{digest_of}
use Rattle.dx_history.specs.Chains.{BadAt, OtherGenesis, kept, begun}
use Rattle.dx_snapshot.specs.Snapshots.{BadDigest, NoState, HasHeight}
use Rattle.dx_snapshot.specs.declared.fault.SnapFault.{SnapFault}
use Rattle.dx_snapshot.specs.declared.fault.SnapFault.TheVariants as snaps
use Rattle.dx_node_spec.specs.Node.{Node}
use Rattle.dx_node_spec.specs.Commits.{commit, restarted}
use Rattle.dx_node.specs.Held.{Held}
use Rattle.dx_node.specs.Restarts.{AreKept}
use Rattle.dx_node.specs.Standing.{StandsFor}
use Rattle.dx_node.specs.declared.faults.RestartFault.{RestartFault}
use Rattle.dx_node.specs.declared.faults.RestartFault.TheVariants as restarts
use Rattle.dx_node.specs.declared.faults.ResumeFault.{ResumeFault}
use Rattle.dx_node.specs.declared.faults.ResumeFault.TheVariants as resumes
use Rattle.dx_print.specs.declared.answer.Answer.{Answer}
use Rattle.dx_print.specs.declared.answer.Answer.TheVariants as answers
use Rattle.dx_cluster.specs.declared.fault.StartFault.{StartFault}
use Rattle.dx_cluster.specs.declared.fault.StartFault.TheVariants as starts
use Rattle.dx_cluster.specs.Acts.{height_of, started}
use Rattle.dx_cluster.specs.Snapshots.{Turn, number_of, ahead_number}
use Rattle.dx_cluster.specs.World.{IsIdle, rows_with, AreEither}

-- the fault of a node's restart, with the node's number
abbrev pub fault_of : ℕ → RestartFault → StartFault
fault_of node (restarts.KeptBad height) = starts.KeptBad node height
fault_of node (restarts.KeptOther theirs ours) = starts.KeptOther node theirs ours
fault_of node restarts.KeepFault = starts.KeepFault
fault_of node restarts.NoMemory = starts.NoMemory

-- the node starts anew from the blocks of its rows, and places its stateful orders again; the number is its height
pub record Starts (rows : Option Rows) (p : Node) (after : Held) (height : ℕ) : Type 0 where
  -- the blocks of its rows
  pub blocks : List Block
  pub chain : AreKept rows p blocks
  -- the node has these blocks, and its stateful orders
  pub stands : StandsFor after (started p blocks)
  pub told : height ≡ height_of (restarted p blocks)

-- the node starts so, at some height
abbrev pub HasStarted : Option Rows → Node → Held → Type 0
HasStarted rows p after = (height : ℕ) × Starts rows p after height

-- the node does not start, for the fault: where its rows are no chain they stay; else they stay, or are those behind its start
abbrev pub StartRefused : Rows → Node → Option Rows → StartFault → Type 0
StartRefused rows p after (starts.KeptBad node height) =
    (node ≡ p.number) × (kept p.genesis rows p.number ≡ Err (BadAt height)) × (after ≡ Some rows)
StartRefused rows p after (starts.KeptOther node theirs ours) =
    (node ≡ p.number) × (kept p.genesis rows p.number ≡ Err (OtherGenesis theirs)) × (ours ≡ digest_of p.genesis) × (after ≡ Some rows)
StartRefused rows p after starts.KeepFault = AreEither after rows (begun rows p.number p.genesis)
StartRefused rows p after starts.NoMemory = AreEither after rows (begun rows p.number p.genesis)

-- a good block is the one of its bytes, which stand at its height; a bad one leaves the rows
pub record KeepsBlock (before after : Option Rows) (p : Node) (b : Block) : Type 0 where
  pub rows : (rows : Rows) → before ≡ Some rows → after ≡ Some (rows_with rows p.number b (commit p b))
  pub fits : (r : Node × List ℕ) → commit p b ≡ Ok r → FitsBlock b

-- a commit that is not answered leaves the rows as they were, or they are those behind it
abbrev pub MayKeepBlock : Option Rows → Option Rows → Node → Block → Type 0
MayKeepBlock before after p b = (rows : Rows) → before ≡ Some rows → AreEither after rows (rows_with rows p.number b (commit p b))

-- a snapshot is not kept where a call of the keeper fails
abbrev pub keeper_fault : KeepError → StartFault
keeper_fault keep.Failed = starts.KeepFault
keeper_fault keep.NoMemory = starts.NoMemory

-- a row gives no snapshot: the answer has the number of the cause, unless the keeper failed or there was no memory
abbrev pub AnswersUnread : SnapFault → Result Answer StartFault → Type 0
AnswersUnread snaps.Digest answer = answer ≡ Ok (answers.BadSnapshot (number_of BadDigest))
AnswersUnread snaps.Malformed answer = answer ≡ Ok (answers.BadSnapshot (number_of NoState))
AnswersUnread (snaps.OtherHeight has) answer = answer ≡ Ok (answers.BadSnapshot (number_of (HasHeight has)))
AnswersUnread snaps.Failed answer = answer ≡ Err starts.KeepFault
AnswersUnread snaps.NoMemory answer = answer ≡ Err starts.NoMemory

-- a node of a number does not resume: the answer says that the state is ahead, or a row ends the run
abbrev pub AnswersUnresumed : ℕ → ResumeFault → Result Answer StartFault → Type 0
AnswersUnresumed node (resumes.Ahead rows) answer = answer ≡ Ok (answers.BadSnapshot ahead_number)
AnswersUnresumed node (resumes.KeptBad height) answer = answer ≡ Err (starts.KeptBad node height)
AnswersUnresumed node (resumes.KeptOther theirs ours) answer = answer ≡ Err (starts.KeptOther node theirs ours)
AnswersUnresumed node resumes.KeepFault answer = answer ≡ Err starts.KeepFault
AnswersUnresumed node resumes.NoMemory answer = answer ≡ Err starts.NoMemory

-- the run goes on behind a turn: the node stands for what the turn makes of it, and the answer is that of the turn
abbrev pub GivesTurn : Held → Answer → Turn → Type 0
GivesTurn after answer (Ok r) = StandsFor after r.0 × (answer ≡ r.1)
GivesTurn after answer (Err unkept) = ⊥

-- there is a plain node that it stands for, with no order to place again
abbrev pub StandsForOne : Held → Type 0
StandsForOne after = (q : Node) × StandsFor after q × IsIdle q

-- a turn ends the run for the fault: a row of the node is none of its chain; or the keeper failed or there was no memory
abbrev pub TurnRefused : Node → Turn → StartFault → Type 0
TurnRefused p turn (starts.KeptBad node height) = (node ≡ p.number) × (turn ≡ Err (BadAt height))
TurnRefused p turn (starts.KeptOther node theirs ours) =
    (node ≡ p.number) × (turn ≡ Err (OtherGenesis theirs)) × (ours ≡ digest_of p.genesis)
TurnRefused p turn starts.KeepFault = Unit {0}
TurnRefused p turn starts.NoMemory = Unit {0}
