-- From which state and rows a node resumes, and why it does not.
use Rattle.std.specs.Prelude.{◌≡◌, ℕ, ◌+◌, ◌-◌, nat_le, List, [], ◌∷◌, ◌++◌, Option, Some, Result, Ok, Err, if◌then◌else◌, IfSome, slice_get}
use Rattle.std.specs.FinMap.{get, insert}
use Rattle.dx_types.specs.declared.Genesis.{Genesis}
use Rattle.dx_types.specs.declared.Block.{Block}
use Rattle.dx_spec.specs.Step.{fail_as}
use Rattle.dx_spec.specs.State.{State}
use Rattle.dx_spec.specs.Blocks.{Applied, block_step, fold_from, fold_blocks}
use Rattle.dx_io.specs.declared.keeper.KeepError.{KeepError}
use Rattle.dx_io.specs.declared.keeper.KeepError.TheVariants as keep
use Rattle.dx_io.specs.Rows.{Rows, row_count}
use Rattle.dx_codec.specs.Blocks.{block_bytes}
use Rattle.dx_codec.specs.Genesis.{digest_of}
use Rattle.dx_history.specs.Rows.{place_of}
use Rattle.dx_history.specs.Chains.{Unkept, BadAt, OtherGenesis, IsChain, kept_from, first_fault, first_of}
use Rattle.dx_node_spec.specs.Node.{Node}
use Rattle.dx_node_spec.specs.Commits.{restarted, resumed}
use Rattle.dx_node.specs.Held.{Held}
use Rattle.dx_node.specs.Standing.{StandsFor}
use Rattle.dx_node.specs.declared.faults.RestartFault.{RestartFault}
use Rattle.dx_node.specs.declared.faults.RestartFault.TheVariants as restarts
use Rattle.dx_node.specs.declared.faults.ResumeFault.{ResumeFault}
use Rattle.dx_node.specs.declared.faults.ResumeFault.TheVariants as resumes

-- why a node does not resume from a state: it has so few rows that the state is ahead of them, or its rows are no chain
pub data Unresumed : Type 0 where
  AheadOf : (rows : ℕ) → Unresumed
  Broken : (unkept : Unkept) → Unresumed

-- the blocks of a node's rows above a state's height and below a count, if row 0 is the genesis's digest and each row
-- that is read is a block that is good behind those before it
abbrev pub chain_above : Genesis → State → Rows → ℕ → ℕ → Result (List Block) Unkept
chain_above g s rows node count =
    first_of (first_fault g (get rows (place_of node 0)))
    (kept_from s rows node (s.clock.height + 1) (count - (s.clock.height + 1)))

-- the same of a node that has so many rows; the state is one of them, or below
abbrev pub resumable_at : Genesis → State → Rows → ℕ → ℕ → Result (List Block) Unresumed
resumable_at g s rows node count =
    if nat_le count s.clock.height then Err (AheadOf count) else fail_as Broken (chain_above g s rows node count)

-- the blocks behind a state from which a node resumes, or why it does not
unfoldable pub resumable : Genesis → State → Rows → ℕ → Result (List Block) Unresumed
resumable g s rows node = resumable_at g s rows node (row_count rows node)

-- a node does not resume where its rows are not counted
abbrev pub count_fault : KeepError → ResumeFault
count_fault keep.Failed = resumes.KeepFault
count_fault keep.NoMemory = resumes.NoMemory

-- nor where a row that it reads is none of a chain
abbrev pub resume_fault : RestartFault → ResumeFault
resume_fault (restarts.KeptBad height) = resumes.KeptBad height
resume_fault (restarts.KeptOther theirs ours) = resumes.KeptOther theirs ours
resume_fault restarts.KeepFault = resumes.KeepFault
resume_fault restarts.NoMemory = resumes.NoMemory

-- a node does not resume for the fault; where the keeper failed or there was no memory nothing is said
abbrev pub IsUnresumed : Genesis → Result (List Block) Unresumed → ResumeFault → Type 0
IsUnresumed g told (resumes.Ahead rows) = told ≡ Err (AheadOf rows)
IsUnresumed g told (resumes.KeptBad height) = told ≡ Err (Broken (BadAt height))
IsUnresumed g told (resumes.KeptOther theirs ours) = (told ≡ Err (Broken (OtherGenesis theirs))) × (ours ≡ digest_of g)
IsUnresumed g told resumes.KeepFault = Unit {0}
IsUnresumed g told resumes.NoMemory = Unit {0}

-- blocks that lead from a state to another one, and of which something is told
pub record Continues (s : State) (Told : List Block → Type 0) (t : State) : Type 0 where
  pub blocks : List Block
  pub leads : fold_from s blocks ≡ Ok t
  pub told : Told blocks

-- they are those of a node's rows above the state and below a count, where the keeper tells them
abbrev pub AreAbove : Option Rows → Genesis → State → ℕ → ℕ → List Block → Type 0
AreAbove rows g s node count blocks = IfSome rows (λ r. chain_above g s r node count ≡ Ok blocks)

-- they are those from which the node resumes
abbrev pub AreResumable : Option Rows → Genesis → State → ℕ → List Block → Type 0
AreResumable rows g s node blocks = IfSome rows (λ r. resumable g s r node ≡ Ok blocks)

-- the node resumes from a state and the blocks of its rows above it, and the answer is its height
pub record Resumes (rows : Option Rows) (p : Node) (s : State) (after : Held) (height : ℕ) : Type 0 where
  -- the blocks of its rows
  pub blocks : List Block
  pub kept : AreResumable rows p.genesis s p.number blocks
  -- the node has these blocks behind the state, and nothing that is not committed
  pub stands : StandsFor after (resumed p s blocks)
  pub told : height ≡ after.committed.clock.height

-- it does not resume, for the fault; where the keeper does not tell its rows, or failed, nothing is said
abbrev pub ResumeRefused : Option Rows → Node → State → ResumeFault → Type 0
ResumeRefused rows p s fault = IfSome rows (λ r. IsUnresumed p.genesis (resumable p.genesis s r p.number) fault)

-- where the state is that of the first blocks of a chain, a node resumes with the later ones from the chain's rows
abbrev pub ChainIsResumed : Type 0
ChainIsResumed = (rows : Rows) (node : ℕ) (g : Genesis) (s : State) (first later : List Block)
    → IsChain rows node g (first ++ later) → fold_blocks g first ≡ Ok s → resumable g s rows node ≡ Ok later

-- and then it stands for the node that starts anew from all of them
abbrev pub ResumedIsRestarted : Type 0
ResumedIsRestarted = (h : Held) (p : Node) (s : State) (first later : List Block)
    → fold_blocks p.genesis first ≡ Ok s → StandsFor h (resumed p s later) → StandsFor h (restarted p (first ++ later))

-- a node has the rows of blocks behind a state: the digest of its genesis at height 0, and the bytes of each block at
-- its height
pub record HasRowsAbove (rows : Rows) (node : ℕ) (g : Genesis) (s : State) (bs : List Block) : Type 0 where
  pub first : get rows (place_of node 0) ≡ Some (digest_of g)
  pub each : (n : ℕ) (b : Block)
      → slice_get bs n ≡ Some b → get rows (place_of node (s.clock.height + 1 + n)) ≡ Some (block_bytes b)

-- a node that resumes has those of its blocks
abbrev pub RowsAboveAreRead : Type 0
RowsAboveAreRead = (rows : Rows) (node : ℕ) (g : Genesis) (s : State) (bs : List Block)
    → resumable g s rows node ≡ Ok bs → HasRowsAbove rows node g s bs

-- and so it has behind a commit
abbrev pub RowsAboveGrow : Type 0
RowsAboveGrow = (rows : Rows) (node : ℕ) (g : Genesis) (s t : State) (bs : List Block) (b : Block) (r : Applied)
    → HasRowsAbove rows node g s bs → fold_from s bs ≡ Ok t → block_step t b ≡ Ok r
    → HasRowsAbove (insert rows (place_of node b.height) (block_bytes b)) node g s (bs ++ b ∷ [])
