-- What holds in every world.
use Rattle.std.specs.Prelude.{◌≡◌, ◌⊎◌, ⊤, ℕ, ◌+◌, ◌<◌, ◌≤◌, nat_le, is_some, Bool, true, false, IsTrue, List, [], ◌∷◌, ◌++◌, map, length, take, Option, Some, None, Result, Ok, Err, IfOk, All}
use Rattle.std.specs.FinMap.{get, empty}
use Rattle.dx_types.specs.declared.Genesis.{Genesis}
use Rattle.dx_types.specs.declared.Order.{Order}
use Rattle.dx_types.specs.declared.OrderId.{OrderId}
use Rattle.dx_types.specs.declared.Block.{Block}
use Rattle.dx_types.specs.declared.Bad.{Bad}
use Rattle.dx_spec.specs.Lists.{changed_at}
use Rattle.dx_spec.specs.State.{State, genesis_state}
use Rattle.dx_spec.specs.Genesis.{IsGenesis}
use Rattle.dx_spec.specs.Blocks.{Applied, block_step, fold_from, fold_blocks}
use Rattle.dx_spec.specs.Step.{◌>>=◌}
use Rattle.dx_spec.specs.Codes.{taker_risk, bound}
use Rattle.dx_spec.specs.Balance.{Sound, Balanced}
use Rattle.dx_spec.specs.Audits.{audit}
use Rattle.dx_laws.specs.Laws.{IsAuditBalanced}
use Rattle.dx_sound.specs.Within.{SoundWithin, most_paid}
use Rattle.dx_io.specs.Rows.{Rows, row_count}
use Rattle.std.specs.List.{AllByRecursion}
use Rattle.dx_node.specs.Resumes.{HasRowsAbove}
use Rattle.dx_node_spec.specs.Node.{Node, new_node, committed, speculative}
use Rattle.dx_speculation.specs.Faithful.{IsFaithful, IsGoodBlock}
use Rattle.dx_node_spec.specs.Proposals.{propose}
use Rattle.dx_scenario.specs.declared.event.Event.{Event}
use Rattle.dx_scenario.specs.declared.event.Event.TheVariants as events
use Rattle.dx_print.specs.declared.answer.Answer.{Answer}
use Rattle.dx_print.specs.declared.answer.Answer.TheVariants as answers
use Rattle.dx_cluster.specs.Stored.{Stored}
use Rattle.dx_history.specs.Rows.{place_of}
use Rattle.dx_history.specs.Chains.{Unkept, AreRowsOf, IsChain, kept}
use Rattle.dx_snapshot.specs.Snapshots.{snapshot_at}
use Rattle.dx_print.specs.declared.replies.Reply.{Reply}
use Rattle.dx_cluster.specs.Acts.{place_order, started}
use Rattle.dx_cluster.specs.World.{World, KeepsRows, opened, Steps, step}
use Rattle.dx_cluster.specs.Fitting.{RunFits}

-- the committed state of a node is the plain fold of its blocks from its genesis on, and all of them are good
pub record IsFold (p : Node) : Type 0 where
  pub base : p.base ≡ genesis_state p.genesis
  pub folded : fold_blocks p.genesis p.blocks ≡ Ok (committed p)

-- an event that starts a node from a snapshot
abbrev pub is_resume : Event → Bool
is_resume (events.Resume node height) = true
is_resume event = false

-- an event that neither keeps nor reads a snapshot
abbrev pub is_plain : Event → Bool
is_plain (events.Snap node) = false
is_plain (events.Resume node height) = false
is_plain event = true

abbrev pub IsPlain : Event → Type 0
IsPlain event = is_plain event ≡ true

abbrev pub IsNoResume : Event → Type 0
IsNoResume event = is_resume event ≡ false

-- an event that starts a node from its rows
abbrev pub is_start : Event → Bool
is_start (events.Restart node) = true
is_start event = is_resume event

-- each node's is so where it starts from the chain of its rows, and whatever happens but a resume
abbrev pub FoldsStayGood : Type 0
FoldsStayGood =
    ((count : ℕ) (g : Genesis) (rows : Rows) (w : World) → opened count g rows ≡ Ok w → All IsFold w.nodes)
    × ((w : World) (event : Event) → All IsFold w.nodes → is_resume event ≡ false
    → IfOk (step w event) (λ r. All IsFold r.0.nodes))

-- the committed state of a node is the plain fold of its blocks from its base on, and all of them are good
abbrev pub IsFoldFrom : Node → Type 0
IsFoldFrom p = fold_from p.base p.blocks ≡ Ok (committed p)

-- each node's is so whatever happens, a resume too
abbrev pub FoldsGoOn : Type 0
FoldsGoOn =
    ((p : Node) → IsFold p → IsFoldFrom p)
    × ((w : World) (event : Event) → All IsFoldFrom w.nodes → IfOk (step w event) (λ r. All IsFoldFrom r.0.nodes))

-- each snapshot of a node that is read is that of the fold of the node's own blocks up to its height
abbrev pub OwnSnapshots : Genesis → Rows → Type 0
OwnSnapshots g rows = (node height : ℕ) (bs : List Block) (s : State) → node < 16 → kept g rows node ≡ Ok bs
    → snapshot_at g rows node height ≡ Ok (Some s) → fold_blocks g (take height bs) ≡ Ok s

-- a node's blocks are the last ones of a chain from its genesis on, whose rows are just those of the node: its base is
-- the fold of the first ones, and its committed state the fold of all
pub record IsOwn (rows : Rows) (p : Node) : Type 0 where
  pub first : List Block
  pub base : fold_blocks p.genesis first ≡ Ok p.base
  pub folded : fold_blocks p.genesis (first ++ p.blocks) ≡ Ok (committed p)
  pub chain : IsChain rows p.number p.genesis (first ++ p.blocks)

-- the height of a node's last block
abbrev pub last_height : Node → ℕ
last_height p = p.base.clock.height + length p.blocks

-- the rows of a node are those of its blocks: the digest of its genesis at height 0, and above the height of its base
-- the bytes of each block; it has a row at each height up to that of its last block, and none above
pub record HasRows (rows : Rows) (p : Node) : Type 0 where
  pub rows_are : HasRowsAbove rows p.number p.genesis p.base p.blocks
  pub just : (height : ℕ) → is_some (get rows (place_of p.number height)) ≡ nat_le height (last_height p)
  pub count : row_count rows p.number ≡ last_height p + 1

-- a node of a genesis and of a number that a run may have
pub record IsNodeOf (g : Genesis) (p : Node) : Type 0 where
  pub genesis : p.genesis ≡ g
  pub number : p.number < 16

-- the state to which a step led, or the one before it where the block was bad
abbrev pub state_or : State → Result Applied Bad → State
state_or s (Ok r) = r.0
state_or s (Err bad) = s

-- a state after the block of a slot; a slot that was never filled leaves it
abbrev pub after_block : Option Block → State → State
after_block None s = s
after_block (Some b) s = state_or s (block_step s b)

-- the committed states after an event: a commit applies the block of its slot at its node, and no other event changes any
abbrev pub states_after : List State → Stored → Event → List State
states_after ss slots (events.Commit node slot) = changed_at ss node (after_block (get slots slot))
states_after ss slots event = ss

-- the run goes on behind a step, and something holds of the world and the reply
abbrev pub GoesOn : Steps → (World × Reply → Type 0) → Type 0
GoesOn (Ok r) Holds = Holds r
GoesOn (Err unkept) Holds = ⊥

-- the run goes on behind an event, and the committed states are so
abbrev pub AreCounted : World → Event → Type 0
AreCounted w event = GoesOn (step w event) (λ r. map committed r.0.nodes ≡ states_after (map committed w.nodes) w.slots event)

-- so what the nodes have placed, matched or been fed comes into a committed state only by a block that is committed;
-- a restart and a resume lead to the same state where the rows of each node are those of a chain that leads to its
-- committed state, and a snapshot that is resumed from is that of its own blocks
abbrev pub OnlyCommitsCount : Type 0
OnlyCommitsCount =
    ((w : World) (event : Event) → All IsFoldFrom w.nodes → is_start event ≡ false → AreCounted w event)
    × ((w : World) (event : Event) → All (IsOwn w.rows) w.nodes → is_resume event ≡ false → AreCounted w event)
    × ((g : Genesis) (w : World) (event : Event) → All (IsNodeOf g) w.nodes → All (IsOwn w.rows) w.nodes
    → OwnSnapshots g w.rows → AreCounted w event)

-- an event whose reply is of committed states, slots and rows
abbrev pub is_of_committed : Event → Bool
is_of_committed (events.Handed slot b) = true
is_of_committed (events.Check node slot) = true
is_of_committed (events.Commit node slot) = true
is_of_committed (events.Balance node who) = true
is_of_committed (events.Audit node) = true
is_of_committed (events.Show slot) = true
is_of_committed (events.Digest node) = true
is_of_committed (events.Restart node) = true
is_of_committed (events.Waits node id) = true
is_of_committed (events.Snap node) = true
is_of_committed (events.Resume node height) = true
is_of_committed event = false

-- two worlds have the same committed states and the same blocks in their slots, whatever else their nodes hold
pub record AreAlike (w v : World) : Type 0 where
  pub states : map committed w.nodes ≡ map committed v.nodes
  pub slots : w.slots ≡ v.slots

-- they have the same rows too, and nodes of the same numbers and genesis
pub record AreAlikeInRows (w v : World) : Type 0 where
  pub alike : AreAlike w v
  pub numbers : map (λ p. p.number) w.nodes ≡ map (λ p. p.number) v.nodes
  pub geneses : map (λ p. p.genesis) w.nodes ≡ map (λ p. p.genesis) v.nodes
  pub rows : w.rows ≡ v.rows

-- two steps give replies that agree, and lead to worlds that are alike; or the run ends at both for the same row
abbrev pub StepsAgree : (World → World → Type 0) → (Reply → Reply → Type 0) → Steps → Steps → Type 0
StepsAgree Alike Agree (Ok r) (Ok q) = Agree r.1 q.1 × Alike r.0 q.0
StepsAgree Alike Agree (Err one) (Err other) = one ≡ other
StepsAgree Alike Agree one other = ⊥

-- they give the same reply to an event, and are alike after it
abbrev pub RepliesAgree : (World → World → Type 0) → World → World → Event → Type 0
RepliesAgree Alike w v event = StepsAgree Alike (λ one other. one ≡ other) (step w event) (step v event)

-- the committed amount that a reply tells of an order
abbrev pub committed_amount : Answer → Option ℕ
committed_amount (answers.Amounts committed speculative) = Some committed
committed_amount answer = None

-- of the filled amounts of an order they tell the same committed one, and they are alike after it
abbrev pub AmountsAgree : (World → World → Type 0) → World → World → Type 0
AmountsAgree Alike w v = (node : ℕ) (id : OrderId) → let event = events.Filled node id in
    StepsAgree Alike (λ one other. committed_amount one.answer ≡ committed_amount other.answer) (step w event) (step v event)

-- so worlds that are alike agree on all that is told of committed states where no node is started
abbrev pub StatesAreTold : World → World → Type 0
StatesAreTold w v = ((event : Event) → IsTrue (is_of_committed event) → is_start event ≡ false → RepliesAgree AreAlike w v event)
    × AmountsAgree AreAlike w v

-- and where one is, if they are alike in their rows, from which it starts
abbrev pub RowsAreTold : World → World → Type 0
RowsAreTold w v = ((event : Event) → IsTrue (is_of_committed event) → RepliesAgree AreAlikeInRows w v event)
    × AmountsAgree AreAlikeInRows w v

-- or if a node is started anew, and the rows of each node are those of its own chain
abbrev pub RestartsAreTold : World → World → Type 0
RestartsAreTold w v = (node : ℕ) → RepliesAgree AreAlike w v (events.Restart node)

abbrev pub CommittedRepliesAgree : Type 0
CommittedRepliesAgree = (w v : World) → All IsFoldFrom w.nodes → All IsFoldFrom v.nodes → AreAlike w v
    → StatesAreTold w v
    × (AreAlikeInRows w v → RowsAreTold w v)
    × (All (IsOwn w.rows) w.nodes → All (IsOwn v.rows) v.nodes → RestartsAreTold w v)

-- the world after events, in order, where the run goes on behind each
abbrev pub after : World → List Event → Result World (ℕ × Unkept)
after w [] = Ok w
after w (event ∷ events) = step w event >>= λ r. after r.0 events

-- a world that a scenario reaches: nodes of a genesis start from the chains of their rows, and then events happen
pub record IsReached (g : Genesis) (w : World) : Type 0 where
  pub count : ℕ
  pub rows : Rows
  pub start : World
  pub opened : opened count g rows ≡ Ok start
  pub events : List Event
  pub after : after start events ≡ Ok w

-- a state is sound and balanced, and the numbers of its audit balance
pub record IsInBalance (s : State) : Type 0 where
  pub sound : Sound s
  pub balanced : Balanced s
  pub audit : IsAuditBalanced (audit s)

-- each node's committed state is, in every world that a scenario over a genesis in its ranges reaches
abbrev pub StatesBalance : Type 0
StatesBalance = (g : Genesis) (w : World) → IsGenesis g → IsReached g w → All (λ p. IsInBalance (committed p)) w.nodes

-- a node's blocks and its queue are good, so that neither of its states comes from a default, and its speculative state is sound and balanced
pub record IsInOrder (p : Node) : Type 0 where
  pub faithful : IsFaithful p
  pub sound : SoundWithin (most_paid (committed p).clock.height) (speculative p)
  pub balanced : Balanced (speculative p)

-- each node is so, in every such world
abbrev pub NodesAreInOrder : Type 0
NodesAreInOrder = (g : Genesis) (w : World) → IsGenesis g → IsReached g w → All IsInOrder w.nodes

-- an answer names no code that stopped a placing but that of the taker's risk and that of a bound
abbrev pub StopsByRisk : Answer → Type 0
StopsByRisk (answers.Stopped filled code) = (code ≡ taker_risk) ⊎ (code ≡ bound)
StopsByRisk answer = ⊤

-- no placing is answered with another, in every such world
abbrev pub PlacingsStopByRisk : Type 0
PlacingsStopByRisk = (g : Genesis) (w : World) → IsGenesis g → IsReached g w → All (λ p. (o : Order) → StopsByRisk (place_order o p).1) w.nodes

-- what a node proposes is good on its committed state
abbrev pub ProposesGood : Node → Type 0
ProposesGood p = (time : ℕ) (b : Block) → propose p time ≡ Ok b → IsGoodBlock (committed p) b

-- each node does so, in every such world
abbrev pub ProposalsAreGood : Type 0
ProposalsAreGood = (g : Genesis) (w : World) → IsGenesis g → IsReached g w → All ProposesGood w.nodes

-- the rows of a node are just those of its blocks, which are folded from its genesis on
pub record HasChain (rows : Rows) (p : Node) : Type 0 where
  pub base : p.base ≡ genesis_state p.genesis
  pub chain : IsChain rows p.number p.genesis p.blocks

-- no event of a run keeps or reads a snapshot; or none reads one, and there are as many nodes as a run may have
abbrev pub IsUnresumed : ℕ → List Event → Type 0
IsUnresumed count events = AllByRecursion IsPlain events ⊎ ((count ≤ 16) × AllByRecursion IsNoResume events)

-- in every such world that is so reached the rows of each node are just those of its blocks; and where all that was kept
-- has bytes, they are a chain
abbrev pub RowsAreOfBlocks : Type 0
RowsAreOfBlocks = (g : Genesis) (w : World) → IsGenesis g → (reached : IsReached g w) → IsUnresumed reached.count reached.events
    → All (λ p. AreRowsOf w.rows p.number p.genesis p.blocks) w.nodes
    × (RunFits reached.start reached.events → All (HasChain w.rows) w.nodes)

-- in every such world of as many nodes as a run may have they are those of its blocks above its base
abbrev pub RowsAreAbove : Type 0
RowsAreAbove = (g : Genesis) (w : World) → IsGenesis g → (reached : IsReached g w) → reached.count ≤ 16 → All (HasRows w.rows) w.nodes

-- the nodes are those of a genesis, with rows and snapshots that are their own
pub record AreOwn (g : Genesis) (w : World) : Type 0 where
  pub nodes : All (IsNodeOf g) w.nodes
  pub own : All (IsOwn w.rows) w.nodes
  pub snapshots : OwnSnapshots g w.rows

-- and where the snapshots of the rows at entry are those of the nodes' own blocks, and all that was kept has bytes, each
-- node's rows are just those of a chain from its genesis on that leads to its committed state, and the snapshots stay so
abbrev pub OwnSnapshotsStay : Type 0
OwnSnapshotsStay = (g : Genesis) (w : World) → IsGenesis g → (reached : IsReached g w) → reached.count ≤ 16
    → OwnSnapshots g reached.rows → RunFits reached.start reached.events → AreOwn g w

-- the world from which the next run goes on: each node has its blocks and its stateful orders, and nothing else
abbrev pub next_world : World → World
next_world w = record {
  nodes = map (λ p. started (new_node p.number p.genesis) p.blocks) w.nodes;
  slots = empty;
  rows = w.rows;
}

-- so many nodes of the same genesis, started from the rows that a run leaves, have the same committed states
pub record GoesOnFrom (g : Genesis) (w : World) : Type 0 where
  pub next : World
  pub opened : opened (length w.nodes) g w.rows ≡ Ok next
  pub states : map committed next.nodes ≡ map committed w.nodes
  pub rows : next.rows ≡ w.rows

-- where no node was resumed they are just those; and where some were, from snapshots of their own blocks, they have the
-- same committed states
abbrev pub NextRunGoesOn : Type 0
NextRunGoesOn = (g : Genesis) (w : World) → KeepsRows (Some w.rows) w → All (λ p. p.genesis ≡ g) w.nodes
    → (All (HasChain w.rows) w.nodes → opened (length w.nodes) g w.rows ≡ Ok (next_world w))
    × (All (IsOwn w.rows) w.nodes → GoesOnFrom g w)
