-- All nodes, slots and kept rows, and what an event does.
use Rattle.std.specs.Prelude.{◌≡◌, ◌≤◌, ◌⊎◌, ℕ, Bool, true, false, List, [], ◌∷◌, map, length, sum_by, Option, Some, None, is_some, Result, Ok, Err, IfSome, slice_get, slice_set, All}
use Rattle.std.specs.List.{AllZip, range_with_len, fold}
use Rattle.std.specs.FinMap.{get, insert, empty}
use Rattle.dx_types.specs.declared.Block.{Block}
use Rattle.dx_types.specs.declared.Bad.{Bad}
use Rattle.dx_types.specs.declared.Genesis.{Genesis}
use Rattle.dx_io.specs.Rows.{Rows}
use Rattle.dx_spec.specs.Step.{◌>>=◌}
use Rattle.dx_spec.specs.Blocks.{fills_in}
use Rattle.dx_codec.specs.Blocks.{block_bytes}
use Rattle.dx_history.specs.Rows.{place_of}
use Rattle.dx_codec.specs.Genesis.{digest_of}
use Rattle.dx_history.specs.Chains.{Unkept, BadAt, OtherGenesis, kept, begun}
use Rattle.dx_node_spec.specs.Node.{Node, new_node}
use Rattle.dx_node_spec.specs.Commits.{commit}
use Rattle.dx_node_spec.specs.Placing.{Refusal}
use Rattle.dx_node.specs.Held.{Held}
use Rattle.dx_node_spec.specs.Proposals.{propose}
use Rattle.dx_node.specs.Standing.{StandsFor}
use Rattle.dx_scenario.specs.declared.event.Event.{Event}
use Rattle.dx_scenario.specs.declared.event.Event.TheVariants as events
use Rattle.dx_scenario.specs.Events.{word_of}
use Rattle.dx_print.specs.declared.words.Word.{Word}
use Rattle.dx_print.specs.declared.replies.Reply.{Reply}
use Rattle.dx_print.specs.declared.answer.Answer.{Answer}
use Rattle.dx_print.specs.declared.answer.Answer.TheVariants as answers
use Rattle.dx_cluster.specs.declared.cluster.Cluster.{Cluster}
use Rattle.dx_cluster.specs.declared.fault.StartFault.{StartFault}
use Rattle.dx_cluster.specs.declared.fault.StartFault.TheVariants as starts
use Rattle.dx_cluster.specs.Stored.{Stored}
use Rattle.dx_cluster.specs.Acts.{height_of, refused, place_order, cancel_order, cancel_orders, feed_price, pool_message, sweep_account, check_slot, show_slot, commit_slot, started, tell_balance, tell_speculative, tell_filled, tell_best, tell_audit, tell_digest, tell_waits}
use Rattle.dx_cluster.specs.Snapshots.{Turn, restart_node, rows_snapped, resume_node}

-- the nodes by number, the blocks in the slots, and the kept rows
pub record World : Type 0 where
  pub nodes : List Node
  pub slots : Stored
  pub rows : Rows

-- a node of a genesis that starts from the chain of its rows; or its number, and why they are none
abbrev pub node_of : Genesis → ℕ → Result (List Block) Unkept → Result Node (ℕ × Unkept)
node_of g number (Ok blocks) = Ok (started (new_node number g) blocks)
node_of g number (Err unkept) = Err (number, unkept)

-- nodes of these numbers, in order, each of which starts from the chain of its rows
abbrev pub nodes_of : Genesis → Rows → List ℕ → Result (List Node) (ℕ × Unkept)
nodes_of g rows [] = Ok []
nodes_of g rows (number ∷ numbers) = do
  p ← node_of g number (kept g rows number)
  ps ← nodes_of g rows numbers
  Ok (p ∷ ps)

-- the rows behind their starts
abbrev pub begun_all : Genesis → Rows → List ℕ → Rows
begun_all g rows numbers = fold (λ before number. begun before number g) rows numbers

-- so many nodes of one genesis, numbered from 0, each of which starts from the chain of its rows, and no slot filled;
-- or the first node whose rows are no chain of the genesis, and why
abbrev pub opened : ℕ → Genesis → Rows → Result World (ℕ × Unkept)
opened count g rows =
    let numbers = range_with_len 0 count in
    nodes_of g rows numbers >>= λ ps. Ok (record { nodes = ps; slots = empty; rows = begun_all g rows numbers })

-- the answer to the first line: the height of each node
abbrev pub heights : World → Answer
heights w = answers.Heights (map height_of w.nodes)

-- what a node does changes that node alone; where there is no such node, nothing is done
abbrev pub node_acts : World → Option Node → ℕ → (Node → Node × Answer) → World × Answer
node_acts w None node act = (w, answers.Absent)
node_acts w (Some p) node act = (record w { nodes = slice_set w.nodes node (act p).0 }, (act p).1)

-- the same by the node's number
abbrev pub act_at : World → ℕ → (Node → Node × Answer) → World × Answer
act_at w node act = node_acts w (slice_get w.nodes node) node act

-- the rows behind a block that a node commits: where it is good its bytes stand at its height among those of the node
abbrev pub rows_with : Rows → ℕ → Block → Result (Node × List ℕ) Bad → Rows
rows_with rows number b (Ok committed) = insert rows (place_of number b.height) (block_bytes b)
rows_with rows number b (Err bad) = rows

-- the same of the block of a slot, where there is one and there is such a node
abbrev pub rows_behind : Rows → Option Node → Option Block → Rows
rows_behind rows None slot = rows
rows_behind rows (Some p) None = rows
rows_behind rows (Some p) (Some b) = rows_with rows p.number b (commit p b)

-- a node commits the block of a slot, and it is kept
abbrev pub commit_at : World → ℕ → ℕ → World × Answer
commit_at w node slot =
    let r = act_at w node (commit_slot (get w.slots slot)) in
    (record r.0 { rows = rows_behind w.rows (slice_get w.nodes node) (get w.slots slot) }, r.1)

-- what is told of a proposal: its height, and how many operations, fills and offsets, messages, votes and prices it has
abbrev pub proposed : Block → Answer
proposed b = answers.Proposed b.height (length b.ops) (sum_by fills_in b.ops) (length b.msgs) (length b.votes) (length b.prices)

-- a proposal is put into a slot; a refused one leaves it as it was
abbrev pub put_proposal : World → ℕ → Result Block Refusal → World × Answer
put_proposal w slot (Ok b) = (record w { slots = insert w.slots slot b }, proposed b)
put_proposal w slot (Err cause) = (w, refused cause)

-- a node proposes for a slot and a time; where there is no such node, nothing is done
abbrev pub node_proposes : World → Option Node → ℕ → ℕ → World × Answer
node_proposes w None slot time = (w, answers.Absent)
node_proposes w (Some p) slot time = put_proposal w slot (propose p time)

-- the same by the node's number
abbrev pub propose_at : World → ℕ → ℕ → ℕ → World × Answer
propose_at w node slot time = node_proposes w (slice_get w.nodes node) slot time

-- a node's committed state is kept as a snapshot, and its digest is told; where there is no such node, nothing is done
abbrev pub node_snaps : World → Option Node → World × Answer
node_snaps w None = (w, answers.Absent)
node_snaps w (Some p) = (record w { rows = rows_snapped w.rows p }, (tell_digest p).1)

-- the same by the node's number
abbrev pub snap_at : World → ℕ → World × Answer
snap_at w node = node_snaps w (slice_get w.nodes node)

-- a run goes on in another world with an answer, or it ends: at a node, by a row that is none of its chain
abbrev pub Goes : Type 0
Goes = Result (World × Answer) (ℕ × Unkept)

-- what a turn makes of a node takes its place
abbrev pub turned : World → ℕ → Turn → Goes
turned w node (Ok r) = Ok (record w { nodes = slice_set w.nodes node r.0 }, r.1)
turned w node (Err unkept) = Err (node, unkept)

-- a node's turn by the rows as they stand; where there is no such node, nothing is done
abbrev pub node_turns : World → Option Node → ℕ → (Rows → Node → Turn) → Goes
node_turns w None node turn = Ok (w, answers.Absent)
node_turns w (Some p) node turn = turned w node (turn w.rows p)

-- the same by the node's number
abbrev pub turn_at : World → ℕ → (Rows → Node → Turn) → Goes
turn_at w node turn = node_turns w (slice_get w.nodes node) node turn

-- all nodes, slots and rows after an event, and the answer to it; or the run ends
abbrev pub acted : World → Event → Goes
acted w (events.Place node order) = Ok (act_at w node (place_order order))
acted w (events.Cancel node id until) = Ok (act_at w node (cancel_order id until))
acted w (events.CancelAll node who) = Ok (act_at w node (cancel_orders who))
acted w (events.Message node msg) = Ok (act_at w node (pool_message msg))
acted w (events.Feed node market price) = Ok (act_at w node (feed_price market price))
acted w (events.Sweep node who) = Ok (act_at w node (sweep_account who))
acted w (events.Propose node slot time) = Ok (propose_at w node slot time)
acted w (events.Handed slot b) = Ok (record w { slots = insert w.slots slot b }, answers.Done None)
acted w (events.Show slot) = Ok (w, show_slot (get w.slots slot))
acted w (events.Check node slot) = Ok (act_at w node (check_slot (get w.slots slot)))
acted w (events.Commit node slot) = Ok (commit_at w node slot)
acted w (events.Balance node who) = Ok (act_at w node (tell_balance who))
acted w (events.Spec node who) = Ok (act_at w node (tell_speculative who))
acted w (events.Filled node id) = Ok (act_at w node (tell_filled id))
acted w (events.Best node market) = Ok (act_at w node (tell_best market))
acted w (events.Audit node) = Ok (act_at w node tell_audit)
acted w (events.Digest node) = Ok (act_at w node tell_digest)
acted w (events.Restart node) = turn_at w node restart_node
acted w (events.Waits node id) = Ok (act_at w node (tell_waits id))
acted w (events.Snap node) = Ok (snap_at w node)
acted w (events.Resume node height) = turn_at w node (resume_node height)

-- an event that reads or sets kept rows
abbrev pub uses_rows : Event → Bool
uses_rows (events.Commit node slot) = true
uses_rows (events.Restart node) = true
uses_rows (events.Snap node) = true
uses_rows (events.Resume node height) = true
uses_rows event = false

-- a step of a run: another world and a reply, or the run ends at a node, by a row that is none of its chain
abbrev pub Steps : Type 0
Steps = Result (World × Reply) (ℕ × Unkept)

-- the answer behind the event's word
abbrev pub replied : Word → Goes → Steps
replied word (Ok r) = Ok (r.0, record { word = word; answer = r.1 })
replied word (Err unkept) = Err unkept

-- all nodes, slots and rows after an event, and the reply to it; or the run ends
abbrev pub step : World → Event → Steps
step w event = replied (word_of event) (acted w event)

-- a node has no order to place again: so it is between two events
abbrev pub IsIdle : Node → Type 0
IsIdle p = p.again ≡ []

-- what the program holds stands for the nodes and slots: each state is the plain fold of its node's blocks
pub record Stands (c : Cluster) (w : World) : Type 0 where
  pub nodes : AllZip StandsFor c.nodes.items w.nodes
  pub slots : c.slots ≡ w.slots
  pub idle : All IsIdle w.nodes

-- a node has its first row
abbrev pub HasFirst : Rows → Node → Type 0
HasFirst rows p = is_some (get rows (place_of p.number 0)) ≡ true

-- the keeper's rows are those of the world, in which each node has its first one
pub record KeepsRows (rows : Option Rows) (w : World) : Type 0 where
  -- it tells the rows of the world
  pub told : rows ≡ Some w.rows
  -- the nodes are numbered from 0
  pub numbered : map (λ p. p.number) w.nodes ≡ range_with_len 0 (length w.nodes)
  -- none starts from nothing again
  pub begun : All (HasFirst w.rows) w.nodes

-- there are nodes and slots that it stands for
abbrev pub StandsForSome : Cluster → Type 0
StandsForSome c = (w : World) × Stands c w

-- for every plain node that the old one stands for, the new one stands for what the act makes of it, and the answer is that of the act
abbrev pub Acts : (Node → Node × Answer) → Held → Held → Answer → Type 0
Acts act old new answer = (p : Node) → StandsFor old p → StandsFor new (act p).0 × (answer ≡ (act p).1)

-- a node has done something: its answer, and what the program holds after it
pub record HasActed (r : World × Answer) (after : Cluster) (answer : Answer) : Type 0 where
  pub answered : answer ≡ r.1
  pub stands : Stands after r.0

-- a node has done something, and the keeper's rows are those behind it
abbrev pub HasKept : World × Answer → Cluster → Answer → Option Rows → Type 0
HasKept r after answer rows = HasActed r after answer × KeepsRows rows r.0

-- the run goes on behind an act: its answer, and what the program holds after it
abbrev pub HasDone : Goes → Cluster → Answer → Type 0
HasDone (Ok r) after answer = HasActed r after answer
HasDone (Err unkept) after answer = ⊥

-- the same, and the keeper's rows are those behind it
abbrev pub HasGone : Goes → Cluster → Answer → Option Rows → Type 0
HasGone (Ok r) after answer rows = HasKept r after answer rows
HasGone (Err unkept) after answer rows = ⊥

-- an event is done: the reply to it, and what the program holds after it
pub record IsDone (r : World × Reply) (after : Cluster) (reply : Reply) : Type 0 where
  pub replied : reply ≡ r.1
  pub stands : Stands after r.0

-- the run goes on behind an event: the reply to it, what the program holds after it, and the keeper's rows behind it
abbrev pub HasStepped : Steps → Cluster → Reply → Option Rows → Type 0
HasStepped (Ok r) after reply rows = IsDone r after reply × KeepsRows rows r.0
HasStepped (Err unkept) after reply rows = ⊥

-- the nodes are started as is told: the program holds them, and the keeper the rows behind their starts
abbrev pub Opens : Result World (ℕ × Unkept) → Cluster → Option Rows → Type 0
Opens (Ok w) c rows = Stands c w × KeepsRows rows w
Opens (Err unkept) c rows = ⊥

-- the rows are those behind the starts of so many nodes
abbrev pub IsBegun : ℕ → Genesis → Rows → Option Rows → Type 0
IsBegun count g before rows = rows ≡ Some (begun_all g before (range_with_len 0 count))

-- the rows are those behind the starts of the first of so many nodes, or of all of them
abbrev pub IsBegunWithin : ℕ → Genesis → Rows → Option Rows → Type 0
IsBegunWithin count g before rows = (first : ℕ) × (first ≤ count) × IsBegun first g before rows

-- so many nodes are not all started, for the fault: where the rows of a node are no chain, just those before it are
abbrev pub OpenRefused : ℕ → Result World (ℕ × Unkept) → Genesis → Rows → Option Rows → StartFault → Type 0
OpenRefused count step g before rows (starts.KeptBad node height) = (step ≡ Err (node, BadAt height)) × IsBegun node g before rows
OpenRefused count step g before rows (starts.KeptOther node theirs ours) =
    (step ≡ Err (node, OtherGenesis theirs)) × (ours ≡ digest_of g) × IsBegun node g before rows
OpenRefused count step g before rows starts.KeepFault = IsBegunWithin count g before rows
OpenRefused count step g before rows starts.NoMemory = IsBegunWithin count g before rows

-- the keeper failed, or there was no memory
abbrev pub IsOutside : StartFault → Type 0
IsOutside fault = (fault ≡ starts.KeepFault) ⊎ (fault ≡ starts.NoMemory)

-- the rows are those before, or those behind
abbrev pub AreEither : Option Rows → Rows → Rows → Type 0
AreEither rows before behind = (rows ≡ Some before) ⊎ (rows ≡ Some behind)

-- the world behind a step of a run; where the run ends it is the one before
abbrev pub world_or : {A : Type 0} → World → Result (World × A) (ℕ × Unkept) → World
world_or w (Ok r) = r.0
world_or w (Err unkept) = w

-- it is the digest of the genesis of a node
abbrev pub IsDigestAt : World → ℕ → List ℕ → Type 0
IsDigestAt w node digest = IfSome (slice_get w.nodes node) (λ p. digest ≡ digest_of p.genesis)

-- a run ends at a step for the fault: a row of a node is none of its chain, and the rows stay; or the keeper failed or
-- there was no memory, and the rows are those before the step, or those behind it
abbrev pub Breaks : {A : Type 0} → World → Result (World × A) (ℕ × Unkept) → Option Rows → StartFault → Type 0
Breaks w step rows (starts.KeptBad node height) = (step ≡ Err (node, BadAt height)) × (rows ≡ Some w.rows)
Breaks w step rows (starts.KeptOther node theirs ours) =
    (step ≡ Err (node, OtherGenesis theirs)) × IsDigestAt w node ours × (rows ≡ Some w.rows)
Breaks w step rows starts.KeepFault = AreEither rows w.rows (world_or w step).rows
Breaks w step rows starts.NoMemory = AreEither rows w.rows (world_or w step).rows
