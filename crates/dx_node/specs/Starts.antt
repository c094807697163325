-- What the rows of a node are told to be: the blocks from which it starts anew, or why they are none.
use Rattle.std.specs.Prelude.{◌≡◌, ℕ, ◌≤◌, List, [], Option, Some, None, Result, Ok, Err, IfSome, IsErrOf}
use Rattle.std.specs.FinMap.{empty, values}
use Rattle.dx_types.specs.declared.Genesis.{Genesis}
use Rattle.dx_types.specs.declared.Block.{Block}
use Rattle.dx_types.specs.declared.OrderId.{OrderId}
use Rattle.dx_spec.specs.State.{State, genesis_state}
use Rattle.dx_spec.specs.Blocks.{block_step, fold_from}
use Rattle.dx_io.specs.Causes.{Rose}
use Rattle.dx_io.specs.Rows.{Rows, SameRows, row_count}
use Rattle.dx_codec.specs.Genesis.{digest_of}
use Rattle.dx_history.specs.Rows.{block_at}
use Rattle.dx_history.specs.Chains.{Unkept, BadAt, OtherGenesis, kept_from, kept, begun}
use Rattle.dx_node.specs.Held.{Held}
use Rattle.dx_node.specs.declared.faults.RestartFault.{RestartFault}
use Rattle.dx_node.specs.declared.faults.RestartFault.TheVariants as restarts

-- rows are none of a chain for the fault; where the keeper failed or there was no memory nothing is said
abbrev pub IsUnkept : Genesis → Result (List Block) Unkept → RestartFault → Type 0
IsUnkept g told (restarts.KeptBad height) = told ≡ Err (BadAt height)
IsUnkept g told (restarts.KeptOther theirs ours) = (told ≡ Err (OtherGenesis theirs)) × (ours ≡ digest_of g)
IsUnkept g told restarts.KeepFault = Unit {0}
IsUnkept g told restarts.NoMemory = Unit {0}

-- a block of the rows at a height, where the keeper tells them, that is good on a state, and the state after it
pub record Adds (rows : Option Rows) (node height : ℕ) (s t : State) : Type 0 where
  pub block : Block
  pub results : List ℕ
  pub triggered : List OrderId
  pub good : block_step s block ≡ Ok (t, results, triggered)
  pub told : IfSome rows (λ r. block_at r node height ≡ Some block)

-- blocks that lead from one state to another, so many of the rows from a height on
pub record LeadsFrom (rows : Option Rows) (node height more : ℕ) (s t : State) : Type 0 where
  pub blocks : List Block
  pub leads : fold_from s blocks ≡ Ok t
  pub told : IfSome rows (λ r. kept_from s r node height more ≡ Ok blocks)

-- blocks that lead from a genesis to a state, and of which something is told
pub record Begins (g : Genesis) (Told : List Block → Type 0) (t : State) : Type 0 where
  pub blocks : List Block
  pub leads : fold_from (genesis_state g) blocks ≡ Ok t
  pub told : Told blocks

-- they are the chain of a node's rows, where the keeper tells them
abbrev pub IsChainOf : Option Rows → Genesis → ℕ → List Block → Type 0
IsChainOf rows g node blocks = IfSome rows (λ r. kept g r node ≡ Ok blocks)

-- the same of rows that are as many as a number
abbrev pub AreCounted : Option Rows → Genesis → ℕ → ℕ → List Block → Type 0
AreCounted rows g node count blocks = IfSome rows (λ r. count ≡ row_count r node → kept g r node ≡ Ok blocks)

-- known rows stay, and the count of faults rose where the keeper failed
pub record OnlyReads {T : Type 0} (rows now : Option Rows) (before after : ℕ) (result : Result T RestartFault) : Type 0 where
  pub same : SameRows rows now
  pub later : before ≤ after
  pub failed : IsErrOf result restarts.KeepFault → Rose before after

-- behind a start a node that had no row has the digest of its genesis as its first, and all other rows stay
abbrev pub IsBegun : Option Rows → Option Rows → Genesis → ℕ → Type 0
IsBegun None after g node = Unit {0}
IsBegun (Some rows) None g node = ⊥
IsBegun (Some rows) (Some after) g node = after ≡ begun rows node g

-- a node of a number that has nothing but a state between blocks, and its stateful orders to place
pub record IsAnew (number : ℕ) (n : Held) : Type 0 where
  pub speculative : n.speculative ≡ n.committed
  pub number_is : n.number ≡ number
  pub queue : n.queue ≡ []
  pub book : n.book ≡ []
  pub cancels : n.cancels ≡ empty
  pub pool : n.pool ≡ []
  pub feed : n.feed ≡ empty
  pub again : n.again ≡ values n.committed.stateful
