-- What holds between the operations of a block.
use Rattle.std.specs.Prelude.{◌≡◌, ℕ, ◌+◌, IsTrue, Some}
use Rattle.std.specs.FinMap.{get}
use Rattle.dx_types.specs.declared.OrderId.{OrderId}
use Rattle.dx_types.specs.declared.Order.{Order}
use Rattle.dx_spec.specs.State.{State, is_short_term}
use Rattle.dx_spec.specs.Operations.{Placed}
use Rattle.dx_accounts.specs.Steady.{IsSteady}
use Rattle.dx_trade.specs.Conditions.{IsTradable}

-- each order that the block has placed is a short-term one that may be traded
abbrev pub ArePlaced : State → Placed → Type 0
ArePlaced s placed = (id : OrderId) (o : Order) → get placed id ≡ Some o → IsTrue (is_short_term o.id) × IsTradable s o

-- a balanced and sound state, the next height, and the orders that the block has placed so far
pub record IsMidway (height : ℕ) (s : State) (placed : Placed) : Type 0 where
  pub steady : IsSteady s
  pub next : height ≡ s.clock.height + 1
  pub orders : ArePlaced s placed

-- a step after which what held between the operations holds still
unfoldable pub KeepsMidway : State → State → Type 0
KeepsMidway s t = (height : ℕ) (placed : Placed) → IsMidway height s placed → IsMidway height t placed
