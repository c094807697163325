-- The bounds of the drawn numbers.
use Rattle.std.specs.Prelude.{◌≡◌, ℕ, ◌+◌, ◌*◌, ◌%◌, ◌/◌, ◌<◌, ◌≤◌, ⊤}
use Rattle.dx_types.specs.declared.Order.{Order}
use Rattle.dx_gen.specs.declared.lines.Line.{Line}
use Rattle.dx_gen.specs.declared.lines.Line.TheVariants.{Genesis, Deposits, Commit, Place, Propose, Check, Digest, Audit}
use Rattle.dx_gen.specs.Draws.{step_of}

-- an order of one of the eight accounts in one of the two markets: up to ten steps, at most ten ticks off the middle
pub record IsDrawnOrder (events : ℕ) (o : Order) : Type 0 where
  pub owner_low : 1 ≤ o.id.who.owner
  pub owner_high : o.id.who.owner ≤ 8
  pub number : o.id.who.number ≡ 0
  pub client_low : 1 ≤ o.id.client
  pub client_high : o.id.client ≤ events
  pub short_term : o.id.flags ≡ 0
  pub market : o.id.market < 2
  pub size_low : step_of o.id.market ≤ o.size
  pub size_high : o.size ≤ 10 * step_of o.id.market
  pub whole_steps : o.size % step_of o.id.market ≡ 0
  pub price_low : 2_999_000_000 ≤ o.subticks
  pub price_high : o.subticks ≤ 5_001_000_000
  pub whole_ticks : o.subticks % 100_000 ≡ 0
  pub until_low : 2 ≤ o.until
  pub until_high : o.until ≤ 6 + events / 7

-- the numbers of a line are in their bounds, in a scenario of so many orders
abbrev pub IsInBounds : ℕ → Line → Type 0
IsInBounds events Genesis = ⊤
IsInBounds events Deposits = ⊤
IsInBounds events (Commit node slot) = (node < 4) × (slot < 2)
IsInBounds events (Place node order) = (node < 4) × IsDrawnOrder events order
IsInBounds events (Propose node time) = (node < 4) × (60 ≤ time) × (time ≤ 60 * (events / 7))
IsInBounds events (Check node) = node < 4
IsInBounds events (Digest node) = node < 4
IsInBounds events Audit = ⊤
