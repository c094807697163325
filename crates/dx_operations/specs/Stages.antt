-- The stages of an operation.
use Rattle.std.specs.Prelude.{ℕ, Result, ok_or}
use Rattle.dx_types.specs.declared.SubaccountId.{SubaccountId}
use Rattle.dx_types.specs.declared.Order.{Order}
use Rattle.dx_types.specs.declared.Fill.{Fill}
use Rattle.dx_spec.specs.Step.{◌>>=◌}
use Rattle.dx_spec.specs.Codes.{unknown_maker}
use Rattle.dx_spec.specs.State.{State}
use Rattle.dx_spec.specs.Fills.{fill_step}
use Rattle.dx_spec.specs.Liquidation.{liquidate_step}
use Rattle.dx_spec.specs.Operations.{Placed, order_of}

-- one fill of a taker, by the maker's id
abbrev pub fill_by : State → Placed → Order → Fill → Result State ℕ
fill_by s placed taker f = do
  maker ← ok_or (order_of s placed f.maker) unknown_maker
  fill_step s taker maker f.amount

-- one fill of a liquidated account, by the maker's id
abbrev pub close_by : State → Placed → SubaccountId → ℕ → Fill → Result State ℕ
close_by s placed who market f = do
  maker ← ok_or (order_of s placed f.maker) unknown_maker
  liquidate_step s who market maker f.amount
