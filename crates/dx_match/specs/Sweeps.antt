-- The stages of a sweep.
use Rattle.std.specs.Prelude.{◌≡◌, ℕ, ◌+◌, min, Bool, not, ◌||◌, ◌==◌, if◌then◌else◌, unsigned_abs, List, [], ◌∷◌, ◌++◌, length, Result}
use Rattle.std.specs.List.{AllByRecursion}
use Rattle.dx_types.specs.declared.SubaccountId.{SubaccountId}
use Rattle.dx_types.specs.declared.Order.{Order}
use Rattle.dx_types.specs.declared.Offset.{Offset}
use Rattle.dx_types.specs.declared.Op.{Op}
use Rattle.dx_types.specs.declared.Op.TheVariants.{Delever}
use Rattle.dx_spec.specs.Lists.{is_empty}
use Rattle.dx_spec.specs.State.{State}
use Rattle.dx_spec.specs.Margin.{is_liquidatable}
use Rattle.dx_spec.specs.Liquidation.{liquidate_step}
use Rattle.dx_spec.specs.Deleveraging.{is_negative, delever_step}
use Rattle.dx_node_spec.specs.Book.{left}
use Rattle.dx_node_spec.specs.Taking.{Taken, after_try}
use Rattle.dx_node_spec.specs.Sweeping.{settled_risk, size_of, closed_liquidation, liquidation_stopped, Offsets, after_offset}
use Rattle.dx_trade.specs.Conditions.{IsTradable}
use Rattle.dx_match.specs.declared.offsetting.Offsetting.{Offsetting}

-- no more of the account's position is closed: it is stopped, the account is not liquidatable, or has no position there
abbrev pub is_closed : State → SubaccountId → ℕ → ℕ → Bool
is_closed s who market stop = not (stop == 0) || not (is_liquidatable (settled_risk s who)) || unsigned_abs (size_of s who market) == 0

-- what a tried fill of the liquidation leads to
unfoldable pub tried_closing : List Op → SubaccountId → ℕ → Order → ℕ → Taken → Result State ℕ → Taken
tried_closing queue who market maker amount t step =
    after_try (closed_liquidation queue who market) (liquidation_stopped maker t) maker amount t step

-- a maker closes what it can of the position
unfoldable pub close_maker : List Op → SubaccountId → ℕ → Taken → Order → Taken
close_maker queue who market t maker =
    let amount = min (unsigned_abs (size_of t.state who market)) (left t.state maker) in
    tried_closing queue who market maker amount t (liquidate_step t.state who market maker amount)

-- the orders of a market may be traded
abbrev pub AreTradableIn : ℕ → State → List Order → Type 0
AreTradableIn market s orders = AllByRecursion (λ o. o.id.market ≡ market → IsTradable s o) orders

-- offsets as the definitions see them, in a state
abbrev pub offsets_seen : State → Offsetting → Offsets
offsets_seen s x = record { state = s; done = x.done; stop = x.stop }

-- no more of the position is offset: it is stopped, the account has not less than nothing, or has no position there
abbrev pub is_offset : State → SubaccountId → ℕ → ℕ → Bool
is_offset s who market stop = not (stop == 0) || not (is_negative (settled_risk s who)) || unsigned_abs (size_of s who market) == 0

-- another account takes over what it can of the position
unfoldable pub offset_other : SubaccountId → ℕ → Offsets → Offset → Offsets
offset_other who market x other =
    let offset = record other { amount = min (unsigned_abs (size_of x.state who market)) other.amount } in
    after_offset offset x (delever_step x.state who market offset)

-- a taking with the offsets of a market behind it
unfoldable pub with_offsets : SubaccountId → ℕ → Taken → Offsets → Taken
with_offsets who market t x = record t {
  state = x.state;
  ops = if is_empty x.done then t.ops else t.ops ++ Delever who market x.done ∷ [];
  offsets = t.offsets + length x.done;
}
