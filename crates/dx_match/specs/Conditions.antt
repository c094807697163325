-- From which books an order may take, and what a taking keeps.
use Rattle.std.specs.Prelude.{◌≡◌, ℕ, false, true, IsTrue, List, All}
use Rattle.dx_types.specs.declared.SubaccountId.{SubaccountId}
use Rattle.dx_types.specs.declared.OrderId.{OrderId}
use Rattle.dx_types.specs.declared.Order.{Order}
use Rattle.dx_spec.specs.State.{State, is_kept, account_of}
use Rattle.dx_spec.specs.Bounds.{is_balance}
use Rattle.dx_spec.specs.Margin.{settled_account}
use Rattle.dx_spec.specs.Orders.{is_same_id}
use Rattle.dx_sound.specs.Within.{SoundWithin, SameBase}
use Rattle.dx_accounts.specs.Steady.{IsSteady}
use Rattle.dx_trade.specs.Conditions.{IsTradable}
use Rattle.dx_node_spec.specs.Book.{HasOnePerId}

-- each order of the book may be traded, and no two have one id
pub record IsBookFor (s : State) (orders : List Order) : Type 0 where
  pub tradable : All (IsTradable s) orders
  pub one_per_id : HasOnePerId orders

-- the second state balances and is sound, within what the first was, on its base, and keeps its accounts; an order whose id passes may still be traded
pub record KeepsThose (P : OrderId → Type 0) (s t : State) : Type 0 where
  pub steady : IsSteady t
  pub within : (most : ℕ) → SoundWithin most s → SoundWithin most t
  pub base : SameBase s t
  pub accounts : (who : SubaccountId) → IsTrue (is_kept s who) → IsTrue (is_kept t who)
  pub tradable : (o : Order) → P o.id → IsTradable s o → IsTradable t o

-- every order but the one of an id
abbrev pub KeepsOthers : OrderId → State → State → Type 0
KeepsOthers id = KeepsThose (λ other. is_same_id other id ≡ false)

-- what holds of the state alone
abbrev pub KeepsState : State → State → Type 0
KeepsState = KeepsThose (λ other. ⊥)

-- the account can be settled as far as its own quote goes, which keeps its bound
abbrev pub IsSettleable : State → SubaccountId → Type 0
IsSettleable s who = is_balance (settled_account s.markets (account_of s who)).quote ≡ true

-- both states have the same accounts and markets
pub record SameHoldings (s t : State) : Type 0 where
  pub accounts : t.accounts ≡ s.accounts
  pub markets : t.markets ≡ s.markets
