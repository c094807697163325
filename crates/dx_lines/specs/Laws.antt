-- What lines add up to.
use Rattle.std.specs.Prelude.{◌≡◌, ℕ, ◌-ℤ◌, List, Ok}
use Rattle.dx_types.specs.declared.SubaccountId.{SubaccountId}
use Rattle.dx_types.specs.declared.Order.{Order}
use Rattle.dx_types.specs.declared.Offset.{Offset}
use Rattle.dx_types.specs.declared.Msg.{Msg}
use Rattle.dx_types.specs.declared.Block.{Block}
use Rattle.dx_types.specs.declared.Genesis.{Genesis}
use Rattle.dx_spec.specs.State.{State, account_of, size_in, genesis_state}
use Rattle.dx_spec.specs.Fills.{fill_step}
use Rattle.dx_spec.specs.Liquidation.{liquidate_step}
use Rattle.dx_spec.specs.Deleveraging.{delever_step}
use Rattle.dx_spec.specs.Messages.{message_step}
use Rattle.dx_spec.specs.Blocks.{Applied, block_step, fold_from, fold_blocks}
use Rattle.dx_lines.specs.declared.lines.Line.{Line}
use Rattle.dx_lines.specs.Lines.{by_match, by_liquidation, by_deleveraging, both_lines, message_lines, block_lines, statements_from, all_lines}
use Rattle.dx_lines.specs.Sums.{amounts_of, sizes_of}

-- the lines add up, for every account, to the change of its quote and of its size in every market
pub record AddUp (s t : State) (lines : List Line) : Type 0 where
  pub amounts : (who : SubaccountId) → amounts_of who lines ≡ (account_of t who).quote -ℤ (account_of s who).quote
  pub sizes : (who : SubaccountId) (market : ℕ) → sizes_of who market lines ≡ size_in (account_of t who) market -ℤ size_in (account_of s who) market

-- those of a fill
abbrev pub FillLinesAddUp : Type 0
FillLinesAddUp = (s : State) (taker maker : Order) (amount : ℕ) (t : State) → fill_step s taker maker amount ≡ Ok t
    → AddUp s t (both_lines s t taker.id.who maker.id.who by_match taker.id.market)

-- of a fill of a liquidation
abbrev pub ClosingLinesAddUp : Type 0
ClosingLinesAddUp = (s : State) (who : SubaccountId) (market : ℕ) (maker : Order) (amount : ℕ) (t : State) → liquidate_step s who market maker amount ≡ Ok t
    → AddUp s t (both_lines s t who maker.id.who by_liquidation market)

-- of an offset
abbrev pub OffsetLinesAddUp : Type 0
OffsetLinesAddUp = (s : State) (who : SubaccountId) (market : ℕ) (offset : Offset) (t : State) → delever_step s who market offset ≡ Ok t
    → AddUp s t (both_lines s t who offset.who by_deleveraging market)

-- of a message
abbrev pub MessageLinesAddUp : Type 0
MessageLinesAddUp = (s : State) (time : ℕ) (m : Msg) (t : State) → message_step s time m ≡ Ok t → AddUp s t (message_lines m s t)

-- of each of them
abbrev pub StepLinesAddUp : Type 0
StepLinesAddUp = FillLinesAddUp × ClosingLinesAddUp × OffsetLinesAddUp × MessageLinesAddUp

-- of a block
abbrev pub BlockLinesAddUp : Type 0
BlockLinesAddUp = (s : State) (b : Block) (r : Applied) → block_step s b ≡ Ok r → AddUp s r.0 (block_lines s b)

-- of blocks one after the other
abbrev pub LinesAddUp : Type 0
LinesAddUp = (s : State) (bs : List Block) (t : State) (lists : List (List Line)) → fold_from s bs ≡ Ok t → statements_from s bs ≡ Ok lists → AddUp s t (all_lines lists)

-- the lines add up to each account's quote and sizes
pub record AreTheAccounts (t : State) (lines : List Line) : Type 0 where
  pub quotes : (who : SubaccountId) → amounts_of who lines ≡ (account_of t who).quote
  pub positions : (who : SubaccountId) (market : ℕ) → sizes_of who market lines ≡ size_in (account_of t who) market

-- from a genesis they do
abbrev pub LinesAreTheAccount : Type 0
LinesAreTheAccount = (g : Genesis) (bs : List Block) (t : State) (lists : List (List Line)) → fold_blocks g bs ≡ Ok t → statements_from (genesis_state g) bs ≡ Ok lists
    → AreTheAccounts t (all_lines lists)
