-- The lines of a statement: what each fill, offset and good message of a block changed of each account.
use Rattle.std.specs.Prelude.{ℕ, ◌+◌, Bool, not, ◌&&◌, pos, ◌-ℤ◌, List, [], ◌∷◌, ◌++◌, map, filter, flat_map, Result, Ok, Err}
use Rattle.std.specs.Option.{option_map_or}
use Rattle.std.specs.Ordering.{int_eq}
use Rattle.std.specs.FinMap.{empty}
use Rattle.dx_types.specs.declared.SubaccountId.{SubaccountId}
use Rattle.dx_types.specs.declared.OrderId.{OrderId}
use Rattle.dx_types.specs.declared.Order.{Order}
use Rattle.dx_types.specs.declared.Fill.{Fill}
use Rattle.dx_types.specs.declared.Offset.{Offset}
use Rattle.dx_types.specs.declared.Paid.{Paid}
use Rattle.dx_types.specs.declared.Op.{Op}
use Rattle.dx_types.specs.declared.Op.TheVariants.{Place, Match, Liquidate, Delever, Remove}
use Rattle.dx_types.specs.declared.Msg.{Msg}
use Rattle.dx_types.specs.declared.Msg.TheVariants.{Deposit, Withdraw, Transfer, PlaceStateful, CancelStateful, PlaceConditional}
use Rattle.dx_types.specs.declared.Block.{Block}
use Rattle.dx_types.specs.declared.Bad.{Bad}
use Rattle.dx_num.specs.Rounding.{int_sum_by}
use Rattle.dx_spec.specs.Step.{◌>>=◌}
use Rattle.dx_spec.specs.State.{State, account_of, size_in}
use Rattle.dx_spec.specs.Margin.{payments}
use Rattle.dx_spec.specs.Operations.{Placed, Progress, order_of, match_fill, liquidation_fill, deleveraging_offset, op_at, ops_step}
use Rattle.dx_spec.specs.Messages.{message_step, message}
use Rattle.dx_spec.specs.Blocks.{block_step}
use Rattle.dx_lines.specs.declared.lines.Line.{Line}

-- why a line stands
abbrev pub by_deposit : ℕ
by_deposit = 1

-- money paid out
abbrev pub by_withdrawal : ℕ
by_withdrawal = 2

-- money moved from one account to another
abbrev pub by_transfer : ℕ
by_transfer = 3

-- funding paid at a settlement
abbrev pub by_funding : ℕ
by_funding = 4

-- a fill of a match
abbrev pub by_match : ℕ
by_match = 5

-- a fill of a liquidation
abbrev pub by_liquidation : ℕ
by_liquidation = 6

-- an offset of a deleveraging
abbrev pub by_deleveraging : ℕ
by_deleveraging = 7

-- the funding that a settlement pays the account for its position of a market
abbrev pub funding_line : SubaccountId → Paid → Line
funding_line who x = record { who = who; cause = by_funding; market = x.market; size = pos 0; amount = x.paid }

-- the rest of what changed: the account's size in the market, and its quote less the funding
abbrev pub rest_line : State → State → SubaccountId → ℕ → ℕ → Line
rest_line s t who cause market = record {
  who = who;
  cause = cause;
  market = market;
  size = size_in (account_of t who) market -ℤ size_in (account_of s who) market;
  amount = (account_of t who).quote -ℤ (account_of s who).quote -ℤ int_sum_by (λ x. x.paid) (payments s.markets (account_of s who));
}

-- a line that says nothing is left out
abbrev pub is_change : Line → Bool
is_change line = not (int_eq line.size (pos 0) && int_eq line.amount (pos 0))

-- the lines of an account from one state to the next: its funding by rising market, and the rest
unfoldable pub account_lines : State → State → SubaccountId → ℕ → ℕ → List Line
account_lines s t who cause market =
    filter is_change (map (funding_line who) (payments s.markets (account_of s who)) ++ rest_line s t who cause market ∷ [])

-- those of two accounts, one after the other
abbrev pub both_lines : State → State → SubaccountId → SubaccountId → ℕ → ℕ → List Line
both_lines s t a b cause market = account_lines s t a cause market ++ account_lines s t b cause market

-- what a good step tells; a step that is refused tells nothing
abbrev pub if_good : {S E : Type 0} → Result S E → (S → List Line) → List Line
if_good (Ok t) tell = tell t
if_good (Err e) tell = []

-- what each good step over the members of a list tells of the states before and after it, in order
abbrev pub each_told : {S X E : Type 0} → (ℕ → X → S → Result S E) → (X → S → S → List Line) → ℕ → List X → S → List Line
each_told step tell n [] s = []
each_told step tell n (x ∷ xs) s = if_good (step n x s) (λ t. tell x s t ++ each_told step tell (n + 1) xs t)

-- a fill of a match: the taker's account, then the maker's
unfoldable pub fill_lines : Placed → Order → Fill → State → State → List Line
fill_lines placed taker f s t =
    option_map_or (λ maker. both_lines s t taker.id.who maker.id.who by_match taker.id.market) (order_of s placed f.maker) []

-- a fill of a liquidation: the account that is liquidated, then the maker's
unfoldable pub closing_lines : Placed → SubaccountId → ℕ → Fill → State → State → List Line
closing_lines placed who market f s t =
    option_map_or (λ maker. both_lines s t who maker.id.who by_liquidation market) (order_of s placed f.maker) []

-- an offset of a deleveraging: the account that is deleveraged, then the one that takes over
unfoldable pub offset_lines : SubaccountId → ℕ → Offset → State → State → List Line
offset_lines who market offset s t = both_lines s t who offset.who by_deleveraging market

-- the fills of a match
abbrev pub match_lines : State → Placed → OrderId → List Fill → List Line
match_lines s placed taker fills =
    option_map_or (λ o. each_told (match_fill placed o) (fill_lines placed o) 0 fills s) (order_of s placed taker) []

-- the fills or offsets of an operation
unfoldable pub op_lines : Op → Progress → List Line
op_lines (Place o) p = []
op_lines (Match taker fills) p = match_lines p.state p.placed taker fills
op_lines (Liquidate who market fills) p = each_told (liquidation_fill p.placed who market) (closing_lines p.placed who market) 0 fills p.state
op_lines (Delever who market offsets) p = each_told (deleveraging_offset who market) (offset_lines who market) 0 offsets p.state
op_lines (Remove id) p = []

-- those of all operations of a block
unfoldable pub ops_lines : State → ℕ → List Op → List Line
ops_lines s height ops = each_told (op_at height) (λ op p q. op_lines op p) 0 ops (record { state = s; placed = empty })

-- a good message of money
unfoldable pub message_lines : Msg → State → State → List Line
message_lines (Deposit who amount) s t = account_lines s t who by_deposit 0
message_lines (Withdraw who amount) s t = account_lines s t who by_withdrawal 0
message_lines (Transfer from to amount) s t = both_lines s t from to by_transfer 0
message_lines (PlaceStateful o) s t = []
message_lines (CancelStateful id) s t = []
message_lines (PlaceConditional o above trigger) s t = []

-- the messages of a block, in order
abbrev pub messages_lines : State → ℕ → List Msg → List Line
messages_lines s time [] = []
messages_lines s time (m ∷ ms) = if_good (message_step s time m) (message_lines m s) ++ messages_lines (message s time m).0 time ms

-- the lines of a block: nothing else of it writes an account
unfoldable pub block_lines : State → Block → List Line
block_lines s b = ops_lines s b.height b.ops ++ if_good (ops_step s b.height b.ops) (λ t. messages_lines t b.time b.msgs)

-- the state after a block with its lines, or its first bad part
unfoldable pub statement_step : State → Block → Result (State × List Line) Bad
statement_step s b = do
  after ← block_step s b
  Ok (after.0, block_lines s b)

-- the lines of blocks one after the other, a list for each height
unfoldable pub statements_from : State → List Block → Result (List (List Line)) Bad
statements_from s [] = Ok []
statements_from s (b ∷ bs) = do
  after ← block_step s b
  rest ← statements_from after.0 bs
  Ok (block_lines s b ∷ rest)

-- those of all heights
abbrev pub all_lines : List (List Line) → List Line
all_lines lists = flat_map (λ lines. lines) lists
