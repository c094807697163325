-- The bytes of a state are bytes.
use Rattle.std.proofs.Common.{◌≡◌, ℕ, zero, suc, ◌%◌, Bool, true, false, cond, ◌==◌, nat_lt, ℤ, List, [], ◌∷◌, ◌++◌, length, refl, ◌∙◌, arith}
use Rattle.std.specs.List.{flat_map}
use Rattle.std.specs.Int.{w32, w64, w128, to_be_bytes}
use Rattle.std.proofs.lemmas.Bool.Decides.{nat_tests}
use Rattle.std.proofs.lemmas.List.Folds.{list_all-append}
use Rattle.sha2.specs.Sha256.{sha256, digest_bytes}
use Rattle.dx_types.specs.declared.SubaccountId.{SubaccountId}
use Rattle.dx_types.specs.declared.OrderId.{OrderId}
use Rattle.dx_types.specs.declared.Order.{Order}
use Rattle.dx_types.specs.declared.Kind.{Kind}
use Rattle.dx_types.specs.declared.Kind.TheVariants.{Gtc, Ioc, PostOnly, ReduceIoc}
use Rattle.dx_types.specs.declared.Waiting.{Waiting}
use Rattle.dx_types.specs.declared.Clock.{Clock}
use Rattle.dx_types.specs.declared.Funds.{Funds}
use Rattle.dx_types.specs.declared.Position.{Position}
use Rattle.dx_spec.specs.State.{State}
use Rattle.dx_spec.specs.Orders.{byte_of_kind, order_bytes}
use Rattle.dx_inspect.proofs.Testing.{and_has}
use Rattle.dx_codec.specs.Bytes.{u32_bytes, u64_bytes, i32_bytes, i64_bytes, i128_bytes, account_id_bytes, order_id_bytes, list_bytes}
use Rattle.dx_codec.specs.Blocks.{waiting_bytes}
use Rattle.dx_codec.specs.States.{clock_bytes, funds_bytes, market_row_bytes, position_bytes, account_row_bytes, filled_row_bytes, waiting_part, rows_bytes, rows_form, rows_of, state_bytes}
use Rattle.dx_codec.specs.declared.rows.MarketRow.{MarketRow}
use Rattle.dx_codec.specs.declared.rows.AccountRow.{AccountRow}
use Rattle.dx_codec.specs.declared.rows.FilledRow.{FilledRow}
use Rattle.dx_codec.specs.declared.rows.StateRows.{StateRows}
use Rattle.dx_history.specs.Rows.{are_bytes}
use Rattle.dx_history.proofs.Bytewise.{AllBytes, behind, digit, none, four, eight, u32_are, u64_are, i32_are, account_id_are, order_id_are, order_are, each_are, list_are, one_is, waiting_are}

i64_are : (z : ℤ) → AllBytes (i64_bytes z)
unfolding i64_bytes
i64_are z = eight _

sixteen : (n : ℕ) → AllBytes (to_be_bytes w128 n)
sixteen n =
    digit _ _ (digit _ _ (digit _ _ (digit _ _ (digit _ _ (digit _ _ (digit _ _ (digit _ _
    (digit _ _ (digit _ _ (digit _ _ (digit _ _ (digit _ _ (digit _ _ (digit _ _ (digit _ _ none)))))))))))))))

i128_are : (z : ℤ) → AllBytes (i128_bytes z)
unfolding i128_bytes
i128_are z = sixteen _

clock_are : (c : Clock) → AllBytes (clock_bytes c)
unfolding clock_bytes
clock_are c = behind (behind (behind (u32_are c.height) (u32_are c.time)) (u32_are c.sample_next)) (u32_are c.funding_next)

funds_are : (f : Funds) → AllBytes (funds_bytes f)
unfolding funds_bytes
funds_are f =
    behind (behind (behind (behind (behind (i128_are f.paid_in) (i128_are f.paid_out)) (i128_are f.fees)) (i128_are f.charged)) (i128_are f.fee_dust))
    (i128_are f.insurance)

market_are : (m : MarketRow) → AllBytes (market_row_bytes m)
unfolding market_row_bytes
market_are m =
    behind (behind (behind (behind (behind (behind (u64_are m.price) (i64_are m.index)) (u64_are m.oi)) (i64_are m.fund)) (i128_are m.dust))
    (list_are _ m.votes i32_are)) (list_are _ m.samples i32_are)

position_are : (p : Position) → AllBytes (position_bytes p)
unfolding position_bytes
position_are p = behind (behind (u32_are p.market) (i64_are p.size)) (i64_are p.index)

account_are : (a : AccountRow) → AllBytes (account_row_bytes a)
unfolding account_row_bytes
account_are a = behind (behind (account_id_are a.who) (i64_are a.account.quote)) (list_are position_bytes a.account.positions.items position_are)

filled_are : (r : FilledRow) → AllBytes (filled_row_bytes r)
unfolding filled_row_bytes
filled_are r = behind (behind (order_id_are r.id) (u64_are r.filled.amount)) (u32_are r.filled.until)

-- bytes that stand where a test says so
where_not : (b : Bool) (bytes : List ℕ) → AllBytes bytes → AllBytes (cond b [] bytes)
where_not true bytes h = none
where_not false bytes h = h

part_are : (ws : List Waiting) → AllBytes (waiting_part ws)
unfolding waiting_part
part_are ws = where_not (length ws == 0) (list_bytes waiting_bytes ws) (list_are waiting_bytes ws waiting_are)

form_by : (b : Bool) → AllBytes (cond b 1 2 ∷ [])
form_by true = one_is 1 refl
form_by false = one_is 2 refl

form_is : (r : StateRows) → AllBytes (rows_form r ∷ [])
form_is r = form_by (length r.waiting == 0)

rows_are : (r : StateRows) → AllBytes (rows_bytes r)
unfolding rows_bytes
rows_are r =
    behind (behind (behind (behind (behind (behind (clock_are r.clock) (funds_are r.funds)) (list_are market_row_bytes r.markets market_are))
    (list_are account_row_bytes r.accounts account_are)) (behind (u64_are (length r.filled)) (each_are filled_row_bytes r.filled filled_are)))
    (list_are _ r.stateful order_are)) (part_are r.waiting)

digest_are : (h : List ℕ) (n : ℕ) → AllBytes (digest_bytes h n)
unfolding digest_bytes
digest_are h zero = none
digest_are h (suc n) = behind (digest_are h n) (four _)

sha256_are : (m : List ℕ) → AllBytes (sha256 m)
unfolding sha256
sha256_are m = digest_are _ 8

-- those of a state are
pub state_are : (s : State) → AllBytes (state_bytes s)
unfolding state_bytes
state_are s = behind (behind (form_is (rows_of s)) (sha256_are _)) (rows_are (rows_of s))
