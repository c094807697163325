-- The lines of each fill, offset and message add up.
use Rattle.std.proofs.Common.{◌≡◌, ℕ, false, not, ◌==◌, ℤ, pos, ◌-ℤ◌, [], unwrap_or, Ok, refl, ap, subst, ◌∙◌, arith}
use Rattle.std.proofs.lemmas.Int.{ints}
use Rattle.std.specs.Cmp.{eq_by_cmp_equiv}
use Rattle.std.specs.FinMap.{get}
use Rattle.dx_types.specs.Keys.{subaccount_total}
use Rattle.dx_types.specs.declared.SubaccountId.{SubaccountId}
use Rattle.dx_types.specs.declared.Order.{Order}
use Rattle.dx_types.specs.declared.Offset.{Offset}
use Rattle.dx_types.specs.declared.Msg.{Msg}
use Rattle.dx_types.specs.declared.Msg.TheVariants.{Deposit, Withdraw, Transfer, PlaceStateful, CancelStateful, PlaceConditional}
use Rattle.dx_types.specs.declared.MarketInfo.{MarketInfo}
use Rattle.dx_spec.specs.Codes.{bad_role, other_market, self_trade, same_side}
use Rattle.dx_spec.specs.Results.{bad_amount, same_account}
use Rattle.dx_spec.specs.State.{State, no_account, size_in, is_same_account}
use Rattle.dx_spec.specs.Orders.{is_ioc, is_same_side}
use Rattle.dx_spec.specs.Fills.{check_pair, market_for, make_fill, fill_step}
use Rattle.dx_spec.specs.Liquidation.{check_liquidation, make_liquidation, liquidate_step}
use Rattle.dx_spec.specs.Deleveraging.{check_offset, make_offset, delever_step}
use Rattle.dx_spec.specs.Messages.{is_bad_sum, check_transfer, deposit_step, withdraw_step, transfer_step, message_step}
use Rattle.dx_spec.proofs.Steps.{number_from_not, refuse_then, refuse_false, then_result, then_passed}
use Rattle.dx_spec.proofs.Parts.{pair_market, check_fill_is, make_fill_is, fill_step_is, not_its_own, make_liquidation_is, liquidate_step_is, make_offset_is, delever_step_is, with_paid_in, with_paid_out, deposit_step_is, withdraw_step_is, transfer_step_is, place_stateful_step_is, place_conditional_step_is, cancel_stateful_step_is}
use Rattle.dx_lines.specs.Laws.{AddUp}
use Rattle.dx_lines.specs.Lines.{by_match, by_liquidation, by_deleveraging, by_deposit, by_withdrawal, by_transfer, both_lines, message_lines}
use Rattle.dx_lines.proofs.Moving.{Moves, moves_not, moves_on, is_first, is_second, moves_settle, moves_trade, moves_quote, moves_side, one_adds_up, both_add_up}

-- the accounts of a fill are two
pub pair_accounts : (taker maker : Order) (x : Unit {0}) → check_pair taker maker ≡ Ok x → is_same_account maker.id.who taker.id.who ≡ false
unfolding check_pair
pair_accounts taker maker x e =
    refuse_false self_trade (is_same_account maker.id.who taker.id.who) _ x
    (refuse_then same_side (is_same_side maker.buy taker.buy) _ x
    (refuse_then other_market (not (maker.id.market == taker.id.market)) _ x (refuse_then bad_role (is_ioc maker.kind) _ x e)))

moves_make_fill : (s : State) (m : MarketInfo) (taker maker : Order) (amount : ℕ) (t : State) → maker.id.market ≡ taker.id.market → make_fill s m taker maker amount ≡ Ok t
    → Moves taker.id.who maker.id.who taker.id.market s t
moves_make_fill s m taker maker amount t k e =
    let a = taker.id.who in let b = maker.id.who in
    make_fill_is (Moves a b taker.id.market s) s m taker maker amount t e (λ u v i j c.
    moves_on a b taker.id.market s u v
    (moves_side a b taker.id.market s u taker amount _ _ refl (is_first a b) i)
    (moves_side a b taker.id.market u v maker amount _ _ k (is_second a b) j))

-- two settlements, and what follows them
two_settled : (a b : SubaccountId) (k : ℕ) (s u v w : State) → Moves a b k s u → Moves a b k u v → Moves a b k v w → Moves a b k s w
two_settled a b k s u v w h i j = moves_on a b k s u w h (moves_on a b k u v w i j)

-- a fill
pub fill_adds_up : (s : State) (taker maker : Order) (amount : ℕ) (t : State) → fill_step s taker maker amount ≡ Ok t
    → AddUp s t (both_lines s t taker.id.who maker.id.who by_match taker.id.market)
fill_adds_up s taker maker amount t e =
    let a = taker.id.who in let b = maker.id.who in let k = taker.id.market in
    fill_step_is (λ t. AddUp s t (both_lines s t a b by_match k)) s taker maker amount t e (λ m u v w c i j l.
    check_fill_is _ s taker maker amount m c (λ x d.
    both_add_up s w a b by_match k (pair_accounts taker maker x d)
    (two_settled a b k s u v w (moves_settle a b k s u a (is_first a b) i) (moves_settle a b k u v b (is_second a b) j)
    (moves_make_fill v m taker maker amount w (pair_market taker maker x d) l))))

its_market : (s : State) (who : SubaccountId) (market : ℕ) (maker : Order) (amount : ℕ) (m : MarketInfo) → check_liquidation s who market maker amount ≡ Ok m → maker.id.market ≡ market
unfolding check_liquidation
its_market s who market maker amount m e =
    number_from_not maker.id.market market (refuse_false other_market (not (maker.id.market == market)) _ m (refuse_then bad_role (is_ioc maker.kind) _ m e))

moves_make_liquidation : (s : State) (who : SubaccountId) (m : MarketInfo) (maker : Order) (amount : ℕ) (t : State) → make_liquidation s who m maker amount ≡ Ok t
    → Moves who maker.id.who maker.id.market s t
moves_make_liquidation s who m maker amount t e =
    let b = maker.id.who in let k = maker.id.market in
    make_liquidation_is (Moves who b k s) s who m maker amount t e (λ u v i j c d.
    two_settled who b k s u _ v (moves_trade who b k s u who _ _ (is_first who b) i) (moves_not who b k u _ refl)
    (moves_side who b k _ v maker amount _ _ refl (is_second who b) j))

-- a fill of a liquidation
pub closing_adds_up : (s : State) (who : SubaccountId) (market : ℕ) (maker : Order) (amount : ℕ) (t : State) → liquidate_step s who market maker amount ≡ Ok t
    → AddUp s t (both_lines s t who maker.id.who by_liquidation market)
closing_adds_up s who market maker amount t e =
    let b = maker.id.who in
    liquidate_step_is (λ t. AddUp s t (both_lines s t who b by_liquidation market)) s who market maker amount t e (λ m u v w x c i d j l.
    both_add_up s w who b by_liquidation market (not_its_own s who market maker amount m c)
    (two_settled who b market s u v w (moves_settle who b market s u who (is_first who b) i) (moves_settle who b market u v b (is_second who b) j)
    (subst (λ k. Moves who b k v w) (its_market s who market maker amount m c) (moves_make_liquidation v who m maker amount w l))))

-- the accounts of an offset are two
other_taker : (s : State) (who : SubaccountId) (market : ℕ) (offset : Offset) (m : MarketInfo) → check_offset s who market offset ≡ Ok m → is_same_account offset.who who ≡ false
unfolding check_offset
other_taker s who market offset m e =
    then_result (λ _. is_same_account offset.who who ≡ false) (market_for s market offset.amount) _ m e
    (λ x i f. refuse_false self_trade (is_same_account offset.who who) _ m f)

pub two_take : (s : State) (who : SubaccountId) (market : ℕ) (offset : Offset) (t : State) → delever_step s who market offset ≡ Ok t → is_same_account offset.who who ≡ false
unfolding delever_step
two_take s who market offset t e =
    then_result (λ _. is_same_account offset.who who ≡ false) (check_offset s who market offset) _ t e (λ m i f. other_taker s who market offset m i)

moves_make_offset : (s : State) (who : SubaccountId) (m : MarketInfo) (market : ℕ) (offset : Offset) (t : State) → make_offset s who m market offset ≡ Ok t
    → Moves who offset.who market s t
moves_make_offset s who m market offset t e =
    let b = offset.who in
    make_offset_is (Moves who b market s) s who m market offset t e (λ u v i j c.
    moves_on who b market s u v (moves_trade who b market s u who _ _ (is_first who b) i) (moves_trade who b market u v b _ _ (is_second who b) j))

-- an offset
pub offset_adds_up : (s : State) (who : SubaccountId) (market : ℕ) (offset : Offset) (t : State) → delever_step s who market offset ≡ Ok t
    → AddUp s t (both_lines s t who offset.who by_deleveraging market)
offset_adds_up s who market offset t e =
    let b = offset.who in
    both_add_up s t who b by_deleveraging market (two_take s who market offset t e)
    (delever_step_is (Moves who b market s) s who market offset t e (λ m u v w i j l.
    two_settled who b market s u v w (moves_settle who b market s u who (is_first who b) i) (moves_settle who b market u v b (is_second who b) j)
    (moves_make_offset v who m market offset w l)))

moves_deposit : (s : State) (who : SubaccountId) (amount : ℕ) (t : State) → deposit_step s who amount ≡ Ok t → Moves who who 0 s t
moves_deposit s who amount t e =
    deposit_step_is (Moves who who 0 s) s who amount t e (λ u v i j.
    two_settled who who 0 s u v _ (moves_settle who who 0 s u who (is_first who who) i) (moves_quote who who 0 u v who _ (is_first who who) j)
    (moves_not who who 0 v (with_paid_in v amount) refl))

moves_withdraw : (s : State) (who : SubaccountId) (amount : ℕ) (t : State) → withdraw_step s who amount ≡ Ok t → Moves who who 0 s t
moves_withdraw s who amount t e =
    withdraw_step_is (Moves who who 0 s) s who amount t e (λ u v i j.
    two_settled who who 0 s u v _ (moves_settle who who 0 s u who (is_first who who) i) (moves_quote who who 0 u v who _ (is_first who who) j)
    (moves_not who who 0 v (with_paid_out v amount) refl))

moves_transfer : (s : State) (from to : SubaccountId) (amount : ℕ) (t : State) → transfer_step s from to amount ≡ Ok t → Moves from to 0 s t
moves_transfer s from to amount t e =
    transfer_step_is (Moves from to 0 s) s from to amount t e (λ u v w x i j k l.
    two_settled from to 0 s u v x (moves_settle from to 0 s u from (is_first from to) i) (moves_settle from to 0 u v to (is_second from to) j)
    (moves_on from to 0 v w x (moves_quote from to 0 v w from _ (is_first from to) k) (moves_quote from to 0 w x to _ (is_second from to) l)))

pub turned : (a b : SubaccountId) → is_same_account a b ≡ false → is_same_account b a ≡ false
turned a b e = (eq_by_cmp_equiv subaccount_total).symm b a ∙ e

is_other : (s : State) (from to : SubaccountId) (amount : ℕ) (x : Unit {0}) → check_transfer s from to amount ≡ Ok x → is_same_account from to ≡ false
unfolding check_transfer
is_other s from to amount x e = refuse_false same_account (is_same_account from to) _ x (refuse_then bad_amount (is_bad_sum amount) _ x e)

pub to_another : (s : State) (from to : SubaccountId) (amount : ℕ) (t : State) → transfer_step s from to amount ≡ Ok t → is_same_account from to ≡ false
unfolding transfer_step
to_another s from to amount t e = then_passed (λ _. is_same_account from to ≡ false) (check_transfer s from to amount) _ t e (λ x i f. is_other s from to amount x i)

-- nothing is written
pub nothing_adds_up : (s t : State) → t.accounts ≡ s.accounts → AddUp s t []
nothing_adds_up s t e = record {
  amounts = λ q. none_moved _ _ (ap (λ m. (unwrap_or (get m q) no_account).quote) e);
  sizes = λ q n. none_moved _ _ (ap (λ m. size_in (unwrap_or (get m q) no_account) n) e);
} where
  none_moved : (x y : ℤ) → y ≡ x → pos 0 ≡ y -ℤ x
  none_moved x y e = omega (arith, ints)

-- a message
pub message_adds_up : (s : State) (time : ℕ) (m : Msg) (t : State) → message_step s time m ≡ Ok t → AddUp s t (message_lines m s t)
unfolding message_step message_lines
message_adds_up s time (Deposit who amount) t e = one_adds_up s t who by_deposit 0 (moves_deposit s who amount t e)
message_adds_up s time (Withdraw who amount) t e = one_adds_up s t who by_withdrawal 0 (moves_withdraw s who amount t e)
message_adds_up s time (Transfer from to amount) t e =
    both_add_up s t from to by_transfer 0 (turned from to (to_another s from to amount t e)) (moves_transfer s from to amount t e)
message_adds_up s time (PlaceStateful o) t e = nothing_adds_up s t (place_stateful_step_is (λ u. u.accounts ≡ s.accounts) s time o t e refl)
message_adds_up s time (CancelStateful id) t e = nothing_adds_up s t (cancel_stateful_step_is (λ u. u.accounts ≡ s.accounts) s id t e refl)
message_adds_up s time (PlaceConditional o above trigger) t e = nothing_adds_up s t (place_conditional_step_is (λ u. u.accounts ≡ s.accounts) s time o above trigger t e refl)
