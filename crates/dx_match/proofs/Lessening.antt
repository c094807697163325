-- A fill of a liquidation lessens the size of the account's position by its amount.
use Rattle.std.proofs.Common.{◌≡◌, ℕ, ◌+◌, ◌≤◌, ◌<◌, ◌^◌, Bool, true, false, not, ◌==◌, ℤ, pos, negsuc, ◌+ℤ◌, unsigned_abs, nat_lt, Option, Some, None, Ok, unwrap_or, [], refl, sym, ap, subst, ◌∙◌, arith, lit<}
use Rattle.std.proofs.lemmas.Int.{ints}
use Rattle.std.proofs.lemmas.Bool.{eqb-true, ltb-false}
use Rattle.std.specs.FinMap.{get}
use Rattle.dx_types.specs.declared.SubaccountId.{SubaccountId}
use Rattle.dx_types.specs.declared.Account.{Account}
use Rattle.dx_types.specs.declared.Order.{Order}
use Rattle.dx_types.specs.declared.MarketInfo.{MarketInfo}
use Rattle.dx_spec.specs.Codes.{bad_role, other_market, self_trade, not_liquidatable, too_much}
use Rattle.dx_spec.specs.State.{State, no_account, is_same_account, account_of, position_in, size_in}
use Rattle.dx_spec.specs.Margin.{of_market, settled_account, is_liquidatable}
use Rattle.dx_spec.specs.Accounts.{settle_step, risk_of, is_long, trade}
use Rattle.dx_spec.specs.Orders.{is_ioc}
use Rattle.dx_spec.specs.Fills.{signed, fill_side}
use Rattle.dx_spec.specs.Liquidation.{check_liquidation, check_close, liquidate_step}
use Rattle.dx_spec.proofs.Steps.{true_from_not}
use Rattle.dx_spec.proofs.Scripts.{passes}
use Rattle.dx_spec.proofs.Accounts.{its_account, other_account}
use Rattle.dx_spec.proofs.Parts.{settle_is, traded, trade_is, fill_side_is, make_liquidation_is, liquidate_step_is}
use Rattle.dx_laws.proofs.Settling.{settled_size}
use Rattle.dx_laws.proofs.Positions.{size_shifted}
use Rattle.dx_sound.proofs.Trades.{option_cases}
use Rattle.dx_accounts.specs.Steady.{IsSteady}
use Rattle.dx_accounts.proofs.Settled.{sized}
use Rattle.dx_margin.specs.Ranges.{HasSizes}
use Rattle.dx_spec.proofs.Each.{if_found}
use Rattle.std.proofs.lemmas.List.Elements.{recursion_from_All, All-from_recursion}
use Rattle.dx_types.specs.declared.Position.{Position}

-- the size that an account has in a market
abbrev Size : State → SubaccountId → ℕ → ℤ
Size s who k = size_in (account_of s who) k

-- settling an account keeps its sizes
size-settle_own : (s : State) (who : SubaccountId) (k : ℕ) (t : State) → settle_step s who ≡ Some t → Size t who k ≡ Size s who k
size-settle_own s who k t e =
    settle_is (λ u. Size u who k ≡ Size s who k) s who t e (λ _. refl)
    (ap (λ a. size_in a k) (its_account s.accounts who (settled_account s.markets (account_of s who))) ∙ settled_size s.markets k (account_of s who))

-- and those of another
size-settle_other : (s : State) (q who : SubaccountId) (k : ℕ) (t : State) → is_same_account q who ≡ false → settle_step s q ≡ Some t → Size t who k ≡ Size s who k
size-settle_other s q who k t d e =
    settle_is (λ u. Size u who k ≡ Size s who k) s q t e (λ _. refl)
    (ap (λ o. size_in (unwrap_or o no_account) k) (other_account s.accounts q who (settled_account s.markets (account_of s q)) d))

-- a trade changes the size by its own
size-trade_own : (s : State) (who : SubaccountId) (k : ℕ) (z c : ℤ) (t : State) → trade s who k z c ≡ Some t → Size t who k ≡ Size s who k +ℤ z
size-trade_own s who k z c t e =
    subst (λ (u : State). Size u who k ≡ Size s who k +ℤ z) (trade_is s who k z c t e)
    (ap (λ a. size_in a k) (its_account s.accounts who (traded s who k z c)) ∙ size_shifted (account_of s who) k (of_market s.markets k (λ m. m.index)) z c)

-- and keeps those of another
size-trade_other : (s : State) (q who : SubaccountId) (k : ℕ) (z c : ℤ) (t : State) → is_same_account q who ≡ false → trade s q k z c ≡ Some t → Size t who k ≡ Size s who k
size-trade_other s q who k z c t d e =
    subst (λ (u : State). Size u who k ≡ Size s who k) (trade_is s q k z c t e)
    (ap (λ o. size_in (unwrap_or o no_account) k) (other_account s.accounts q who (traded s q k z c) d))

size-fill_side : (s : State) (o : Order) (amount : ℕ) (whole : ℤ) (ppm : ℕ) (who : SubaccountId) (t : State) → is_same_account o.id.who who ≡ false
    → fill_side s o amount whole ppm ≡ Some t → Size t who o.id.market ≡ Size s who o.id.market
size-fill_side s o amount whole ppm who t d e =
    fill_side_is (λ u. Size u who o.id.market ≡ Size s who o.id.market) s o amount whole ppm t e (λ u j. size-trade_other s o.id.who who o.id.market _ _ u d j)

-- an amount of a size closed
part_closed : (size : ℤ) (amount : ℕ) (long : Bool) → is_long size ≡ long → amount ≤ unsigned_abs size → unsigned_abs (size +ℤ signed (not long) (pos amount)) + amount ≡ unsigned_abs size
part_closed (pos n) amount true e h = omega (arith, ints, h)
part_closed (pos n) amount false e h = let none : n ≤ 0 = ltb-false 0 n e in omega (arith, ints, h, none)
part_closed (negsuc n) amount true e h = absurd (let i : false ≡ true = e in cc)
part_closed (negsuc n) amount false e h = omega (arith, ints, h)

closed_size : (before after : ℤ) (amount : ℕ) → amount ≤ unsigned_abs before → after ≡ before +ℤ signed (not (is_long before)) (pos amount) → unsigned_abs after + amount ≡ unsigned_abs before
closed_size before after amount h e = ap (λ z. unsigned_abs z + amount) e ∙ part_closed before amount (is_long before) refl h

-- what the tests say
closeable : (s u : State) (who : SubaccountId) (market : ℕ) (maker : Order) (amount : ℕ) (m : MarketInfo) (x : Unit {0}) → check_liquidation s who market maker amount ≡ Ok m
    → check_close u who m maker amount ≡ Ok x → (maker.id.market ≡ market) × (is_same_account maker.id.who who ≡ false) × (amount ≤ unsigned_abs (Size u who maker.id.market))
unfolding check_liquidation check_close
closeable s u who market maker amount m x c d =
    let a = passes bad_role (is_ioc maker.kind) _ m c in
    let b = passes other_market (not (maker.id.market == market)) _ m a.1 in
    let e = passes self_trade (is_same_account maker.id.who who) _ m b.1 in
    let f = passes not_liquidatable (not (is_liquidatable (risk_of u who))) _ x d in
    let g = passes too_much (nat_lt (unsigned_abs (Size u who maker.id.market)) amount) _ x f.1 in
    (eqb-true maker.id.market market (true_from_not (maker.id.market == market) b.0), e.0, ltb-false (unsigned_abs (Size u who maker.id.market)) amount g.0)

-- the size after a fill of a liquidation, and the amount, are the size before it
pub lessened_by : (s : State) (who : SubaccountId) (market : ℕ) (maker : Order) (amount : ℕ) (t : State) → liquidate_step s who market maker amount ≡ Ok t
    → unsigned_abs (Size t who market) + amount ≡ unsigned_abs (Size s who market)
lessened_by s who market maker amount t e =
    liquidate_step_is (λ w. unsigned_abs (Size w who market) + amount ≡ unsigned_abs (Size s who market)) s who market maker amount t e (λ m u v w x c i d j k.
    let parts = closeable s u who market maker amount m x c d in
    let n = maker.id.market in
    let same : Size v who n ≡ Size u who n = size-settle_other u maker.id.who who n v parts.1 j in
    let part : amount ≤ unsigned_abs (Size v who n) = subst (λ z. amount ≤ unsigned_abs z) (sym same) parts.2 in
    let start : Size v who n ≡ Size s who n = same ∙ size-settle_own s who n u i in
    subst (λ o. unsigned_abs (Size w who o) + amount ≡ unsigned_abs (Size s who o)) parts.0
    (make_liquidation_is (λ y. unsigned_abs (Size y who n) + amount ≡ unsigned_abs (Size s who n)) v who m maker amount w k (λ y z f g _ _.
    closed_size (Size v who n) (Size z who n) amount part
    (size-fill_side (record y { funds = _ }) maker amount _ _ who z parts.1 g ∙ size-trade_own v who n _ _ y f)
    ∙ ap unsigned_abs start)))

-- the sizes of an account, kept or not, keep their bound
pub sized_account : (s : State) (who : SubaccountId) → IsSteady s → HasSizes (account_of s who)
sized_account s who h = go (get s.accounts who) refl
  where
    go : (o : Option Account) → get s.accounts who ≡ o → HasSizes (unwrap_or o no_account)
    go None e = All-from_recursion (λ (p : Position). unsigned_abs p.size < 2 ^ 48) [] tt
    go (Some a) e = sized s who a h e

pub size_small : (s : State) (who : SubaccountId) (k : ℕ) → IsSteady s → unsigned_abs (size_in (account_of s who) k) < 2 ^ 48
size_small s who k h =
    let a = account_of s who in
    option_cases (λ z. unsigned_abs z < 2 ^ 48) (λ (p : Position). p.size) (position_in a k) (pos 0) (λ _. lit< tt)
    (λ p e. if_found (λ (q : Position). unsigned_abs q.size < 2 ^ 48) (λ q. q.market == k) a.positions.items p
    (recursion_from_All (λ (q : Position). unsigned_abs q.size < 2 ^ 48) a.positions.items (sized_account s who h)) e)
