-- What a fill adds to the filled amounts.
use Rattle.std.proofs.Common.{◌≡◌, ℕ, suc, ◌+◌, ◌^◌, ◌<◌, ◌≤◌, Bool, true, false, cond, not, ◌==◌, ℤ, Some, List, [], ◌∷◌, length, Ok, IsTrue, refl, sym, ap, subst, ◌∙◌, arith, lit<}
use Prim.Native.Nat.{zero}
use Rattle.std.specs.Prelude.{slice_get, IfSome}
use Rattle.std.proofs.lemmas.Bool.{ltb-true}
use Rattle.std.specs.Option.{option_map_or}
use Rattle.std.specs.FinMap.{get, get-insert}
use Rattle.std.specs.Cmp.{eq_by_cmp_equiv}
use Rattle.std.specs.Ordering.{eq_by_cmp}
use Rattle.dx_types.specs.Keys.{order_id_cmp, order_id_total, subaccount_total}
use Rattle.dx_types.specs.declared.OrderId.{OrderId}
use Rattle.dx_types.specs.declared.Order.{Order}
use Rattle.dx_types.specs.declared.MarketInfo.{MarketInfo}
use Rattle.dx_types.specs.declared.FillRecord.{FillRecord}
use Rattle.dx_spec.specs.Codes.{bad_role, other_market, same_side, self_trade}
use Rattle.dx_spec.specs.State.{State, is_same_account, filled_of}
use Rattle.dx_spec.specs.Balance.{IsSoundFilled}
use Rattle.dx_spec.specs.Orders.{is_ioc, is_amount_of, is_same_side}
use Rattle.dx_spec.specs.Fills.{fill_side, check_pair, fill_step}
use Rattle.dx_spec.proofs.Parts.{check_fill_is, make_fill_is, fill_step_is}
use Rattle.dx_node_spec.specs.Book.{left}
use Rattle.dx_spec.proofs.Scripts.{passes}
use Rattle.dx_sound.proofs.Settlement.{filled-settle_step}
use Rattle.dx_sound.proofs.Sides.{sides}
use Rattle.dx_sound.proofs.Trades.{option_cases, amount_parts}
use Rattle.dx_accounts.specs.Steady.{IsSteady}
use Rattle.dx_trade.specs.Conditions.{IsTradable}
use Rattle.dx_trade.proofs.Tradables.{tradable_fillable}
use Rattle.dx_sound.proofs.Fills.{other_filled}

at_true : {X : Type 0} (b : Bool) (x y : X) → b ≡ true → cond b x y ≡ x
at_true true x y e = refl
at_true false x y e = absurd (cc)

accounts_apart : (taker maker : Order) → check_pair taker maker ≡ Ok tt → is_same_account taker.id.who maker.id.who ≡ false
unfolding check_pair
accounts_apart taker maker e =
    let a = passes bad_role (is_ioc maker.kind) _ tt e in
    let b = passes other_market (not (maker.id.market == taker.id.market)) _ tt a.1 in
    let c = passes same_side (is_same_side maker.buy taker.buy) _ tt b.1 in
    let d = passes self_trade (is_same_account maker.id.who taker.id.who) _ tt c.1 in
    swapped taker.id maker.id ∙ d.0
  where
    swapped : (a b : OrderId) → is_same_account a.who b.who ≡ is_same_account b.who a.who
    swapped a b = (eq_by_cmp_equiv subaccount_total).symm a.who b.who

-- a side fills its own order
own_filled : (s : State) (o : Order) (amount : ℕ) (whole : ℤ) (ppm : ℕ) (t : State) → fill_side s o amount whole ppm ≡ Some t → filled_of t o.id ≡ filled_of s o.id + amount
own_filled s o amount whole ppm t e =
    let i = sides s o amount whole ppm t e in
    ap (λ x. option_map_or (λ r. r.amount) x 0) (
    ap (λ (u : State). get u.filled o.id) (sym i.is)
    ∙ get-insert order_id_total i.traded.filled o.id _ o.id
    ∙ at_true (eq_by_cmp order_id_cmp o.id o.id) _ (get i.traded.filled o.id) ((eq_by_cmp_equiv order_id_total).refl o.id))
    ∙ ap (λ m. option_map_or (λ r. r.amount) (get m o.id) 0 + amount) i.filled

-- a fill fills the taker by its amount
filled_after : (s : State) (taker maker : Order) (amount : ℕ) (t : State) → fill_step s taker maker amount ≡ Ok t → filled_of t taker.id ≡ filled_of s taker.id + amount
filled_after s taker maker amount t e =
    fill_step_is (λ w. filled_of w taker.id ≡ filled_of s taker.id + amount) s taker maker amount t e (λ m u v w c i j k.
    make_fill_is (λ x. filled_of x taker.id ≡ filled_of s taker.id + amount) v m taker maker amount w k (λ x y p q _.
    let apart : is_same_account taker.id.who maker.id.who ≡ false = check_fill_is _ s taker maker amount m c (λ z f. accounts_apart taker maker f) in
    other_filled x maker amount _ _ y taker.id q apart
    ∙ own_filled v taker amount _ _ x p
    ∙ ap (λ f. option_map_or (λ r. r.amount) (get f taker.id) 0 + amount) (filled-settle_step u maker.id.who v j ∙ filled-settle_step s taker.id.who u i)))

-- so as much is filled as was
pub filled_within : (s : State) (taker maker : Order) (amount filled after : ℕ) (t : State) → fill_step s taker maker amount ≡ Ok t
    → filled ≤ filled_of s taker.id → after ≡ filled + amount → after ≤ filled_of t taker.id
filled_within s taker maker amount filled after t e h i = let f = filled_after s taker maker amount t e in omega (arith, f, h, i)

some_within : {X : Type 0} (xs : List X) (i : ℕ) → i < length xs → (x : X) × (slice_get xs i ≡ Some x)
some_within [] i h = absurd (omega arith)
some_within (x ∷ xs) zero h = (x, refl)
some_within (x ∷ xs) (suc i) h = some_within xs i (omega arith)

record_small : (s : State) (id : OrderId) (r : FillRecord) → IsSoundFilled s id r → r.amount < 2 ^ 48
record_small s id r h =
    let m = some_within s.markets id.market h.known in
    let fits : is_amount_of m.0.params r.amount ≡ true = subst (λ o. IfSome o (λ (n : MarketInfo). IsTrue (is_amount_of n.params r.amount))) m.1 h.amount in
    ltb-true r.amount (2 ^ 48) (amount_parts m.0.params r.amount fits).small

-- what is filled of an order keeps the bound of a size
filled_small : (s : State) (id : OrderId) → IsSteady s → filled_of s id < 2 ^ 48
filled_small s id h = option_cases (λ n. n < 2 ^ 48) (λ (r : FillRecord). r.amount) (get s.filled id) 0 (λ _. lit< tt) (λ r e. record_small s id r (h.within.filled id r e))

-- no more than what is left of an order keeps the range of what is filled
pub room_left : (s : State) (o : Order) (filled amount : ℕ) → IsSteady s → IsTradable s o → filled ≤ filled_of s o.id → amount ≤ left s o → filled + amount < 2 ^ 64
room_left s o filled amount h w i e =
    let recorded = filled_small s o.id h in
    let size : o.size < 2 ^ 48 = ltb-true o.size (2 ^ 48) (tradable_fillable s o h w).size in
    omega (arith, recorded, size, i, e)
