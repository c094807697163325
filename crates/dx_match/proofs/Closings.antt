-- What is noted of a fill of a liquidation that was tried, and the makers of a market one after another.
use Rattle.std.proofs.Common.{◌≡◌, ◌≢◌, ℕ, suc, ◌+◌, ◌≤◌, ◌<◌, ◌^◌, Bool, true, false, ◌==◌, min, filter, Some, unsigned_abs, List, [], ◌∷◌, drop, fold, Result, Ok, Err, refl, sym, ap, ◌∙◌, arith, unwrap_or}
use Rattle.std.specs.Prelude.{slice_get}
use Rattle.std.specs.List.{AllByRecursion}
use Rattle.std.specs.FinMap.{get}
use Rattle.std.proofs.lemmas.Bool.{ne_eqb, and_parts, eqb-true, false_from_ne_true}
use Rattle.dx_types.specs.declared.SubaccountId.{SubaccountId}
use Rattle.dx_types.specs.declared.OrderId.{OrderId}
use Rattle.dx_types.specs.declared.Order.{Order}
use Rattle.dx_types.specs.declared.Op.{Op}
use Rattle.dx_spec.specs.Codes.{maker_risk, self_trade}
use Rattle.dx_spec.specs.State.{State, no_account, size_in}
use Rattle.dx_spec.specs.Bounds.{is_balance}
use Rattle.dx_spec.specs.Margin.{settled_account}
use Rattle.dx_spec.specs.Accounts.{is_long}
use Rattle.dx_spec.specs.Orders.{is_same_id, is_same_side}
use Rattle.dx_spec.specs.Liquidation.{liquidate_step}
use Rattle.dx_spec.proofs.Each.{all_weaker, all_both, all_filter, all_pass, all_sorted}
use Rattle.dx_node_spec.specs.Book.{left, is_better, is_on_side, side_of}
use Rattle.dx_node_spec.specs.Taking.{Taken, leaves, with_fill, refused_maker}
use Rattle.dx_node_spec.specs.Sweeping.{size_of, closed_liquidation, liquidate_one, liquidate_market}
use Rattle.dx_spec.proofs.Same.{one_id}
use Rattle.dx_book.proofs.Walks.{from_place, each_at}
use Rattle.dx_trade.specs.Conditions.{IsTradable}
use Rattle.dx_match.specs.declared.taken.Taking.{Taking}
use Rattle.dx_match.specs.declared.taken.Taker.TheVariants.{Liquidated}
use Rattle.dx_match.specs.Seen.{seen}
use Rattle.dx_match.specs.Takers.{closed_for}
use Rattle.dx_match.specs.Conditions.{KeepsThose, KeepsOthers, IsSettleable, SameHoldings}
use Rattle.dx_match.specs.Sweeps.{is_closed, tried_closing, close_maker, AreTradableIn}
use Rattle.dx_match.proofs.Standing.{keeps_on}

module _ (queue : List Op) (who : SubaccountId) (market : ℕ) (maker : Order) (amount : ℕ) (t last : Taken) where
  closing_risk : tried_closing queue who market maker amount t (Err maker_risk) ≡ refused_maker (closed_liquidation queue who market) maker t
  unfolding tried_closing
  closing_risk = refl

  -- a maker whose account does not bear it
  pub noted_risk : (code : ℕ) → code ≡ maker_risk → last ≡ refused_maker (closed_liquidation queue who market) maker t → last ≡ tried_closing queue who market maker amount t (Err code)
  noted_risk code same e = e ∙ sym (ap (λ n. tried_closing queue who market maker amount t (Err n)) same ∙ closing_risk)

  closing_own : tried_closing queue who market maker amount t (Err self_trade) ≡ leaves maker.id t
  unfolding tried_closing
  closing_own = refl

  -- an order of the account itself
  pub noted_own : (code : ℕ) → code ≡ self_trade → last ≡ leaves maker.id t → last ≡ tried_closing queue who market maker amount t (Err code)
  noted_own code same e = e ∙ sym (ap (λ n. tried_closing queue who market maker amount t (Err n)) same ∙ closing_own)

  -- any other code
  pub noted_end : (code : ℕ) → code ≢ maker_risk → code ≢ self_trade → record t { stop = code } ≡ tried_closing queue who market maker amount t (Err code)
  unfolding tried_closing
  noted_end code e f = rw (ne_eqb code maker_risk e, ne_eqb code self_trade f) refl

  -- a good fill
  pub noted_good : (s : State) (step : Result State ℕ) → step ≡ Ok s → last ≡ with_fill maker amount s t → last ≡ tried_closing queue who market maker amount t step
  unfolding tried_closing
  noted_good s step e h = h ∙ sym (ap (tried_closing queue who market maker amount t) e)

  -- the lesser of the position and of what is left of the maker
  pub closes_least : (a b : ℕ) → amount ≡ min a b → a ≡ unsigned_abs (size_of t.state who market) → b ≡ left t.state maker
      → last ≡ tried_closing queue who market maker amount t (liquidate_step t.state who market maker amount) → last ≡ close_maker queue who market t maker
  unfolding close_maker
  closes_least a b f i j h =
      let same : amount ≡ min (unsigned_abs (size_of t.state who market)) (left t.state maker) = f ∙ ap (λ n. min n b) i ∙ ap (min (unsigned_abs (size_of t.state who market))) j in
      h ∙ ap (λ n. tried_closing queue who market maker n t (liquidate_step t.state who market maker n)) same

-- a refused fill leaves the state as it was
pub closing_from : (queue : List Op) (who : SubaccountId) (market : ℕ) (maker : Order) (amount : ℕ) (s t : State) (p : Taking) (last : Taken) (step : Result State ℕ) → t ≡ s
    → last ≡ tried_closing queue who market maker amount (seen t p) step → last ≡ tried_closing queue who market maker amount (seen s p) step
closing_from queue who market maker amount s t p last step e h = h ∙ ap (λ (u : State). tried_closing queue who market maker amount (seen u p) step) e

-- the same accounts and markets
pub settles_same : (s t : State) (who : SubaccountId) → SameHoldings s t → IsSettleable s who → IsSettleable t who
settles_same s t who h e = (λ i. is_balance (settled_account (h.markets i) (unwrap_or (get (h.accounts i) who) no_account)).quote) ∙ e

pub size_same : (s t : State) (who : SubaccountId) (market : ℕ) → SameHoldings s t → size_of t who market ≡ size_of s who market
size_same s t who market h = λ i. size_in (unwrap_or (get (h.accounts i) who) no_account) market

-- what is filled and what is left of the position stay the same together
pub filled_and_left : (filled after amount size rest : ℕ) → after ≡ filled + amount → rest + amount ≡ size → after + rest ≡ filled + size
filled_and_left filled after amount size rest e f = omega (arith, e, f)

pub filled_same : (s t u : State) (who : SubaccountId) (market filled after : ℕ) → t ≡ s → size_of u who market ≡ size_of t who market → after ≡ filled
    → after + unsigned_abs (size_of u who market) ≡ filled + unsigned_abs (size_of s who market)
filled_same s t u who market filled after e f h =
    let same : size_of u who market ≡ size_of s who market = f ∙ ap (λ (x : State). size_of x who market) e in
    ap (λ z. after + unsigned_abs z) same ∙ ap (λ n. n + unsigned_abs (size_of s who market)) h

pub least_fits : (filled amount a b : ℕ) → amount ≡ min a b → filled + a < 2 ^ 64 → filled + amount < 2 ^ 64
least_fits filled amount a b e h = omega (arith, e, h)

-- the orders of a side of a market may be traded
pub side_tradable_in : (s : State) (book : List Order) (market : ℕ) (buy : Bool) → AreTradableIn market s book → AllByRecursion (IsTradable s) (side_of book market buy)
side_tradable_in s book market buy h =
    let on = is_on_side market buy in
    all_sorted (IsTradable s) is_better (filter on book)
    (all_weaker (λ x. (x.id.market ≡ market → IsTradable s x) × (on x ≡ true)) (IsTradable s)
    (λ x k. k.0 (eqb-true x.id.market market (and_parts (x.id.market == market) (is_same_side buy x.buy) k.1).0)) (filter on book)
    (all_both (λ x. x.id.market ≡ market → IsTradable s x) (λ x. on x ≡ true) (filter on book) (all_filter (λ x. x.id.market ≡ market → IsTradable s x) on book h) (all_pass on book)))

-- and each is of the market
side_market : (book : List Order) (market : ℕ) (buy : Bool) (k : ℕ) (m : Order) → slice_get (side_of book market buy) k ≡ Some m → m.id.market ≡ market
side_market book market buy k m e =
    eqb-true m.id.market market (and_parts (m.id.market == market) (is_same_side buy m.buy)
    (each_at (λ x. is_on_side market buy x ≡ true) (side_of book market buy) k m (all_sorted (λ x. is_on_side market buy x ≡ true) is_better (filter (is_on_side market buy) book) (all_pass (is_on_side market buy) book)) e)).0

other_market : (market : ℕ) (id m : OrderId) → m.market ≡ market → id.market ≢ market → is_same_id id m ≡ false
other_market market id m e d = false_from_ne_true (is_same_id id m) (λ b. d (ap (λ (x : OrderId). x.market) (one_id id m b) ∙ e))

-- so what a step with one of them keeps, the market keeps
pub keeps_side : (first s t : State) (book : List Order) (market : ℕ) (buy : Bool) (k : ℕ) (m : Order) → slice_get (side_of book market buy) k ≡ Some m
    → KeepsThose (λ id. id.market ≢ market) first s → KeepsOthers m.id s t → KeepsThose (λ id. id.market ≢ market) first t
keeps_side first s t book market buy k m e a b =
    keeps_on (λ id. id.market ≢ market) (λ other. is_same_id other m.id ≡ false) (λ id. id.market ≢ market) first s t (λ id d. d) (λ id d. other_market market id m.id (side_market book market buy k m e) d) a b

module _ (queue : List Op) (who : SubaccountId) (market : ℕ) where
  one_closes : (t : Taken) (m : Order) → is_closed t.state who market t.stop ≡ false → liquidate_one queue who market t m ≡ close_maker queue who market t m
  unfolding liquidate_one close_maker tried_closing
  one_closes t m e = rw e refl

  one_stays : (t : Taken) (m : Order) → is_closed t.state who market t.stop ≡ true → liquidate_one queue who market t m ≡ t
  unfolding liquidate_one
  one_stays t m e = rw e refl

  all_stay : (t : Taken) (makers : List Order) → is_closed t.state who market t.stop ≡ true → fold (liquidate_one queue who market) t makers ≡ t
  all_stay t [] e = refl
  all_stay t (m ∷ ms) e = ap (λ u. fold (liquidate_one queue who market) u ms) (one_stays t m e) ∙ all_stay t ms e

  -- where no more is closed, all is done
  pub closed_up : (t whole : Taken) (makers : List Order) → is_closed t.state who market t.stop ≡ true → fold (liquidate_one queue who market) t makers ≡ whole → t ≡ whole
  closed_up t whole makers e made = sym (all_stay t makers e) ∙ made

  -- and where no maker is left
  pub none_to_close : (t whole : Taken) (makers : List Order) → makers ≡ [] → fold (liquidate_one queue who market) t makers ≡ whole → t ≡ whole
  none_to_close t whole makers e made = ap (fold (liquidate_one queue who market) t) (sym e) ∙ made

  -- one maker more
  pub next_closes : (side : List Order) (k : ℕ) (m : Order) (t u whole : Taken) → slice_get side k ≡ Some m → is_closed t.state who market t.stop ≡ false → u ≡ close_maker queue who market t m
      → fold (liquidate_one queue who market) t (drop k side) ≡ whole → fold (liquidate_one queue who market) u (drop (k + 1) side) ≡ whole
  next_closes side k m t u whole e d h made =
      let one_on : k + 1 ≡ suc k = omega arith in
      ap (λ n. fold (liquidate_one queue who market) u (drop n side)) one_on
      ∙ ap (λ v. fold (liquidate_one queue who market) v (drop (suc k) side)) (h ∙ sym (one_closes t m d))
      ∙ ap (fold (liquidate_one queue who market) t) (sym (from_place side k m e))
      ∙ made

-- a whole market
pub market_closed : (book : List Order) (queue : List Op) (who : SubaccountId) (market : ℕ) (t u v : Taken) (long : Bool) → long ≡ is_long (size_of t.state who market)
    → u ≡ fold (liquidate_one queue who market) (record t { stop = 0 }) (side_of book market long) → v ≡ closed_for queue (Liquidated who market) u → v ≡ liquidate_market book queue who t market
unfolding liquidate_market
market_closed book queue who market t u v long e f h =
    h ∙ ap (closed_liquidation queue who market) (f ∙ ap (λ b. fold (liquidate_one queue who market) (record t { stop = 0 }) (side_of book market b)) e)

-- so little is filled in a market, and so seldom
pub at_most : (a b c : ℕ) → a + b ≡ c → a ≤ c
at_most a b c e = omega (arith, e)

pub seldom : (fills before number count : ℕ) → fills ≤ before + number → number ≤ count → count ≤ 65_537 → fills ≤ before + 65_537
seldom fills before number count h n l = omega (arith, h, n, l)

pub once_more : (fills before number count : ℕ) → fills ≤ before + number → number < count → count ≤ 65_537 → before + 65_537 < 2 ^ 32 → fills + 1 < 2 ^ 32
once_more fills before number count h n l r = omega (arith, h, n, l, r)
