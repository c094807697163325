-- The markets of a sweep, one after another.
use Rattle.std.proofs.Common.{◌≡◌, ◌≢◌, ℕ, suc, ◌+◌, ◌-◌, ◌*◌, ◌≤◌, ◌<◌, ◌^◌, Bool, true, false, cond, not, is_none, List, length, fold, refl, sym, ap, ◌∙◌, arith}
use Rattle.std.specs.List.{range_with_len}
use Rattle.std.proofs.lemmas.List.{length-map}
use Rattle.std.proofs.lemmas.List.Elements.{recursion_from_All}
use Rattle.dx_types.specs.declared.SubaccountId.{SubaccountId}
use Rattle.dx_types.specs.declared.OrderId.{OrderId}
use Rattle.dx_types.specs.declared.Order.{Order}
use Rattle.dx_types.specs.declared.Op.{Op}
use Rattle.dx_spec.specs.State.{State}
use Rattle.dx_spec.specs.Accounts.{settle_step}
use Rattle.dx_spec.proofs.Each.{all_weaker}
use Rattle.dx_node_spec.specs.Taking.{Taken, nothing_taken, within_limits}
use Rattle.dx_node_spec.specs.Sweeping.{liquidate_market, delever_market, sweep_parts, sweep_account}
use Rattle.dx_sound.specs.Within.{SameBase}
use Rattle.dx_trade.specs.Conditions.{IsTradable}
use Rattle.dx_match.specs.Conditions.{IsBookFor, KeepsThose, KeepsState}
use Rattle.dx_match.specs.Sweeps.{AreTradableIn}
use Rattle.dx_match.proofs.Standing.{keeps_on}

-- one market more
pub next_market : {T : Type 0} (f : T → ℕ → T) (t u whole : T) (k n : ℕ) → k < n → u ≡ f t k → fold f t (range_with_len k (n - k)) ≡ whole → fold f u (range_with_len (k + 1) (n - (k + 1))) ≡ whole
next_market f t u whole k n l h made =
    let more : n - k ≡ suc (n - (k + 1)) = omega (arith, l) in
    ap (λ x. fold f x (range_with_len (k + 1) (n - (k + 1)))) h ∙ sym (ap (λ m. fold f t (range_with_len k m)) more) ∙ made

-- behind the last
pub last_market : {T : Type 0} (f : T → ℕ → T) (t whole : T) (k n : ℕ) → n ≤ k → fold f t (range_with_len k (n - k)) ≡ whole → t ≡ whole
last_market f t whole k n l made =
    let none : n - k ≡ 0 = omega (arith, l) in
    sym (ap (λ m. fold f t (range_with_len k m)) none) ∙ made

pub first_market : {T : Type 0} (f : T → ℕ → T) (t : T) (n : ℕ) → fold f t (range_with_len 0 (n - 0)) ≡ fold f t (range_with_len 0 n)
first_market f t n = let all : n - 0 ≡ n = omega arith in ap (λ m. fold f t (range_with_len 0 m)) all

-- the orders of a market to come may be traded
pub tradable_in : (first s : State) (book : List Order) (market : ℕ) → IsBookFor first book → KeepsThose (λ id. market ≤ id.market) first s → AreTradableIn market s book
tradable_in first s book market h k =
    all_weaker (IsTradable first) (λ o. o.id.market ≡ market → IsTradable s o) (λ o w e. k.tradable o (omega (arith, e)) w) book (recursion_from_All (IsTradable first) book h.tradable)

-- and stay so behind a market
pub keeps_later : (first s t : State) (market : ℕ) → KeepsThose (λ id. market ≤ id.market) first s → KeepsThose (λ id. id.market ≢ market) s t → KeepsThose (λ id. market + 1 ≤ id.market) first t
keeps_later first s t market a b =
    keeps_on (λ id. market ≤ id.market) (λ id. id.market ≢ market) (λ id. market + 1 ≤ id.market) first s t (λ id r. omega (arith, r)) (λ id r e. absurd (omega (arith, r, e))) a b

-- what holds of the state alone
pub keeps_state : (P : OrderId → Type 0) (s t : State) → KeepsThose P s t → KeepsState s t
keeps_state P s t k = record { steady = k.steady; within = k.within; base = k.base; accounts = k.accounts; tradable = λ o p w. absurd p }

-- both states have as many markets
pub same_count : (s t : State) → SameBase s t → length t.markets ≡ length s.markets
same_count s t b = sym (length-map t.markets (λ m. m.params)) ∙ ap length b.params ∙ length-map s.markets (λ m. m.params)

-- a sweep of an account that can be settled
pub swept_parts : (s t : State) (book : List Order) (queue : List Op) (who : SubaccountId) (a b c : Taken) → SameBase s t → a ≡ nothing_taken s
    → b ≡ fold (liquidate_market book queue who) a (range_with_len 0 (length s.markets))
    → c ≡ fold (delever_market who) b (range_with_len 0 (length t.markets)) → record c { stop = 0 } ≡ record (sweep_parts s book queue who) { stop = 0 }
unfolding sweep_parts
swept_parts s t book queue who a b c base e f g =
    let markets = range_with_len 0 (length s.markets) in
    let all : c ≡ fold (delever_market who) (fold (liquidate_market book queue who) (nothing_taken s) markets) markets =
    g ∙ ap (λ n. fold (delever_market who) b (range_with_len 0 n)) (same_count s t base)
    ∙ ap (λ x. fold (delever_market who) x markets) (f ∙ ap (λ x. fold (liquidate_market book queue who) x markets) e) in
    ap (λ (x : Taken). record x { stop = 0 }) all

pub swept : (s : State) (book : List Order) (queue : List Op) (who : SubaccountId) (t : Taken) → is_none (settle_step s who) ≡ false → t ≡ record (sweep_parts s book queue who) { stop = 0 }
    → sweep_account s book queue who ≡ within_limits queue t
unfolding sweep_account
swept s book queue who t e h =
    ap (λ b. within_limits queue (cond b (nothing_taken s) (record (sweep_parts s book queue who) { stop = 0 }))) e ∙ ap (within_limits queue) (sym h)

-- and of one that can't
pub not_swept : (s : State) (book : List Order) (queue : List Op) (who : SubaccountId) (t : Taken) → is_none (settle_step s who) ≡ true → t ≡ nothing_taken s
    → sweep_account s book queue who ≡ within_limits queue t
unfolding sweep_account
not_swept s book queue who t e h =
    ap (λ b. within_limits queue (cond b (nothing_taken s) (record (sweep_parts s book queue who) { stop = 0 }))) e ∙ ap (within_limits queue) (sym h)

-- what is filled, and how often, is little enough
pub none_filled : (n k : ℕ) → n ≡ 0 → n ≤ 0 * k
none_filled n k e = omega (arith, e)

pub room_next : (market count filled size : ℕ) → market < count → count ≤ 32 → filled ≤ market * 2 ^ 48 → size < 2 ^ 48 → filled + size < 2 ^ 64
room_next market count filled size l f h s = omega (arith, l, f, h, s)

pub filled_next : (market filled after size : ℕ) → filled ≤ market * 2 ^ 48 → after ≤ filled + size → size < 2 ^ 48 → after ≤ (market + 1) * 2 ^ 48
filled_next market filled after size h e s = omega (arith, h, e, s)

pub fills_room : (market count fills : ℕ) → market < count → count ≤ 32 → fills ≤ market * 65_537 → fills + 65_537 < 2 ^ 32
fills_room market count fills l f h = omega (arith, l, f, h)

pub fills_next : (market fills after : ℕ) → fills ≤ market * 65_537 → after ≤ fills + 65_537 → after ≤ (market + 1) * 65_537
fills_next market fills after h e = omega (arith, h, e)

pub offsets_room : (market count offsets : ℕ) → market < count → count ≤ 32 → offsets ≤ market * 65_536 → offsets + 65_536 < 2 ^ 32
offsets_room market count offsets l f h = omega (arith, l, f, h)

pub offsets_next : (market offsets after : ℕ) → offsets ≤ market * 65_536 → after ≤ offsets + 65_536 → after ≤ (market + 1) * 65_536
offsets_next market offsets after h e = omega (arith, h, e)

-- what a test of an account says
pub can_be : (can none : Bool) → can ≡ not none → can ≡ true → none ≡ false
can_be can true e f = absurd (cc)
can_be can false e f = refl

pub can_not_be : (can none : Bool) → can ≡ not none → can ≡ false → none ≡ true
can_not_be can true e f = refl
can_not_be can false e f = absurd (cc)
