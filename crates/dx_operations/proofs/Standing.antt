-- Which orders may be traded, after a placing and after a fill.
use Rattle.std.proofs.Common.{◌≡◌, ℕ, ◌+◌, ◌^◌, ◌<◌, Bool, true, false, cond, not, ◌&&◌, [], length, Option, Some, None, Ok, refl, sym, ap, subst, ◌∙◌, slice_get, IsTrue, IfSome}
use Rattle.std.proofs.lemmas.Bool.{and_parts, eqb-false}
use Rattle.std.proofs.lemmas.List.{length-map}
use Rattle.std.proofs.lemmas.Option.{slice_get_within}
use Rattle.std.specs.Option.{option_map_or}
use Rattle.std.specs.FinMap.{get, insert, empty, from_entries, get-empty}
use Rattle.std.specs.BTreeMap.{BTreeMap}
use Rattle.dx_maps.specs.Tables.{map_of}
use Rattle.dx_types.specs.Keys.{order_id_cmp, order_id_total, order_id_exact}
use Rattle.dx_types.specs.declared.OrderId.{OrderId}
use Rattle.dx_types.specs.declared.Order.{Order}
use Rattle.dx_types.specs.declared.MarketParams.{MarketParams}
use Rattle.dx_types.specs.declared.Params.{Params}
use Rattle.dx_types.specs.declared.Genesis.{Genesis}
use Rattle.dx_types.specs.declared.Clock.{Clock}
use Rattle.dx_spec.specs.Refusals.{bad_order}
use Rattle.dx_spec.specs.State.{State, is_short_term, is_kept, filled_of}
use Rattle.dx_spec.specs.Genesis.{IsGenesis}
use Rattle.dx_spec.specs.Balance.{Balanced}
use Rattle.dx_spec.specs.Orders.{is_amount_of, is_subticks_of, fits_market, check_form, check_order, is_good_stateful}
use Rattle.dx_spec.specs.Operations.{Placed, order_of, is_good_order, without_order, remove_step}
use Rattle.dx_spec.proofs.Steps.{true_from_not}
use Rattle.dx_sound.specs.Within.{SoundWithin, StepKeeps}
use Rattle.dx_spec.proofs.Scripts.{passes, unit_passes, ok_answer}
use Rattle.dx_spec.proofs.Entries.{each_inserted}
use Rattle.dx_spec.proofs.Parts.{remove_step_is}
use Rattle.dx_sound.proofs.Running.{mapped_true, standing}
use Rattle.dx_accounts.specs.Steady.{IsSteady}
use Rattle.dx_trade.specs.Conditions.{IsTradable}
use Rattle.dx_trade.proofs.Tradables.{tradable_fillable}
use Rattle.dx_operations.specs.Midway.{ArePlaced, IsMidway, KeepsMidway}

-- an order that fits its market is of a kept account and a known market
pub record Fits (p : Params) (known : Bool) (o : Order) : Type 0 where
  pub kept : known ≡ true
  pub market : o.id.market < length p.markets

pub fits : (p : Params) (known : Bool) (o : Order) → fits_market p known o ≡ true → Fits p known o
unfolding fits_market
fits p known o e =
    let a = and_parts known (option_map_or (λ m. is_amount_of m o.size && is_subticks_of m o.subticks) (slice_get p.markets o.id.market) false) e in
    let b = mapped_true (λ (m : MarketParams). is_amount_of m o.size && is_subticks_of m o.subticks) (slice_get p.markets o.id.market) a.1 in
    record { kept = a.0; market = slice_get_within p.markets o.id.market b.0 b.1 }

-- the state has the genesis's markets
pub market_count : (s : State) → IsSteady s → length s.genesis.params.markets ≡ length s.markets
market_count s h = ap length (sym h.within.params) ∙ length-map s.markets (λ m. m.params)

record Formed (s : State) (height : ℕ) (o : Order) : Type 0 where
  form : check_form s.genesis.params (is_kept s o.id.who) height o ≡ Ok tt
  short : is_short_term o.id ≡ true
  fits : Fits s.genesis.params (is_kept s o.id.who) o

formed : (s : State) (height : ℕ) (o : Order) → is_good_order s height o ≡ true → Formed s height o
unfolding check_order check_form
formed s height o e =
    let p = s.genesis.params in
    let known = is_kept s o.id.who in
    let a = unit_passes (check_form p known height o) _ tt (ok_answer (check_order p known height (filled_of s o.id) o) e) in
    let b = passes bad_order (not (is_short_term o.id && fits_market p known o)) _ tt a.0 in
    let c = and_parts (is_short_term o.id) (fits_market p known o) (true_from_not (is_short_term o.id && fits_market p known o) b.0) in
    record { form = a.0; short = c.0; fits = fits p known o c.1 }

-- a good order of the next height may be traded
good_tradable : (s : State) (height : ℕ) (o : Order) → IsSteady s → height ≡ s.clock.height + 1 → is_good_order s height o ≡ true
    → IsTrue (is_short_term o.id) × IsTradable s o
good_tradable s height o h n e =
    let f = formed s height o e in (
      f.short,
      record {
        kept = f.fits.kept;
        known = subst (λ k. o.id.market < k) (market_count s h) f.fits.market;
        short_term = λ _. subst (λ k. check_form s.genesis.params (is_kept s o.id.who) k o ≡ Ok tt) n f.form;
        stateful = λ l. absurd (let i : false ≡ true = sym l ∙ f.short in cc);
      },
    )

-- and is one of the placed orders once it is placed
pub midway_placed : (height : ℕ) (s : State) (placed after : Placed) (o : Order) → IsMidway height s placed → is_good_order s height o ≡ true
    → after ≡ insert placed o.id o → IsMidway height s after
midway_placed height s placed after o h e i = record {
  steady = h.steady;
  next = h.next;
  orders = subst (ArePlaced s) (sym i)
      (each_inserted order_id_cmp order_id_total order_id_exact (λ _ x. IsTrue (is_short_term x.id) × IsTradable s x) placed o.id o
      (good_tradable s height o h.steady h.next e) (λ id x _ j. h.orders id x j));
}

-- a stateful order that stands may be traded
not_short : (id : OrderId) → (o : Order) → o.id ≡ id → is_short_term id ≡ false → is_short_term o.id ≡ false
not_short id o e f = ap is_short_term e ∙ f

standing_fits : (s : State) (o : Order) → is_good_stateful s.genesis.params (is_kept s o.id.who) s.clock.time o ≡ true → Fits s.genesis.params (is_kept s o.id.who) o
standing_fits s o e =
    let i = standing s.genesis.params (is_kept s o.id.who) s.clock.time o e in
    fits s.genesis.params (is_kept s o.id.who) o i.fits

standing_tradable : (s : State) (id : OrderId) (o : Order) → IsSteady s → is_short_term id ≡ false → get s.stateful id ≡ Some o → IsTradable s o
standing_tradable s id o h l e =
    let i = h.within.stateful id o e in
    let f = standing_fits s o i.1 in
    record {
      kept = f.kept;
      known = subst (λ k. o.id.market < k) (market_count s h) f.market;
      short_term = λ t. absurd (let j : true ≡ false = sym t ∙ not_short id o i.0 l in cc);
      stateful = λ _. ap (get s.stateful) i.0 ∙ e;
    }

-- so the order of an id may be traded
order_tradable : (height : ℕ) (s : State) (placed : Placed) (id : OrderId) (o : Order) → IsMidway height s placed → order_of s placed id ≡ Some o → IsTradable s o
order_tradable height s placed id o h e =
    elim (is_short_term id) as (λ b. is_short_term id ≡ b → cond b (get placed id) (get s.stateful id) ≡ Some o → IsTradable s o) [
      | true ↦ λ i j. (h.orders id o j).1
      | false ↦ λ i j. standing_tradable s id o h.steady i j
    ] refl e

pub found_tradable : (height : ℕ) (s : State) (placed : Placed) (id : OrderId) (r : Option Order) → IsMidway height s placed → r ≡ order_of s placed id → IfSome r (IsTradable s)
found_tradable height s placed id None h e = tt
found_tradable height s placed id (Some o) h e = order_tradable height s placed id o h (sym e)

-- a fill or an offset leaves a state steady
pub steady_filled : (s t : State) → IsSteady s → StepKeeps (2 ^ 101) s t → Balanced t → IsSteady t
steady_filled s t h k b = record { genesis = subst IsGenesis (sym k.base.genesis) h.genesis; within = k.within; balanced = b }

pub same_count : (s t : State) → StepKeeps (2 ^ 101) s t → length s.markets ≡ length t.markets
same_count s t k = sym (length-map s.markets (λ m. m.params)) ∙ ap length (sym k.base.params) ∙ length-map t.markets (λ m. m.params)

pub form_filled : (s t : State) (o : Order) → StepKeeps (2 ^ 101) s t → is_kept s o.id.who ≡ true → is_kept t o.id.who ≡ true
    → check_form s.genesis.params (is_kept s o.id.who) (s.clock.height + 1) o ≡ Ok tt
    → check_form t.genesis.params (is_kept t o.id.who) (t.clock.height + 1) o ≡ Ok tt
form_filled s t o k before after e =
    ap (λ (g : Genesis). check_form g.params (is_kept t o.id.who) (t.clock.height + 1) o) k.base.genesis
    ∙ ap (λ (c : Clock). check_form s.genesis.params (is_kept t o.id.who) (c.height + 1) o) k.base.clock
    ∙ ap (λ b. check_form s.genesis.params b (s.clock.height + 1) o) (after ∙ sym before) ∙ e

-- and each order that may be traded so
pub tradable_filled : (s t : State) (o : Order) → IsSteady s → StepKeeps (2 ^ 101) s t → IsTradable s o → IsTradable t o
tradable_filled s t o h k w =
    let f = k.fillable o (tradable_fillable s o h w) in
    record {
      kept = f.kept;
      known = subst (λ n. o.id.market < n) (same_count s t k) w.known;
      short_term = λ l. form_filled s t o k w.kept f.kept (w.short_term l);
      stateful = λ l. f.stateful (eqb-false o.id.flags 0 l);
    }

pub midway_filled : (height : ℕ) (s t : State) (placed : Placed) → IsMidway height s placed → StepKeeps (2 ^ 101) s t → Balanced t → IsMidway height t placed
midway_filled height s t placed h k b = record {
  steady = steady_filled s t h.steady k b;
  next = h.next ∙ ap (λ (c : Clock). c.height + 1) (sym k.base.clock);
  orders = λ id o e. let i = h.orders id o e in (i.0, tradable_filled s t o h.steady k i.1);
}

-- an offset keeps what holds between the operations
pub keeps_midway : (s t : State) → StepKeeps (2 ^ 101) s t → Balanced t → KeepsMidway s t
unfolding KeepsMidway
keeps_midway s t k b = λ height placed h. midway_filled height s t placed h k b

pub keeps_itself : (s : State) → KeepsMidway s s
unfolding KeepsMidway
keeps_itself s = λ height placed h. h

pub keeps_on : (s t u : State) → KeepsMidway s t → KeepsMidway t u → KeepsMidway s u
unfolding KeepsMidway
keeps_on s t u h i = λ height placed m. i height placed (h height placed m)

pub midway_kept : (height : ℕ) (s t : State) (placed : Placed) → KeepsMidway s t → IsMidway height s placed → IsMidway height t placed
unfolding KeepsMidway
midway_kept height s t placed k h = k height placed h

-- the placed orders stay short-term orders that may be traded where a stateful one is removed
without_tradable : (s : State) (id : OrderId) (o : Order) → IsTrue (is_short_term o.id) × IsTradable s o → IsTrue (is_short_term o.id) × IsTradable (without_order s id) o
without_tradable s id o h = (
  h.0,
  record {
    kept = h.1.kept;
    known = h.1.known;
    short_term = h.1.short_term;
    stateful = λ l. absurd (let i : false ≡ true = sym l ∙ h.0 in cc);
  },
)

pub midway_removed : (height : ℕ) (s t : State) (placed : Placed) (id : OrderId) → IsMidway height s placed → remove_step s id ≡ Ok t → SoundWithin (2 ^ 101) t → Balanced t
    → IsMidway height t placed
midway_removed height s t placed id h e w b =
    let i : without_order s id ≡ t = remove_step_is (λ u. without_order s id ≡ u) s id t e refl in
    let kept = λ (q : OrderId) (o : Order) (f : get placed q ≡ Some o). without_tradable s id o (h.orders q o f) in
    record {
      steady = record { genesis = subst (λ (u : State). IsGenesis u.genesis) i h.steady.genesis; within = w; balanced = b };
      next = subst (λ (u : State). height ≡ u.clock.height + 1) i h.next;
      orders = subst (λ (u : State). ArePlaced u placed) i kept;
    }

-- a new table has no order
pub new_table : (table : BTreeMap OrderId Order) → table.entries ≡ [] → map_of order_id_cmp table ≡ empty
new_table table e = ap (from_entries {R = order_id_cmp}) e

nothing_placed : (s : State) → ArePlaced s empty
nothing_placed s id o e = absurd (let i : None ≡ Some o = sym (get-empty order_id_cmp id) ∙ e in cc)

-- before the first operation
pub midway_first : (height : ℕ) (s : State) (table : BTreeMap OrderId Order) → IsSteady s → height ≡ s.clock.height + 1 → table.entries ≡ []
    → IsMidway height s (map_of order_id_cmp table)
midway_first height s table h n e = record { steady = h; next = n; orders = subst (ArePlaced s) (sym (new_table table e)) (nothing_placed s) }
