-- What stays so while an order takes, or an account is liquidated.
use Rattle.std.proofs.Common.{◌≡◌, ℕ, ◌+◌, ◌^◌, suc, true, false, Some, None, Bool, List, [], ◌∷◌, drop, filter, Ok, IsTrue, refl, sym, ap, subst, ◌∙◌, arith}
use Prim.Native.Nat.{zero}
use Rattle.std.specs.Prelude.{slice_get}
use Rattle.std.specs.List.{AllByRecursion}
use Rattle.std.proofs.lemmas.Bool.{cond-false}
use Rattle.std.proofs.lemmas.List.Elements.{recursion_from_All}
use Rattle.std.specs.FinMap.{get, get-remove}
use Rattle.std.specs.Option.{option_map_or}
use Rattle.dx_types.specs.Keys.{order_id_total}
use Rattle.dx_types.specs.declared.SubaccountId.{SubaccountId}
use Rattle.dx_types.specs.declared.OrderId.{OrderId}
use Rattle.dx_types.specs.declared.Order.{Order}
use Rattle.dx_types.specs.declared.Kind.TheVariants.{Gtc}
use Rattle.dx_spec.specs.State.{State, is_kept, filled_of}
use Rattle.dx_spec.specs.Orders.{is_same_id}
use Rattle.dx_spec.specs.Operations.{without_order, remove_step}
use Rattle.dx_spec.specs.Genesis.{IsGenesis}
use Rattle.dx_spec.specs.Balance.{Balanced}
use Rattle.dx_spec.proofs.Parts.{remove_step_is}
use Rattle.dx_spec.proofs.Each.{all_weaker, all_both, all_fail, all_filter, all_sorted}
use Rattle.dx_node_spec.specs.Book.{is_better, is_on_side, side_of, HasOnePerId}
use Rattle.dx_node_spec.proofs.Ids.{one_per_id-filter, one_per_id-sorted}
use Rattle.dx_book.proofs.Walks.{from_place}
use Rattle.dx_sound.specs.Within.{SoundWithin, SameBase, StepKeeps}
use Rattle.dx_accounts.specs.Steady.{IsSteady}
use Rattle.dx_trade.specs.Conditions.{IsTradable}
use Rattle.dx_fill.specs.Conditions.{CanFillBoth}
use Rattle.dx_match.specs.Conditions.{IsBookFor, KeepsThose, KeepsOthers, SameHoldings}
use Rattle.dx_operations.proofs.Standing.{tradable_filled as tradable_kept}

base_itself : (s : State) → SameBase s s
base_itself s = record { genesis = refl; clock = refl; params = refl; votes = refl; samples = refl }

-- a state keeps itself
pub keeps_itself : (P : OrderId → Type 0) (s : State) → IsSteady s → KeepsThose P s s
keeps_itself P s h = record { steady = h; within = λ most w. w; base = base_itself s; accounts = λ who k. k; tradable = λ o p w. w }

pub keeps_same : (P : OrderId → Type 0) (s t : State) → IsSteady s → t ≡ s → KeepsThose P s t
keeps_same P s t h e = subst (KeepsThose P s) (sym e) (keeps_itself P s h)

base_on : (s t u : State) → SameBase s t → SameBase t u → SameBase s u
base_on s t u a b = record {
  genesis = b.genesis ∙ a.genesis;
  clock = b.clock ∙ a.clock;
  params = b.params ∙ a.params;
  votes = b.votes ∙ a.votes;
  samples = b.samples ∙ a.samples;
}

-- what two steps keep
pub keeps_on : (P Q R : OrderId → Type 0) (s t u : State) → ((id : OrderId) → R id → P id) → ((id : OrderId) → R id → Q id) → KeepsThose P s t → KeepsThose Q t u → KeepsThose R s u
keeps_on P Q R s t u f g a b = record {
  steady = b.steady;
  within = λ most w. b.within most (a.within most w);
  base = base_on s t u a.base b.base;
  accounts = λ who k. b.accounts who (a.accounts who k);
  tradable = λ o p w. b.tradable o (g o.id p) (a.tradable o (f o.id p) w);
}

-- an order of an account by which it is seen that the account stays
abbrev seen_by : SubaccountId → ℕ → Order
seen_by who until = record { id = record { who = who; client = 0; flags = 0; market = 0 }; buy = true; size = 1; subticks = 0; kind = Gtc; until = until }

account_kept : (most : ℕ) (s t : State) (who : SubaccountId) → StepKeeps most s t → IsTrue (is_kept s who) → IsTrue (is_kept t who)
account_kept most s t who k e =
    (k.fillable (seen_by who (s.clock.height + 1)) (record { kept = e; size = refl; short_term = λ _. omega arith; stateful = λ n. absurd (n refl) })).kept

-- a fill, or an offset, keeps a state steady
pub keeps_filled : (P : OrderId → Type 0) (s t : State) → IsSteady s → Balanced t → ((most : ℕ) → SoundWithin most s → StepKeeps most s t) → KeepsThose P s t
keeps_filled P s t h b k =
    let i = k (2 ^ 101) h.within in
    record {
      steady = record { genesis = subst IsGenesis (sym i.base.genesis) h.genesis; within = i.within; balanced = b };
      within = λ most w. (k most w).within;
      base = i.base;
      accounts = λ who q. account_kept (2 ^ 101) s t who i q;
      tradable = λ o p w. tradable_kept s t o h i w;
    }

removed_is : (s t : State) (id : OrderId) → remove_step s id ≡ Ok t → without_order s id ≡ t
removed_is s t id e = remove_step_is (λ u. without_order s id ≡ u) s id t e refl

-- a removal keeps it so, and every other order
pub keeps_removed : (s t : State) (id : OrderId) → IsSteady s → remove_step s id ≡ Ok t → ((most : ℕ) → SoundWithin most s → SoundWithin most t) → Balanced t → KeepsOthers id s t
keeps_removed s t id h e w b =
    let is : without_order s id ≡ t = removed_is s t id e in
    record {
      steady = record { genesis = subst (λ (u : State). IsGenesis u.genesis) is h.genesis; within = w (2 ^ 101) h.within; balanced = b };
      within = w;
      base = subst (SameBase s) is (record { genesis = refl; clock = refl; params = refl; votes = refl; samples = refl });
      accounts = λ who k. subst (λ u. IsTrue (is_kept u who)) is k;
      tradable = λ o d i. subst (λ u. IsTradable u o) is (without_tradable o d i);
    }
  where
    without_tradable : (o : Order) → is_same_id o.id id ≡ false → IsTradable s o → IsTradable (without_order s id) o
    without_tradable o d i = record {
      kept = i.kept;
      known = i.known;
      short_term = i.short_term;
      stateful = λ l. get-remove order_id_total s.stateful id o.id ∙ cond-false (is_same_id o.id id) None (get s.stateful o.id) d ∙ i.stateful l;
    }

-- and what is filled of every other order
pub removed_filled : (s t : State) (id other : OrderId) → remove_step s id ≡ Ok t → is_same_id other id ≡ false → filled_of t other ≡ filled_of s other
removed_filled s t id other e d =
    ap (λ (u : State). filled_of u other) (sym (removed_is s t id e))
    ∙ ap (λ x. option_map_or (λ r. r.amount) x 0) (get-remove order_id_total s.filled id other ∙ cond-false (is_same_id other id) None (get s.filled other) d)

-- and the accounts and the markets
pub removed_holdings : (s t : State) (id : OrderId) → remove_step s id ≡ Ok t → SameHoldings s t
removed_holdings s t id e = subst (SameHoldings s) (removed_is s t id e) (record { accounts = refl; markets = refl })

-- each order of a side may be traded
pub side_tradable : (s : State) (book : List Order) (market : ℕ) (buy : Bool) → IsBookFor s book → AllByRecursion (IsTradable s) (side_of book market buy)
side_tradable s book market buy h =
    all_sorted (IsTradable s) is_better (filter (is_on_side market buy) book)
    (all_filter (IsTradable s) (is_on_side market buy) book (recursion_from_All (IsTradable s) book h.tradable))

pub side_unique : (book : List Order) (market : ℕ) (buy : Bool) → HasOnePerId book → HasOnePerId (side_of book market buy)
side_unique book market buy h = one_per_id-sorted is_better (filter (is_on_side market buy) book) (one_per_id-filter (is_on_side market buy) book h)

one_from : (xs : List Order) (k : ℕ) → HasOnePerId xs → HasOnePerId (drop k xs)
one_from xs zero h = h
one_from [] (suc k) h = h
one_from (x ∷ xs) (suc k) h = one_from xs k h.1

-- the one at a place may be traded
pub here_tradable : (s : State) (side : List Order) (k : ℕ) (m : Order) → slice_get side k ≡ Some m → AllByRecursion (IsTradable s) (drop k side) → IsTradable s m
here_tradable s side k m e all = (subst (AllByRecursion (IsTradable s)) (from_place side k m e) all).0

-- and those behind it still, where the others stay so
pub next_tradable : (s t : State) (side : List Order) (k : ℕ) (m : Order) → HasOnePerId side → slice_get side k ≡ Some m → KeepsOthers m.id s t
    → AllByRecursion (IsTradable s) (drop k side) → AllByRecursion (IsTradable t) (drop (k + 1) side)
next_tradable s t side k m one e keeps all =
    let rest = drop (suc k) side in
    let parts : drop k side ≡ m ∷ rest = from_place side k m e in
    let before : AllByRecursion (IsTradable s) rest = (subst (AllByRecursion (IsTradable s)) parts all).1 in
    let others : AllByRecursion (λ x. is_same_id x.id m.id ≡ false) rest = all_fail (λ x. is_same_id x.id m.id) rest (subst HasOnePerId parts (one_from side k one)).0 in
    let one_on : suc k ≡ k + 1 = omega arith in
    subst (λ n. AllByRecursion (IsTradable t) (drop n side)) one_on
    (all_weaker (λ x. IsTradable s x × (is_same_id x.id m.id ≡ false)) (IsTradable t) (λ x h. keeps.tradable x h.1 h.0) rest
    (all_both (IsTradable s) (λ x. is_same_id x.id m.id ≡ false) rest before others))

-- so the order may be filled against it
pub fillable_here : (s : State) (o : Order) (side : List Order) (k : ℕ) (m : Order) → IsSteady s → IsTradable s o → slice_get side k ≡ Some m → AllByRecursion (IsTradable s) (drop k side)
    → CanFillBoth s o m
fillable_here s o side k m h w e all = record { steady = h; taker_trades = w; maker_trades = here_tradable s side k m e all }
