-- What is noted of an offset that was tried, the accounts of a market one after another, and the markets.
use Rattle.std.proofs.Common.{◌≡◌, ◌≢◌, ℕ, suc, ◌+◌, ◌≤◌, ◌<◌, ◌^◌, Bool, true, false, cond, is_ok, min, not, nat_lt, unsigned_abs, get_or, List, [], ◌∷◌, ◌++◌, length, drop, fold, map, filter, Result, Ok, Err, OnOk, refl, sym, ap, ◌∙◌, arith}
use Rattle.std.specs.FinMap.{entries, len, len-entries}
use Rattle.std.proofs.lemmas.Bool.{ne_eqb}
use Rattle.std.proofs.lemmas.Option.{slice_get-get_or}
use Rattle.std.proofs.lemmas.List.{length-map, length-append}
use Rattle.dx_types.specs.declared.SubaccountId.{SubaccountId}
use Rattle.dx_types.specs.declared.Account.{Account}
use Rattle.dx_types.specs.declared.Offset.{Offset}
use Rattle.dx_types.specs.declared.Op.{Op}
use Rattle.dx_types.specs.declared.Op.TheVariants.{Delever}
use Rattle.dx_spec.specs.Codes.{offset_risk}
use Rattle.dx_spec.specs.Lists.{is_empty}
use Rattle.dx_spec.specs.State.{State}
use Rattle.dx_spec.specs.Bounds.{most_accounts}
use Rattle.dx_spec.specs.Accounts.{is_long}
use Rattle.dx_spec.specs.Filters.{held_in, holders}
use Rattle.dx_spec.specs.Deleveraging.{delever_step}
use Rattle.dx_node_spec.specs.Taking.{Taken}
use Rattle.dx_node_spec.specs.Sweeping.{size_of, Offsets, after_offset, offset_one, delever_market}
use Rattle.dx_book.proofs.Walks.{length_sorted, filter_shorter, from_place}
use Rattle.dx_accounts.specs.Steady.{IsSteady}
use Rattle.dx_match.specs.declared.taken.Taking.{Taking}
use Rattle.dx_match.specs.declared.offsetting.Offsetting.{Offsetting}
use Rattle.dx_match.specs.Seen.{group_of, seen}
use Rattle.dx_match.specs.Sweeps.{offsets_seen, is_offset, offset_other, with_offsets}

-- a code that refuses an offset
refused_risk : (offset : Offset) (x : Offsets) → after_offset offset x (Err offset_risk) ≡ x
refused_risk offset x = refl

pub passed_over : (code : ℕ) (offset : Offset) (x : Offsets) → code ≡ offset_risk → x ≡ after_offset offset x (Err code)
passed_over code offset x e = sym (ap (λ n. after_offset offset x (Err n)) e ∙ refused_risk offset x)

pub ended_by : (code : ℕ) (offset : Offset) (x : Offsets) → code ≢ offset_risk → record x { stop = code } ≡ after_offset offset x (Err code)
ended_by code offset x e = rw (ne_eqb code offset_risk e) refl

-- a good one
pub offset_good : (s t : State) (x : Offsetting) (last : Offsets) (offset : Offset) (step : Result State ℕ) → step ≡ Ok t → last ≡ record { state = t; done = x.done ++ offset ∷ []; stop = 0 }
    → last ≡ after_offset offset (offsets_seen s x) step
offset_good s t x last offset step e h = h ∙ sym (ap (after_offset offset (offsets_seen s x)) e)

pub offset_noted : {E : Type 0} (t : State) (xs ys : List Offset) (offset : Offset) (r : Result (Unit {0}) E) → ys ≡ cond (is_ok r) (xs ++ offset ∷ []) xs
    → OnOk r (◌≡◌ {A = Offsets} (record { state = t; done = ys; stop = 0 }) (record { state = t; done = xs ++ offset ∷ []; stop = 0 }))
offset_noted t xs ys offset (Ok u) e = ap (λ l. record { state = t; done = l; stop = 0 }) e
offset_noted t xs ys offset (Err x) e = tt

pub one_longer : {E : Type 0} (xs ys : List Offset) (offset : Offset) (r : Result (Unit {0}) E) → ys ≡ cond (is_ok r) (xs ++ offset ∷ []) xs → OnOk r (length ys ≡ length xs + 1)
one_longer xs ys offset (Ok u) e = ap length e ∙ length-append xs (offset ∷ [])
one_longer xs ys offset (Err x) e = tt

-- a refused one leaves the state as it was
pub offset_refused : (s t : State) (x : Offsetting) (y : Offsetting) (offset : Offset) (step : Result State ℕ) → t ≡ s → offsets_seen s y ≡ after_offset offset (offsets_seen s x) step
    → offsets_seen t y ≡ after_offset offset (offsets_seen s x) step
offset_refused s t x y offset step e h = ap (λ (u : State). offsets_seen u y) e ∙ h

-- the lesser of both positions
pub offsets_least : (who : SubaccountId) (market : ℕ) (x last : Offsets) (other : Offset) (amount a : ℕ) → amount ≡ min a other.amount → a ≡ unsigned_abs (size_of x.state who market)
    → last ≡ after_offset (record other { amount = amount }) x (delever_step x.state who market (record other { amount = amount })) → last ≡ offset_other who market x other
unfolding offset_other
offsets_least who market x last other amount a e f h =
    let same : amount ≡ min (unsigned_abs (size_of x.state who market)) other.amount = e ∙ ap (λ n. min n other.amount) f in
    h ∙ ap (λ n. after_offset (record other { amount = n }) x (delever_step x.state who market (record other { amount = n }))) same

module _ (who : SubaccountId) (market : ℕ) where
  one_offset : (x : Offsets) (other : Offset) → is_offset x.state who market x.stop ≡ false → offset_one who market x other ≡ offset_other who market x other
  unfolding offset_one offset_other
  one_offset x other e = rw e refl

  one_stays : (x : Offsets) (other : Offset) → is_offset x.state who market x.stop ≡ true → offset_one who market x other ≡ x
  unfolding offset_one
  one_stays x other e = rw e refl

  all_stay : (x : Offsets) (others : List Offset) → is_offset x.state who market x.stop ≡ true → fold (offset_one who market) x others ≡ x
  all_stay x [] e = refl
  all_stay x (o ∷ os) e = ap (λ y. fold (offset_one who market) y os) (one_stays x o e) ∙ all_stay x os e

  -- where no more is offset, all is done
  pub offset_up : (x whole : Offsets) (others : List Offset) → is_offset x.state who market x.stop ≡ true → fold (offset_one who market) x others ≡ whole → x ≡ whole
  offset_up x whole others e made = sym (all_stay x others e) ∙ made

  -- and where no account is left
  pub none_to_offset : (x whole : Offsets) (others : List Offset) → others ≡ [] → fold (offset_one who market) x others ≡ whole → x ≡ whole
  none_to_offset x whole others e made = ap (fold (offset_one who market) x) (sym e) ∙ made

  -- one account more
  pub next_offset : (x y whole : Offsets) (other : Offset) (rest all : List Offset) → all ≡ other ∷ rest → is_offset x.state who market x.stop ≡ false → y ≡ offset_other who market x other
      → fold (offset_one who market) x all ≡ whole → fold (offset_one who market) y rest ≡ whole
  next_offset x y whole other rest all e d h made =
      ap (λ z. fold (offset_one who market) z rest) (h ∙ sym (one_offset x other d)) ∙ ap (fold (offset_one who market) x) (sym e) ∙ made

-- a taking with no offset, and with some
abbrev with_done : State → Taking → List Op → ℕ → Taken
with_done t p ops offsets = record { state = t; group = group_of p.group; ops = ops; gone = p.gone; filled = p.filled; fills = p.fills; offsets = offsets; stop = p.stop; over = p.over }

pub no_offsets : (who : SubaccountId) (market : ℕ) (s t : State) (p : Taking) (x : Offsetting) → x.done ≡ [] → seen t p ≡ with_offsets who market (seen s p) (offsets_seen t x)
unfolding with_offsets
no_offsets who market s t p x e =
    let none : p.offsets + length x.done ≡ p.offsets = let l : length x.done ≡ 0 = ap length e in omega (arith, l) in
    sym (ap (λ (l : List Offset). with_done t p (cond (is_empty l) p.ops (p.ops ++ Delever who market l ∷ [])) (p.offsets + length x.done)) e
    ∙ ap (with_done t p p.ops) none)

some_offsets : (who : SubaccountId) (market : ℕ) (s t : State) (p : Taking) (done : List Offset) → 0 < length done
    → with_done t p (p.ops ++ Delever who market done ∷ []) (p.offsets + length done) ≡ with_offsets who market (seen s p) (record { state = t; done = done; stop = 0 })
unfolding with_offsets
some_offsets who market s t p [] h = absurd (omega arith)
some_offsets who market s t p (x ∷ xs) h = refl

same_offsets : (who : SubaccountId) (market : ℕ) (t : Taken) (x y : Offsets) → x.state ≡ y.state → x.done ≡ y.done → with_offsets who market t x ≡ with_offsets who market t y
unfolding with_offsets
same_offsets who market t x y e f = λ i. record t {
  state = e i;
  ops = cond (is_empty (f i)) t.ops (t.ops ++ Delever who market (f i) ∷ []);
  offsets = t.offsets + length (f i);
}

pub offsets_pushed : {E : Type 0} (who : SubaccountId) (market : ℕ) (s t : State) (p : Taking) (x : Offsetting) (ops : List Op) (count : ℕ) (r : Result (Unit {0}) E) → 0 < length x.done
    → count ≡ p.offsets + length x.done → ops ≡ cond (is_ok r) (p.ops ++ Delever who market x.done ∷ []) p.ops
    → OnOk r (with_done t p ops count ≡ with_offsets who market (seen s p) (offsets_seen t x))
offsets_pushed who market s t p x ops count (Ok u) h e f =
    ap (λ l. with_done t p l count) f ∙ ap (with_done t p (p.ops ++ Delever who market x.done ∷ [])) e ∙ some_offsets who market s t p x.done h
    ∙ same_offsets who market (seen s p) (record { state = t; done = x.done; stop = 0 }) (offsets_seen t x) refl refl
offsets_pushed who market s t p x ops count (Err z) h e f = tt

-- the offsets of a market
pub market_offset : (who : SubaccountId) (market : ℕ) (s t : State) (p : Taking) (last : Taken) (others same : List Offset) (start x : Offsetting) (long : Bool) → long ≡ is_long (size_of s who market)
    → others ≡ holders s market (not long) → same ≡ others → start.done ≡ [] → start.stop ≡ 0
    → offsets_seen t x ≡ fold (offset_one who market) (offsets_seen s start) same
    → last ≡ with_offsets who market (seen s p) (offsets_seen t x) → last ≡ delever_market who (seen s p) market
unfolding delever_market with_offsets
market_offset who market s t p last others same start x long e f j d z g h =
    let list : same ≡ holders s market (not (is_long (size_of s who market))) = j ∙ f ∙ ap (λ b. holders s market (not b)) e in
    let first : offsets_seen s start ≡ record { state = s; done = []; stop = 0 } = λ i. record { state = s; done = d i; stop = z i } in
    let all : offsets_seen t x ≡ fold (offset_one who market) (record { state = s; done = []; stop = 0 }) (holders s market (not (is_long (size_of s who market)))) =
    g ∙ ap (λ y. fold (offset_one who market) y same) first ∙ ap (fold (offset_one who market) (record { state = s; done = []; stop = 0 })) list in
    h ∙ ap (with_offsets who market (seen s p)) all

-- there are at most as many as accounts
pub holders_few : (s : State) (market : ℕ) (long : Bool) → IsSteady s → length (holders s market long) ≤ most_accounts
unfolding holders
holders_few s market long h =
    let all : List Offset = map {B = Offset} (λ (e : SubaccountId × Account). record { who = e.0; amount = held_in market long e.1 }) (entries s.accounts) in
    let sorted : length (holders s market long) ≡ length (filter (λ (x : Offset). nat_lt 0 x.amount) all) = length_sorted _ _ in
    let fewer : length (filter (λ (x : Offset). nat_lt 0 x.amount) all) ≤ length all = filter_shorter (λ (x : Offset). nat_lt 0 x.amount) all in
    let mapped : length all ≡ length (entries s.accounts) = length-map (entries s.accounts) _ in
    let counted = len-entries s.accounts in
    let few : len s.accounts ≤ 65536 = h.within.account_count in
    omega (arith, sorted, fewer, mapped, counted, few)

pub one_more : (n m : ℕ) → m ≡ n + 1 → m ≤ n + 1
one_more n m e = omega (arith, e)

pub no_more : (n m : ℕ) → m ≡ n → m ≤ n + 1
no_more n m e = omega (arith, e)

-- the list from a place on
pub drop_next : {X : Type 0} (xs : List X) (k : ℕ) (d : X) → k < length xs → drop k xs ≡ get_or xs k d ∷ drop (k + 1) xs
drop_next xs k d h =
    let one_on : suc k ≡ k + 1 = omega arith in
    from_place xs k (get_or xs k d) (slice_get-get_or xs k d h) ∙ ap (λ n. get_or xs k d ∷ drop n xs) one_on

-- so the offsets of a market are few
few : (s : State) (market : ℕ) (long : Bool) (others same done start : List Offset) → IsSteady s → others ≡ holders s market long → same ≡ others → start ≡ []
    → length done ≤ length start + length same → length done ≤ 65536
few s market long others same done start h e f d n =
    let most : length (holders s market long) ≤ 65536 = holders_few s market long h in
    let whole : length same ≡ length (holders s market long) = ap length (f ∙ e) in
    let none : length start ≡ 0 = ap length d in
    omega (arith, most, whole, none, n)

pub few_done : (s : State) (market : ℕ) (long : Bool) (others same done start : List Offset) (before : ℕ) → IsSteady s → others ≡ holders s market long → same ≡ others → start ≡ []
    → length done ≤ length start + length same → before + 65536 < 2 ^ 32 → before + length done < 2 ^ 32
few_done s market long others same done start before h e f d n r = let l = few s market long others same done start h e f d n in omega (arith, l, r)

pub few_offsets : (s : State) (market : ℕ) (long : Bool) (others same done start : List Offset) (before after : ℕ) → IsSteady s → others ≡ holders s market long → same ≡ others → start ≡ []
    → length done ≤ length start + length same → after ≡ before + length done → after ≤ before + 65536
few_offsets s market long others same done start before after h e f d n r = let l = few s market long others same done start h e f d n in omega (arith, l, r)
