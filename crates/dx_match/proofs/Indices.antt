-- An account whose positions are all at the indices of their markets can be settled, and a liquidation or an offset leaves it so.
use Rattle.std.proofs.Common.{◌≡◌, ℕ, ◌^◌, Bool, true, false, cond, ◌==◌, ℤ, pos, ◌+ℤ◌, ◌-ℤ◌, ◌*ℤ◌, neg_ℤ, unsigned_abs, List, [], ◌∷◌, ◌++◌, map, fold, Option, Some, None, is_none, refl, sym, ap, subst, ◌∙◌, arith, slice_get, find, filter, nat_lt, unwrap_or, Ok}
use Rattle.std.proofs.lemmas.Int.{ints}
use Rattle.std.proofs.lemmas.Bool.{eqb-true, lt-ltb}
use Rattle.std.specs.List.{AllByRecursion}
use Rattle.std.specs.Option.{option_map_or}
use Rattle.std.specs.Ordering.{int_eq}
use Rattle.std.specs.FinMap.{get}
use Rattle.dx_types.specs.declared.SubaccountId.{SubaccountId}
use Rattle.dx_types.specs.declared.Position.{Position}
use Rattle.dx_types.specs.declared.Account.{Account}
use Rattle.dx_types.specs.declared.Order.{Order}
use Rattle.dx_types.specs.declared.Offset.{Offset}
use Rattle.dx_types.specs.declared.Paid.{Paid}
use Rattle.dx_types.specs.declared.MarketInfo.{MarketInfo}
use Rattle.dx_num.specs.Rounding.{int_sum_by, floor_div, million}
use Rattle.dx_spec.specs.Lists.{changed_at}
use Rattle.dx_spec.specs.State.{State, no_account, account_of, position_in, size_in}
use Rattle.dx_spec.specs.Bounds.{is_balance}
use Rattle.dx_spec.specs.Margin.{of_market, paid, dust, payments, at_index, settled_account}
use Rattle.dx_spec.specs.Accounts.{with_payment, with_position, shifted, touch_step, settle_kept, settle_step, trade}
use Rattle.dx_spec.specs.Fills.{fill_side}
use Rattle.dx_spec.specs.Liquidation.{liquidate_step}
use Rattle.dx_spec.specs.Deleveraging.{delever_step}
use Rattle.dx_spec.proofs.Lists.{from_map, changed_at-keeps}
use Rattle.dx_spec.proofs.Accounts.{each_account, its_account}
use Rattle.dx_spec.proofs.Each.{all_weaker, all_filter}
use Rattle.dx_spec.proofs.Parts.{settled_state, settle_is, traded, traded_state, with_oi, trade_is, fill_side_is, make_liquidation_is, liquidate_step_is, make_offset_is, delever_step_is}
use Rattle.dx_laws.proofs.Payments.{funded, in_market, slice_get-payments}
use Rattle.dx_accounts.specs.Steady.{IsSteady}
use Rattle.dx_accounts.proofs.Coverage.{steady_quote}
use Rattle.dx_match.specs.Conditions.{IsSettleable}

-- the position, if its market is known, is at the market's index
abbrev pub IsAt : List MarketInfo → Position → Type 0
IsAt ms p = (m : MarketInfo) → slice_get ms p.market ≡ Some m → p.index ≡ m.index

-- all positions of an account are
abbrev pub AreAt : List MarketInfo → Account → Type 0
AreAt ms a = AllByRecursion (IsAt ms) a.positions.items

abbrev pub IsSettledFully : State → SubaccountId → Type 0
IsSettledFully s who = AreAt s.markets (account_of s who)

-- payments keep the indices of the markets
at-payments : (ms : List MarketInfo) (xs : List Paid) (p : Position) → IsAt ms p → IsAt (fold with_payment ms xs) p
at-payments ms xs p h m e =
    from_map (λ m. p.index ≡ m.index) (λ m. funded m (in_market p.market (λ x. x.paid) xs) (in_market p.market (λ x. x.dust) xs)) (slice_get ms p.market) m (sym (slice_get-payments ms xs p.market) ∙ e) h

-- a settled position is at the index
at-settled : (ms : List MarketInfo) (p : Position) → IsAt ms (at_index ms p)
at-settled ms p m e = ap (λ o. option_map_or (λ (x : MarketInfo). x.index) o p.index) e

all-settled : (ms : List MarketInfo) (xs : List Paid) (ps : List Position) → AllByRecursion (IsAt (fold with_payment ms xs)) (map (at_index ms) ps)
all-settled ms xs [] = tt
all-settled ms xs (p ∷ ps) = (at-payments ms xs (at_index ms p) (at-settled ms p), all-settled ms xs ps)

account-settled : (ms : List MarketInfo) (xs : List Paid) (a : Account) → AreAt (fold with_payment ms xs) (settled_account ms a)
unfolding settled_account
account-settled ms xs a = all-settled ms xs a.positions.items

-- so is every position of an account that is settled
pub fully-settle_step : (s : State) (who : SubaccountId) (t : State) → settle_step s who ≡ Some t → IsSettledFully t who
fully-settle_step s who t e =
    settle_is (λ u. IsSettledFully u who) s who t e
    (λ n. subst (λ o. AreAt s.markets (unwrap_or o no_account)) (sym n) tt)
    (subst (AreAt (settled_state s who).markets) (sym (its_account s.accounts who (settled_account s.markets (account_of s who))))
    (account-settled s.markets (payments s.markets (account_of s who)) (account_of s who)))

-- and stays so where another is settled
pub fully-settle_other : (s : State) (who q : SubaccountId) (t : State) → IsSettledFully s who → settle_step s q ≡ Some t → IsSettledFully t who
fully-settle_other s who q t h e =
    settle_is (λ u. IsSettledFully u who) s q t e (λ _. h)
    (each_account (AreAt (settled_state s q).markets) s.accounts q (settled_account s.markets (account_of s q)) who
    (account-settled s.markets (payments s.markets (account_of s q)) (account_of s q))
    (all_weaker (IsAt s.markets) (IsAt (settled_state s q).markets) (λ p i. at-payments s.markets (payments s.markets (account_of s q)) p i) (account_of s who).positions.items h))

-- the index of the position that is found in a market
at-found : (ms : List MarketInfo) (k : ℕ) (ps : List Position) → AllByRecursion (IsAt ms) ps → (m : MarketInfo) → slice_get ms k ≡ Some m
    → option_map_or (λ p. p.index) (find (λ p. p.market == k) ps) m.index ≡ m.index
at-found ms k [] h m e = refl
at-found ms k (p ∷ ps) h m e = go (p.market == k) refl (at-found ms k ps h.1 m e)
  where
    go : (b : Bool) → (p.market == k) ≡ b → option_map_or (λ p. p.index) (find (λ p. p.market == k) ps) m.index ≡ m.index
        → option_map_or (λ p. p.index) (cond b (Some p) (find (λ p. p.market == k) ps)) m.index ≡ m.index
    go true i more = h.0 m (ap (slice_get ms) (eqb-true p.market k i) ∙ e)
    go false i more = more

index-default : (o : Option Position) (i x : ℤ) → i ≡ x → option_map_or (λ p. p.index) o x ≡ x → option_map_or (λ p. p.index) o i ≡ x
index-default None i x e h = e
index-default (Some p) i x e h = h

all-append : (P : Position → Type 0) (xs ys : List Position) → AllByRecursion P xs → AllByRecursion P ys → AllByRecursion P (xs ++ ys)
all-append P [] ys h i = i
all-append P (x ∷ xs) ys h i = (h.0, all-append P xs ys h.1 i)

all-unless : (P : Position → Type 0) (b : Bool) (p : Position) → P p → AllByRecursion P (cond b [] (p ∷ []))
all-unless P true p h = tt
all-unless P false p h = (h, tt)

all-with : (P : Position → Type 0) (ps : List Position) (p : Position) → AllByRecursion P ps → P p → AllByRecursion P (with_position ps p)
all-with P ps p h i =
    all-append P (filter (λ q. nat_lt q.market p.market) ps ++ cond (int_eq p.size (pos 0)) [] (p ∷ [])) (filter (λ q. nat_lt p.market q.market) ps)
    (all-append P (filter (λ q. nat_lt q.market p.market) ps) (cond (int_eq p.size (pos 0)) [] (p ∷ [])) (all_filter P (λ q. nat_lt q.market p.market) ps h) (all-unless P (int_eq p.size (pos 0)) p i))
    (all_filter P (λ q. nat_lt p.market q.market) ps h)

-- an account after a trade
at-shifted : (ms : List MarketInfo) (a : Account) (k : ℕ) (z c : ℤ) → AreAt ms a → AreAt ms (shifted a k (of_market ms k (λ m. m.index)) z c)
unfolding shifted
at-shifted ms a k z c h =
    all-with (IsAt ms) a.positions.items (record { market = k; size = size_in a k +ℤ z; index = option_map_or (λ p. p.index) (position_in a k) (of_market ms k (λ m. m.index)) }) h
    (λ m e. index-default (position_in a k) (of_market ms k (λ m. m.index)) m.index (ap (λ o. option_map_or (λ (x : MarketInfo). x.index) o (pos 0)) e) (at-found ms k a.positions.items h m e))

-- a trade keeps the indices of the markets
at-changed : (ms : List MarketInfo) (k : ℕ) (c d : Account) (p : Position) → IsAt ms p → IsAt (changed_at ms k (with_oi c d k)) p
at-changed ms k c d p h m e = changed_at-keeps (λ m. p.index ≡ m.index) ms k p.market (with_oi c d k) m e h (λ x i. i)

-- a trade of an account that is settled fully leaves it and every other such
pub fully-trade : (s : State) (q who : SubaccountId) (k : ℕ) (z c : ℤ) (t : State) → IsSettledFully s q → IsSettledFully s who → trade s q k z c ≡ Some t → IsSettledFully t who
fully-trade s q who k z c t h i e =
    subst (λ u. IsSettledFully u who) (trade_is s q k z c t e)
    (each_account (AreAt (traded_state s q k z c).markets) s.accounts q (traded s q k z c) who
    (changed (traded s q k z c) (at-shifted s.markets (account_of s q) k z c h))
    (changed (account_of s who) i))
  where
    changed : (a : Account) → AreAt s.markets a → AreAt (traded_state s q k z c).markets a
    changed a j = all_weaker (IsAt s.markets) (IsAt (traded_state s q k z c).markets) (λ p l. at-changed s.markets k (account_of s q) (traded s q k z c) p l) a.positions.items j

fully-fill_side : (s : State) (o : Order) (amount : ℕ) (whole : ℤ) (ppm : ℕ) (who : SubaccountId) (t : State) → IsSettledFully s o.id.who → IsSettledFully s who
    → fill_side s o amount whole ppm ≡ Some t → IsSettledFully t who
fully-fill_side s o amount whole ppm who t h i e =
    fill_side_is (λ u. IsSettledFully u who) s o amount whole ppm t e (λ u j. fully-trade s o.id.who who o.id.market _ _ u h i j)

-- so the account that is liquidated is settled fully afterwards
pub fully-liquidate_step : (s : State) (who : SubaccountId) (market : ℕ) (maker : Order) (amount : ℕ) (t : State) → liquidate_step s who market maker amount ≡ Ok t → IsSettledFully t who
fully-liquidate_step s who market maker amount t e =
    liquidate_step_is (λ u. IsSettledFully u who) s who market maker amount t e (λ m u v w x c i d j k.
    let own : IsSettledFully v who = fully-settle_other u who maker.id.who v (fully-settle_step s who u i) j in
    let other : IsSettledFully v maker.id.who = fully-settle_step u maker.id.who v j in
    make_liquidation_is (λ y. IsSettledFully y who) v who m maker amount w k (λ y z f g _ _.
    fully-fill_side (record y { funds = _ }) maker amount _ _ who z
    (fully-trade v who maker.id.who maker.id.market _ _ y own other f)
    (fully-trade v who who maker.id.market _ _ y own own f) g))

-- and so is the one whose position is offset
pub fully-delever_step : (s : State) (who : SubaccountId) (market : ℕ) (offset : Offset) (t : State) → delever_step s who market offset ≡ Ok t → IsSettledFully t who
fully-delever_step s who market offset t e =
    delever_step_is (λ u. IsSettledFully u who) s who market offset t e (λ m u v w i j k.
    let own : IsSettledFully v who = fully-settle_other u who offset.who v (fully-settle_step s who u i) j in
    let other : IsSettledFully v offset.who = fully-settle_step u offset.who v j in
    make_offset_is (λ y. IsSettledFully y who) v who m market offset w k (λ y z f g _.
    fully-trade y offset.who who market _ _ z
    (fully-trade v who offset.who market _ _ y own other f)
    (fully-trade v who who market _ _ y own own f) g))

none_paid : floor_div (pos 0) million ≡ pos 0
unfolding floor_div
none_paid = refl

-- such an account is paid nothing
nothing-owed : (m : MarketInfo) (p : Position) → p.index ≡ m.index → paid m p ≡ pos 0
nothing-owed m p e =
    let none : (m.index -ℤ p.index) ≡ pos 0 = omega (arith, ints, e) in
    let owed : neg_ℤ ((m.index -ℤ p.index) *ℤ p.size) ≡ pos 0 = ap (λ z. neg_ℤ (z *ℤ p.size)) none ∙ no_times p.size in
    ap (λ z. floor_div z million) owed ∙ none_paid
  where
    no_times : (z : ℤ) → neg_ℤ (pos 0 *ℤ z) ≡ pos 0
    no_times z = omega (arith, ints)

none-paid : (ms : List MarketInfo) (p : Position) (o : Option MarketInfo) → slice_get ms p.market ≡ o → IsAt ms p → option_map_or (λ m. paid m p) o (pos 0) ≡ pos 0
none-paid ms p None e h = refl
none-paid ms p (Some m) e h = nothing-owed m p (h m e)

no-payments : (ms : List MarketInfo) (ps : List Position) → AllByRecursion (IsAt ms) ps
    → int_sum_by (λ (x : Paid). x.paid) (map (λ p. record { market = p.market; paid = of_market ms p.market (λ m. paid m p); dust = of_market ms p.market (λ m. dust m p) }) ps) ≡ pos 0
no-payments ms [] h = refl
no-payments ms (p ∷ ps) h =
    let first = none-paid ms p (slice_get ms p.market) refl h.0 in
    let more = no-payments ms ps h.1 in
    omega (arith, ints, first, more)

same_quote : (a b : ℤ) → b ≡ pos 0 → a +ℤ b ≡ a
same_quote a b e = omega (arith, ints, e)

-- so it can be settled
pub settleable_fully : (s : State) (who : SubaccountId) → IsSteady s → IsSettledFully s who → IsSettleable s who
unfolding settled_account
settleable_fully s who h i =
    let a = account_of s who in
    let quote : a.quote +ℤ int_sum_by (λ x. x.paid) (payments s.markets a) ≡ a.quote = same_quote a.quote _ (no-payments s.markets a.positions.items i) in
    ap is_balance quote ∙ lt-ltb (unsigned_abs a.quote) (2 ^ 60) (steady_quote s who h)

by_test : {X : Type 0} (b : Bool) (x : Option X) → is_none (cond b x None) ≡ false → b ≡ true
by_test true x e = refl
by_test false x e = absurd (let i : true ≡ false = e in cc)

no_account_settleable : (ms : List MarketInfo) → is_balance (settled_account ms no_account).quote ≡ true
unfolding settled_account
no_account_settleable ms = refl

by_kept : (s : State) (who : SubaccountId) (o : Option Account) → is_none (option_map_or (settle_kept s who) o (Some s)) ≡ false → is_balance (settled_account s.markets (unwrap_or o no_account)).quote ≡ true
unfolding settle_kept
by_kept s who None e = no_account_settleable s.markets
by_kept s who (Some a) e = by_test (is_balance (settled_account s.markets a).quote) (touch_step s who (settled_account s.markets a) (payments s.markets a)) e

-- an account that is settled can be
pub settleable_first : (s : State) (who : SubaccountId) → is_none (settle_step s who) ≡ false → IsSettleable s who
unfolding settle_step
settleable_first s who e = by_kept s who (get s.accounts who) e
