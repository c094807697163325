-- The lines of a block add up, and those of all blocks.
use Rattle.std.proofs.Common.{◌≡◌, ℕ, ◌+◌, not, ◌&&◌, ℤ, pos, ◌+ℤ◌, ◌-ℤ◌, List, [], ◌∷◌, ◌++◌, Option, Some, None, unwrap_or, Result, Ok, Err, refl, sym, ap, subst, ◌∙◌, arith, nat_lt, slice_get, length, false}
use Rattle.std.proofs.lemmas.Int.{ints}
use Rattle.std.specs.Option.{option_map_or}
use Rattle.std.specs.FinMap.{empty, get-empty}
use Rattle.dx_types.specs.Keys.{subaccount_cmp}
use Rattle.dx_types.specs.declared.SubaccountId.{SubaccountId}
use Rattle.dx_types.specs.declared.OrderId.{OrderId}
use Rattle.dx_types.specs.declared.Order.{Order}
use Rattle.dx_types.specs.declared.Fill.{Fill}
use Rattle.dx_types.specs.declared.Offset.{Offset}
use Rattle.dx_types.specs.declared.Op.{Op}
use Rattle.dx_types.specs.declared.Op.TheVariants.{Place, Match, Liquidate, Delever, Remove}
use Rattle.dx_types.specs.declared.Msg.{Msg}
use Rattle.dx_types.specs.declared.Vote.{Vote}
use Rattle.dx_types.specs.declared.PriceUpdate.{PriceUpdate}
use Rattle.dx_types.specs.declared.Block.{Block}
use Rattle.dx_types.specs.declared.Genesis.{Genesis}
use Rattle.dx_spec.specs.Lists.{is_empty, changed_at}
use Rattle.dx_spec.specs.Step.{◌>>=◌, fail_as, try_each}
use Rattle.dx_spec.specs.Codes.{unknown_taker, unknown_maker, empty_match, bad_role, bad_vote, bad_price, header_part, votes_part, prices_part}
use Rattle.dx_spec.specs.State.{State, no_account, account_of, size_in, genesis_state}
use Rattle.dx_spec.specs.Bounds.{is_premium}
use Rattle.dx_spec.specs.Orders.{is_post_only}
use Rattle.dx_spec.specs.Deleveraging.{delever_step}
use Rattle.dx_spec.specs.Operations.{Placed, Progress, at_fill, order_of, place_step, remove_step, match_fill, match_step, liquidation_fill, liquidation_step, deleveraging_offset, deleveraging_step, op_step, op_at, ops_step}
use Rattle.dx_spec.specs.Messages.{message_step, after_message, message, messages}
use Rattle.dx_spec.specs.Blocks.{bad, is_above, is_price_of, check_header, votes_step, prices_step, drop_ended, trigger_orders, triggered_by, take_samples, take_funding, end_step, Applied, block_step, fold_from, fold_blocks}
use Rattle.dx_spec.proofs.Steps.{by_test, refuse_then, then_with, then_result, then_unit, ok_same, passed}
use Rattle.dx_spec.proofs.Scripts.{stage_passes}
use Rattle.dx_spec.proofs.Parts.{remove_step_is}
use Rattle.dx_spec.proofs.Triggers.{trigger_leaves}
use Rattle.dx_lines.specs.declared.lines.Line.{Line}
use Rattle.dx_lines.specs.Laws.{AddUp, AreTheAccounts}
use Rattle.dx_lines.specs.Lines.{by_match, by_liquidation, both_lines, if_good, each_told, fill_lines, closing_lines, offset_lines, op_lines, ops_lines, message_lines, messages_lines, block_lines, statements_from, all_lines}
use Rattle.dx_lines.specs.Sums.{amounts_of, sizes_of}
use Rattle.dx_lines.proofs.Sums.{amounts-append, sizes-append}
use Rattle.dx_lines.proofs.Steps.{fill_adds_up, closing_adds_up, offset_adds_up, nothing_adds_up, message_adds_up}

two_changes : (x y z a b c : ℤ) → a ≡ x +ℤ y → x ≡ b -ℤ c → y ≡ z -ℤ b → a ≡ z -ℤ c
two_changes x y z a b c e f g = omega (arith, ints)

-- one change after the other
pub add_up_then : (s t u : State) (xs ys : List Line) → AddUp s t xs → AddUp t u ys → AddUp s u (xs ++ ys)
add_up_then s t u xs ys h i = record {
  amounts = λ q. two_changes (amounts_of q xs) (amounts_of q ys) (account_of u q).quote _ (account_of t q).quote (account_of s q).quote (amounts-append q xs ys) (h.amounts q) (i.amounts q);
  sizes = λ q n. two_changes (sizes_of q n xs) (sizes_of q n ys) (size_in (account_of u q) n) _ (size_in (account_of t q) n) (size_in (account_of s q) n) (sizes-append q n xs ys) (h.sizes q n) (i.sizes q n);
}

-- what follows writes no account
add_up_still : (s t u : State) (xs : List Line) → AddUp s t xs → u.accounts ≡ t.accounts → AddUp s u xs
add_up_still s t u xs h e =
    let w = nothing_adds_up t u e in record {
      amounts = λ q. two_changes (amounts_of q xs) (pos 0) (account_of u q).quote _ (account_of t q).quote (account_of s q).quote (none_more (amounts_of q xs)) (h.amounts q) (w.amounts q);
      sizes = λ q n. two_changes (sizes_of q n xs) (pos 0) (size_in (account_of u q) n) _ (size_in (account_of t q) n) (size_in (account_of s q) n) (none_more (sizes_of q n xs)) (h.sizes q n) (w.sizes q n);
    } where
      none_more : (x : ℤ) → x ≡ x +ℤ pos 0
      none_more x = omega (arith, ints)

-- what a good step tells
pub told_is : {S E : Type 0} (r : Result S E) (t : S) (tell : S → List Line) → r ≡ Ok t → if_good r tell ≡ tell t
told_is r t tell e = ap (λ q. if_good q tell) e

-- what each step over a list tells adds up
told_add_up : {S X E : Type 0} (at : S → State) (step : ℕ → X → S → Result S E) (tell : X → S → S → List Line)
    → ((n : ℕ) (x : X) (s t : S) → step n x s ≡ Ok t → AddUp (at s) (at t) (tell x s t))
    → (n : ℕ) (xs : List X) (s t : S) → try_each step n xs s ≡ Ok t → AddUp (at s) (at t) (each_told step tell n xs s)
told_add_up at step tell h n [] s t e = nothing_adds_up (at s) (at t) (ap (λ u. (at u).accounts) (sym (ok_same s t e)))
told_add_up at step tell h n (x ∷ xs) s t e =
    then_result (λ t. AddUp (at s) (at t) (each_told step tell n (x ∷ xs) s)) (step n x s) (try_each step (n + 1) xs) t e (λ u i f.
    subst (AddUp (at s) (at t)) (sym (told_is (step n x s) u (λ v. tell x s v ++ each_told step tell (n + 1) xs v) i))
    (add_up_then (at s) (at u) (at t) (tell x s u) (each_told step tell (n + 1) xs u) (h n x s u i) (told_add_up at step tell h (n + 1) xs u t f)))

found_is : {A : Type 0} (o : Option A) (x : A) (f : A → List Line) → o ≡ Some x → option_map_or f o [] ≡ f x
found_is o x f e = ap (λ p. option_map_or f p []) e

match_fill_adds_up : (placed : Placed) (taker : Order) (n : ℕ) (f : Fill) (s t : State) → match_fill placed taker n f s ≡ Ok t → AddUp s t (fill_lines placed taker f s t)
unfolding match_fill fill_lines
match_fill_adds_up placed taker n f s t e =
    then_with (λ t. AddUp s t (option_map_or (λ maker. both_lines s t taker.id.who maker.id.who by_match taker.id.market) (order_of s placed f.maker) []))
    (order_of s placed f.maker) unknown_maker _ t (passed (at_fill n) _ t e) (λ maker i g.
    subst (AddUp s t) (sym (found_is (order_of s placed f.maker) maker (λ maker. both_lines s t taker.id.who maker.id.who by_match taker.id.market) i))
    (fill_adds_up s taker maker f.amount t g))

liquidation_fill_adds_up : (placed : Placed) (who : SubaccountId) (market n : ℕ) (f : Fill) (s t : State) → liquidation_fill placed who market n f s ≡ Ok t
    → AddUp s t (closing_lines placed who market f s t)
unfolding liquidation_fill closing_lines
liquidation_fill_adds_up placed who market n f s t e =
    then_with (λ t. AddUp s t (option_map_or (λ maker. both_lines s t who maker.id.who by_liquidation market) (order_of s placed f.maker) []))
    (order_of s placed f.maker) unknown_maker _ t (passed (at_fill n) _ t e) (λ maker i g.
    subst (AddUp s t) (sym (found_is (order_of s placed f.maker) maker (λ maker. both_lines s t who maker.id.who by_liquidation market) i))
    (closing_adds_up s who market maker f.amount t g))

deleveraging_offset_adds_up : (who : SubaccountId) (market n : ℕ) (o : Offset) (s t : State) → deleveraging_offset who market n o s ≡ Ok t → AddUp s t (offset_lines who market o s t)
unfolding deleveraging_offset offset_lines
deleveraging_offset_adds_up who market n o s t e = offset_adds_up s who market o t (passed (at_fill n) (delever_step s who market o) t e)

match_adds_up : (s : State) (placed : Placed) (taker : OrderId) (fills : List Fill) (t : State) → match_step s placed taker fills ≡ Ok t
    → AddUp s t (option_map_or (λ o. each_told (match_fill placed o) (fill_lines placed o) 0 fills s) (order_of s placed taker) [])
unfolding match_step
match_adds_up s placed taker fills t e =
    then_with (λ t. AddUp s t (option_map_or (λ o. each_told (match_fill placed o) (fill_lines placed o) 0 fills s) (order_of s placed taker) []))
    (order_of s placed taker) (at_fill 0 unknown_taker) _ t (refuse_then (at_fill 0 empty_match) (is_empty fills) _ t e) (λ o i f.
    subst (AddUp s t) (sym (found_is (order_of s placed taker) o (λ o. each_told (match_fill placed o) (fill_lines placed o) 0 fills s) i))
    (told_add_up (λ u. u) (match_fill placed o) (fill_lines placed o) (match_fill_adds_up placed o) 0 fills s t (refuse_then (at_fill 0 bad_role) (is_post_only o.kind) _ t f)))

liquidation_adds_up : (s : State) (placed : Placed) (who : SubaccountId) (market : ℕ) (fills : List Fill) (t : State) → liquidation_step s placed who market fills ≡ Ok t
    → AddUp s t (each_told (liquidation_fill placed who market) (closing_lines placed who market) 0 fills s)
unfolding liquidation_step
liquidation_adds_up s placed who market fills t e =
    told_add_up (λ u. u) (liquidation_fill placed who market) (closing_lines placed who market) (liquidation_fill_adds_up placed who market) 0 fills s t
    (refuse_then (at_fill 0 empty_match) (is_empty fills) _ t e)

deleveraging_adds_up : (s : State) (who : SubaccountId) (market : ℕ) (offsets : List Offset) (t : State) → deleveraging_step s who market offsets ≡ Ok t
    → AddUp s t (each_told (deleveraging_offset who market) (offset_lines who market) 0 offsets s)
unfolding deleveraging_step
deleveraging_adds_up s who market offsets t e =
    told_add_up (λ u. u) (deleveraging_offset who market) (offset_lines who market) (deleveraging_offset_adds_up who market) 0 offsets s t
    (refuse_then (at_fill 0 empty_match) (is_empty offsets) _ t e)

-- an operation
op_adds_up : (height : ℕ) (op : Op) (p q : Progress) → op_step height op p ≡ Ok q → AddUp p.state q.state (op_lines op p)
unfolding op_step op_lines
op_adds_up height (Place o) p q e =
    then_result (λ (q : Progress). AddUp p.state q.state []) (fail_as (at_fill 0) (place_step p.state p.placed height o)) _ q e
    (λ x i f. subst (λ (q : Progress). AddUp p.state q.state []) (ok_same (record p { placed = x }) q f) (nothing_adds_up p.state p.state refl))
op_adds_up height (Match taker fills) p q e =
    then_result (λ (q : Progress). AddUp p.state q.state (option_map_or (λ o. each_told (match_fill p.placed o) (fill_lines p.placed o) 0 fills p.state) (order_of p.state p.placed taker) []))
    (match_step p.state p.placed taker fills) _ q e
    (λ x i f. subst (λ (q : Progress). AddUp p.state q.state (option_map_or (λ o. each_told (match_fill p.placed o) (fill_lines p.placed o) 0 fills p.state) (order_of p.state p.placed taker) []))
    (ok_same (record p { state = x }) q f) (match_adds_up p.state p.placed taker fills x i))
op_adds_up height (Liquidate who market fills) p q e =
    then_result (λ (q : Progress). AddUp p.state q.state (each_told (liquidation_fill p.placed who market) (closing_lines p.placed who market) 0 fills p.state))
    (liquidation_step p.state p.placed who market fills) _ q e
    (λ x i f. subst (λ (q : Progress). AddUp p.state q.state (each_told (liquidation_fill p.placed who market) (closing_lines p.placed who market) 0 fills p.state))
    (ok_same (record p { state = x }) q f) (liquidation_adds_up p.state p.placed who market fills x i))
op_adds_up height (Delever who market offsets) p q e =
    then_result (λ (q : Progress). AddUp p.state q.state (each_told (deleveraging_offset who market) (offset_lines who market) 0 offsets p.state))
    (deleveraging_step p.state who market offsets) _ q e
    (λ x i f. subst (λ (q : Progress). AddUp p.state q.state (each_told (deleveraging_offset who market) (offset_lines who market) 0 offsets p.state))
    (ok_same (record p { state = x }) q f) (deleveraging_adds_up p.state who market offsets x i))
op_adds_up height (Remove id) p q e =
    then_result (λ (q : Progress). AddUp p.state q.state []) (fail_as (at_fill 0) (remove_step p.state id)) _ q e
    (λ x i f. subst (λ (q : Progress). AddUp p.state q.state []) (ok_same (record p { state = x }) q f)
    (nothing_adds_up p.state x (remove_step_is (λ u. u.accounts ≡ p.state.accounts) p.state id x (passed (at_fill 0) (remove_step p.state id) x i) refl)))

op_at_adds_up : (height n : ℕ) (op : Op) (p q : Progress) → op_at height n op p ≡ Ok q → AddUp p.state q.state (op_lines op p)
unfolding op_at
op_at_adds_up height n op p q e = op_adds_up height op p q (passed _ (op_step height op p) q e)

-- all operations
ops_add_up : (s : State) (height : ℕ) (ops : List Op) (t : State) → ops_step s height ops ≡ Ok t → AddUp s t (ops_lines s height ops)
unfolding ops_step ops_lines
ops_add_up s height ops t e =
    let first : Progress = record { state = s; placed = empty } in
    then_result (λ t. AddUp s t (each_told (op_at height) (λ op p q. op_lines op p) 0 ops first)) (try_each (op_at height) 0 ops first) _ t e (λ p i f.
    subst (λ t. AddUp s t (each_told (op_at height) (λ op p q. op_lines op p) 0 ops first)) (ok_same p.state t f)
    (told_add_up (λ (p : Progress). p.state) (op_at height) (λ op p q. op_lines op p) (op_at_adds_up height) 0 ops first p i))

message_told : (s : State) (time : ℕ) (m : Msg) (r : Result State ℕ) → message_step s time m ≡ r → AddUp s (after_message s r).0 (if_good r (message_lines m s))
message_told s time m (Ok t) e = message_adds_up s time m t e
message_told s time m (Err code) e = nothing_adds_up s s refl

-- all messages
messages_add_up : (s : State) (time : ℕ) (ms : List Msg) → AddUp s (messages s time ms).0 (messages_lines s time ms)
messages_add_up s time [] = nothing_adds_up s s refl
messages_add_up s time (m ∷ ms) =
    let u = (message s time m).0 in
    add_up_then s u (messages u time ms).0 (if_good (message_step s time m) (message_lines m s)) (messages_lines u time ms)
    (message_told s time m (message_step s time m) refl) (messages_add_up u time ms)

-- votes, prices and the end of a block write no account
votes-accounts : (before : Option ℕ) (n : ℕ) (vs : List Vote) (s t : State) → votes_step before n vs s ≡ Ok t → t.accounts ≡ s.accounts
unfolding votes_step
votes-accounts before n [] s t e = ap (λ (u : State). u.accounts) (sym (ok_same s t e))
votes-accounts before n (v ∷ vs) s t e =
    votes-accounts (Some v.market) (n + 1) vs (record s { votes = changed_at s.votes v.market (λ xs. xs ++ v.premium ∷ []) }) t
    (refuse_then (bad votes_part n bad_vote) (not (nat_lt v.market (length s.markets) && is_above before v.market && is_premium v.premium)) _ t e)

prices-accounts : (before : Option ℕ) (n : ℕ) (ps : List PriceUpdate) (s t : State) → prices_step before n ps s ≡ Ok t → t.accounts ≡ s.accounts
unfolding prices_step
prices-accounts before n [] s t e = ap (λ (u : State). u.accounts) (sym (ok_same s t e))
prices-accounts before n (p ∷ ps) s t e =
    prices-accounts (Some p.market) (n + 1) ps (record s { markets = changed_at s.markets p.market (λ m. record m { price = p.price }) }) t
    (refuse_then (bad prices_part n bad_price) (not (option_map_or (λ m. is_price_of m p.price) (slice_get s.markets p.market) false && is_above before p.market)) _ t e)

samples-accounts : (time : ℕ) (s : State) → (take_samples time s).accounts ≡ s.accounts
unfolding take_samples
samples-accounts time s = by_test (λ u. u.accounts ≡ s.accounts) (nat_lt time s.clock.sample_next) s _ refl refl

funding-accounts : (time : ℕ) (s : State) → (take_funding time s).accounts ≡ s.accounts
unfolding take_funding
funding-accounts time s = by_test (λ u. u.accounts ≡ s.accounts) (nat_lt time s.clock.funding_next) s _ refl refl

triggers-accounts : (ids : List OrderId) (s : State) → (trigger_orders ids s).accounts ≡ s.accounts
triggers-accounts ids s = trigger_leaves (λ t. t.accounts ≡ s.accounts) (λ t m n e. e) ids s refl

end-accounts : (s : State) (height time : ℕ) → (end_step s height time).accounts ≡ s.accounts
unfolding end_step drop_ended
end-accounts s height time =
    funding-accounts time _ ∙ samples-accounts time _ ∙ triggers-accounts (triggered_by s height time) (drop_ended height time s)

-- a block
pub block_adds_up : (s : State) (b : Block) (r : Applied) → block_step s b ≡ Ok r → AddUp s r.0 (block_lines s b)
unfolding block_step block_lines
block_adds_up s b r e =
    let lines = ops_lines s b.height b.ops ++ if_good (ops_step s b.height b.ops) (λ t. messages_lines t b.time b.msgs) in
    let P : Applied → Type 0 = λ r. AddUp s r.0 lines in
    then_unit P (fail_as (bad header_part 0) (check_header s b)) _ r e (λ f.
    then_result P (ops_step s b.height b.ops) _ r f (λ u i g.
    then_result P (votes_step None 0 b.votes (messages u b.time b.msgs).0) _ r g (λ v j l.
    then_result P (prices_step None 0 b.prices v) _ r l (λ w n o.
    subst P (ok_same (end_step w b.height b.time, (messages u b.time b.msgs).1, triggered_by w b.height b.time) r o)
    (add_up_still s (messages u b.time b.msgs).0 (end_step w b.height b.time) lines
    (subst (λ ys. AddUp s (messages u b.time b.msgs).0 (ops_lines s b.height b.ops ++ ys)) (sym (told_is (ops_step s b.height b.ops) u (λ t. messages_lines t b.time b.msgs) i))
    (add_up_then s u (messages u b.time b.msgs).0 (ops_lines s b.height b.ops) (messages_lines u b.time b.msgs) (ops_add_up s b.height b.ops u i) (messages_add_up u b.time b.msgs)))
    (end-accounts w b.height b.time ∙ prices-accounts None 0 b.prices v w n ∙ votes-accounts None 0 b.votes (messages u b.time b.msgs).0 v j))))))

-- blocks one after the other
pub blocks_add_up : (s : State) (bs : List Block) (t : State) (lists : List (List Line)) → fold_from s bs ≡ Ok t → statements_from s bs ≡ Ok lists → AddUp s t (all_lines lists)
unfolding fold_from statements_from
blocks_add_up s [] t lists e f =
    subst (λ ls. AddUp s t (all_lines ls)) (ok_same [] lists f) (nothing_adds_up s t (ap (λ (u : State). u.accounts) (sym (ok_same s t e))))
blocks_add_up s (b ∷ bs) t lists e f =
    let a = stage_passes (block_step s b) (λ after. fold_from after.0 bs) t e in
    let c = stage_passes (block_step s b) (λ after. statements_from after.0 bs >>= λ rest. Ok (block_lines s b ∷ rest)) lists f in
    let d = stage_passes (statements_from c.0.0 bs) (λ rest. Ok (block_lines s b ∷ rest)) lists c.2 in
    let same : a.0 ≡ c.0 = ok_same a.0 c.0 (sym a.1 ∙ c.1) in
    subst (λ ls. AddUp s t (all_lines ls)) (ok_same (block_lines s b ∷ d.0) lists d.2)
    (add_up_then s a.0.0 t (block_lines s b) (all_lines d.0) (block_adds_up s b a.0 a.1)
    (blocks_add_up a.0.0 bs t d.0 a.2 (ap (λ (r : Applied). statements_from r.0 bs) same ∙ d.1)))

from_nothing : (x y z : ℤ) → x ≡ y -ℤ z → z ≡ pos 0 → x ≡ y
from_nothing x y z e f = omega (arith, ints)

no_quote : (g : Genesis) (q : SubaccountId) → (account_of (genesis_state g) q).quote ≡ pos 0
unfolding genesis_state
no_quote g q = ap (λ o. (unwrap_or o no_account).quote) (get-empty subaccount_cmp q)

no_size : (g : Genesis) (q : SubaccountId) (n : ℕ) → size_in (account_of (genesis_state g) q) n ≡ pos 0
unfolding genesis_state
no_size g q n = ap (λ o. size_in (unwrap_or o no_account) n) (get-empty subaccount_cmp q)

-- from a genesis, where no account has anything
pub are_the_accounts : (g : Genesis) (bs : List Block) (t : State) (lists : List (List Line)) → fold_blocks g bs ≡ Ok t → statements_from (genesis_state g) bs ≡ Ok lists
    → AreTheAccounts t (all_lines lists)
are_the_accounts g bs t lists e f =
    let h = blocks_add_up (genesis_state g) bs t lists e f in record {
      quotes = λ q. from_nothing _ (account_of t q).quote (account_of (genesis_state g) q).quote (h.amounts q) (no_quote g q);
      positions = λ q n. from_nothing _ (size_in (account_of t q) n) (size_in (account_of (genesis_state g) q) n) (h.sizes q n) (no_size g q n);
    }
