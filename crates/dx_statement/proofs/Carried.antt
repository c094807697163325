-- The messages of a good block, one by one.
use Rattle.std.proofs.Common.{◌≡◌, ℕ, ◌+◌, ◌*◌, ◌^◌, ◌<◌, Bool, true, false, not, ◌==◌, pos, neg_ℤ, nat_le, List, [], ◌++◌, append_assoc, append-nil, length, drop, get_or, Option, Some, None, Result, Ok, Err, ok_or, refl, sym, ap, subst, ◌∙◌, arith}
use Rattle.std.proofs.lemmas.List.{at_drop_more}
use Rattle.dx_types.specs.declared.SubaccountId.{SubaccountId}
use Rattle.dx_types.specs.declared.OrderId.{OrderId}
use Rattle.dx_types.specs.declared.Order.{Order}
use Rattle.dx_types.specs.declared.Msg.{Msg}
use Rattle.dx_types.specs.declared.Msg.TheVariants.{Deposit, Withdraw, Transfer, PlaceStateful, CancelStateful, PlaceConditional}
use Rattle.dx_spec.specs.Step.{◌>>=◌, ◌>>◌, refuse}
use Rattle.dx_spec.specs.Results.{bad_amount, bound, accounts_full, unknown_account, too_risky, same_account, bad_order, order_exists, orders_full, no_order}
use Rattle.dx_spec.specs.State.{State, account_of, is_kept, is_same_account, stands_or_waits}
use Rattle.dx_spec.specs.Balance.{Balanced}
use Rattle.dx_spec.specs.Accounts.{settle_step}
use Rattle.dx_spec.specs.Orders.{is_good_long_term, is_good_conditional}
use Rattle.dx_spec.specs.Messages.{is_bad_sum, is_one_too_many, may_change, change_quote, deposit_step, withdraw_step, check_transfer, transfer_step, has_all_orders, place_stateful_step, place_conditional_step, cancel_stateful_step, message_step, after_message, message}
use Rattle.dx_sound.proofs.Blocks.{within_more as SoundWithin-more}
use Rattle.dx_accounts.specs.Steady.{IsSteady}
use Rattle.dx_rules.proofs.Telling.{IsToldSo, IsSteady-IsToldSo, told_more}
use Rattle.dx_lines.specs.declared.lines.Line.{Line}
use Rattle.dx_lines.specs.Lines.{if_good, account_lines, both_lines, by_deposit, by_withdrawal, by_transfer, message_lines, messages_lines}
use Rattle.dx_statement.specs.Telling.{CanSettle, BothSettle, HasRoom}
use Rattle.dx_statement.proofs.Settles.{deposit_settles, withdraw_settles, transfer_settles}

-- a code that is not that of a message that was carried out
abbrev IsRefusal : ℕ → Type 0
IsRefusal c = (c == 0) ≡ false

same_code : {B : Type 0} (x c : ℕ) → ◌≡◌ {A = Result B ℕ} (Err x) (Err c) → x ≡ c
same_code x c e = cc

no_fault : {B : Type 0} (x : B) (c : ℕ) → ◌≡◌ {A = Result B ℕ} (Ok x) (Err c) → IsRefusal c
no_fault x c e = absurd (cc)

test_fails : {B : Type 0} (code : ℕ) (b : Bool) (rest : Result B ℕ) (c : ℕ) → IsRefusal code → (refuse code b >> rest) ≡ Err c → (rest ≡ Err c → IsRefusal c) → IsRefusal c
test_fails code true rest c h e f = subst IsRefusal (same_code code c e) h
test_fails code false rest c h e f = f e

some_fails : {A B : Type 0} (o : Option A) (code : ℕ) (f : A → Result B ℕ) (c : ℕ) → IsRefusal code → (ok_or o code >>= f) ≡ Err c → ((x : A) → f x ≡ Err c → IsRefusal c) → IsRefusal c
some_fails None code f c h e g = subst IsRefusal (same_code code c e) h
some_fails (Some x) code f c h e g = g x e

unit_fails : {B : Type 0} (r : Result (Unit {0}) ℕ) (rest : Result B ℕ) (c : ℕ) → (r ≡ Err c → IsRefusal c) → (r >> rest) ≡ Err c → (rest ≡ Err c → IsRefusal c) → IsRefusal c
unit_fails (Err d) rest c h e g = h (ap Err (same_code d c e))
unit_fails (Ok x) rest c h e g = g e

deposit_fails : (s : State) (who : SubaccountId) (amount c : ℕ) → deposit_step s who amount ≡ Err c → IsRefusal c
unfolding deposit_step
deposit_fails s who amount c e =
    test_fails bad_amount (is_bad_sum amount) _ c refl e (λ a.
    some_fails (settle_step s who) bound _ c refl a (λ u b.
    some_fails (change_quote u who (pos amount)) bound _ c refl b (λ v d.
    test_fails accounts_full (is_one_too_many s who) _ c refl d (λ g. no_fault _ c g))))

withdraw_fails : (s : State) (who : SubaccountId) (amount c : ℕ) → withdraw_step s who amount ≡ Err c → IsRefusal c
unfolding withdraw_step
withdraw_fails s who amount c e =
    test_fails bad_amount (is_bad_sum amount) _ c refl e (λ a.
    test_fails unknown_account (not (is_kept s who)) _ c refl a (λ x.
    some_fails (settle_step s who) bound _ c refl x (λ u b.
    some_fails (change_quote u who (neg_ℤ (pos amount))) bound _ c refl b (λ v d.
    test_fails too_risky (not (may_change u v who)) _ c refl d (λ g. no_fault _ c g)))))

check_fails : (s : State) (from to : SubaccountId) (amount c : ℕ) → check_transfer s from to amount ≡ Err c → IsRefusal c
unfolding check_transfer
check_fails s from to amount c e =
    test_fails bad_amount (is_bad_sum amount) _ c refl e (λ a.
    test_fails same_account (is_same_account from to) _ c refl a (λ b.
    test_fails unknown_account (not (is_kept s from)) _ c refl b (λ g. no_fault tt c g)))

transfer_fails : (s : State) (from to : SubaccountId) (amount c : ℕ) → transfer_step s from to amount ≡ Err c → IsRefusal c
unfolding transfer_step
transfer_fails s from to amount c e =
    unit_fails (check_transfer s from to amount) _ c (check_fails s from to amount c) e (λ a.
    some_fails (settle_step s from) bound _ c refl a (λ u b.
    some_fails (settle_step u to) bound _ c refl b (λ v d.
    some_fails (change_quote v from (neg_ℤ (pos amount))) bound _ c refl d (λ w g.
    some_fails (change_quote w to (pos amount)) bound _ c refl g (λ x h.
    test_fails too_risky (not (may_change v x from)) _ c refl h (λ i.
    test_fails accounts_full (is_one_too_many s to) _ c refl i (λ j. no_fault _ c j)))))))

place_fails : (s : State) (time : ℕ) (o : Order) (c : ℕ) → place_stateful_step s time o ≡ Err c → IsRefusal c
unfolding place_stateful_step
place_fails s time o c e =
    test_fails bad_order (not (is_good_long_term s.genesis.params (is_kept s o.id.who) time o)) _ c refl e (λ a.
    test_fails order_exists (stands_or_waits s o.id) _ c refl a (λ b.
    test_fails orders_full (has_all_orders s) _ c refl b (λ g. no_fault _ c g)))

wait_fails : (s : State) (time : ℕ) (o : Order) (above : Bool) (trigger c : ℕ) → place_conditional_step s time o above trigger ≡ Err c → IsRefusal c
unfolding place_conditional_step
wait_fails s time o above trigger c e =
    test_fails bad_order (not (is_good_conditional s.genesis.params (is_kept s o.id.who) time o trigger)) _ c refl e (λ a.
    test_fails order_exists (stands_or_waits s o.id) _ c refl a (λ b.
    test_fails orders_full (has_all_orders s) _ c refl b (λ g. no_fault _ c g)))

cancel_fails : (s : State) (id : OrderId) (c : ℕ) → cancel_stateful_step s id ≡ Err c → IsRefusal c
unfolding cancel_stateful_step
cancel_fails s id c e = test_fails no_order (not (stands_or_waits s id)) _ c refl e (λ g. no_fault _ c g)

-- a message that is refused has another result than one that is carried out
message_fails : (s : State) (time : ℕ) (m : Msg) (c : ℕ) → message_step s time m ≡ Err c → IsRefusal c
unfolding message_step
message_fails s time (Deposit who amount) c e = deposit_fails s who amount c e
message_fails s time (Withdraw who amount) c e = withdraw_fails s who amount c e
message_fails s time (Transfer from to amount) c e = transfer_fails s from to amount c e
message_fails s time (PlaceStateful o) c e = place_fails s time o c e
message_fails s time (CancelStateful id) c e = cancel_fails s id c e
message_fails s time (PlaceConditional o above trigger) c e = wait_fails s time o above trigger c e

good_by : (s : State) (r : Result State ℕ) (t : State) (code : ℕ) → ((c : ℕ) → r ≡ Err c → IsRefusal c) → after_message s r ≡ (t, code) → (code == 0) ≡ true → r ≡ Ok t
good_by s (Ok u) t code h e d = ap (λ (p : State × ℕ). Ok p.0) e
good_by s (Err c) t code h e d =
    absurd (let i : c ≡ code = ap (λ (p : State × ℕ). p.1) e in let j : (code == 0) ≡ false = subst IsRefusal i (h c refl) in let k : false ≡ true = sym j ∙ d in cc)

-- the result says that it was carried out
pub good_message : (s t : State) (time : ℕ) (m : Msg) (code : ℕ) → message s time m ≡ (t, code) → (code == 0) ≡ true → message_step s time m ≡ Ok t
good_message s t time m code e d = good_by s (message_step s time m) t code (message_fails s time m) e d

bad_by : (s : State) (r : Result State ℕ) (t : State) (code : ℕ) (tell : State → List Line) → after_message s r ≡ (t, code) → (code == 0) ≡ false → if_good r tell ≡ []
bad_by s (Ok u) t code tell e d =
    absurd (let i : 0 ≡ code = ap (λ (p : State × ℕ). p.1) e in let j : (0 == 0) ≡ false = subst (λ c. (c == 0) ≡ false) (sym i) d in let k : true ≡ false = j in cc)
bad_by s (Err c) t code tell e d = refl

-- or that nothing is told of it
pub bad_message : (s t : State) (time : ℕ) (m : Msg) (code : ℕ) (tell : State → List Line) → message s time m ≡ (t, code) → (code == 0) ≡ false → if_good (message_step s time m) tell ≡ []
bad_message s t time m code tell e d = bad_by s (message_step s time m) t code tell e d

-- what is told of one that was carried out
pub told_good : (s t : State) (time : ℕ) (m : Msg) (code : ℕ) (tell : State → List Line) (lines told : List Line) → message s time m ≡ (t, code) → (code == 0) ≡ true
    → told ≡ lines ++ tell t → told ≡ lines ++ if_good (message_step s time m) tell
told_good s t time m code tell lines told e d h = h ∙ ap (λ ys. lines ++ ys) (sym (ap (λ r. if_good r tell) (good_message s t time m code e d)))

pub told_bad : (s t : State) (time : ℕ) (m : Msg) (code : ℕ) (tell : State → List Line) (lines : List Line) → message s time m ≡ (t, code) → (code == 0) ≡ false
    → lines ≡ lines ++ if_good (message_step s time m) tell
told_bad s t time m code tell lines e d = sym (append-nil lines) ∙ ap (λ ys. lines ++ ys) (sym (bad_message s t time m code tell e d))

nothing_told : (r : Result State ℕ) → if_good r (λ t. []) ≡ []
nothing_told (Ok t) = refl
nothing_told (Err c) = refl

-- nothing is told of the others
pub told_none : (r : Result State ℕ) (lines : List Line) → lines ≡ lines ++ if_good r (λ t. [])
told_none r lines = sym (append-nil lines) ∙ ap (λ ys. lines ++ ys) (sym (nothing_told r))

-- a state with room is steady, and is so after a message
pub room_steady : (time : ℕ) (s : State) → HasRoom time s → IsSteady s
room_steady time s h = record { genesis = h.genesis; within = SoundWithin-more _ (2 ^ 101) s (omega arith) h.within; balanced = h.balanced }

pub room_told : (n time : ℕ) (s : State) → n < 256 → IsToldSo n time s → HasRoom time s
room_told n time s l h = record { genesis = h.genesis; within = SoundWithin-more _ (2 ^ 100 + 2 ^ 60 * 255) s (omega (arith, l)) h.within; balanced = h.balanced; later = h.later }

told_room : (time : ℕ) (s : State) → HasRoom time s → IsToldSo 255 time s
told_room time s h = record { genesis = h.genesis; within = h.within; balanced = h.balanced; later = h.later }

pub steady_behind : (time : ℕ) (s t : State) (m : Msg) (code : ℕ) → HasRoom time s → message s time m ≡ (t, code) → Balanced t → IsSteady t
steady_behind time s t m code h e b = IsSteady-IsToldSo 256 time t (omega arith) (told_more 255 time s t m code (told_room time s h) e b)

-- and so on
pub told_on : (n time : ℕ) (s t : State) (m : Msg) → IsToldSo n time s → (message s time m).0 ≡ t → Balanced t → IsToldSo (n + 1) time t
told_on n time s t m h e b = told_more n time s t m (message s time m).1 h (λ i. (e i, (message s time m).1)) b

-- the lines of the messages from a number on
pub told_next : (s t : State) (time : ℕ) (ms : List Msg) (i : ℕ) (d : Msg) (lines told whole : List Line) → i < length ms → (message s time (get_or ms i d)).0 ≡ t
    → told ≡ lines ++ if_good (message_step s time (get_or ms i d)) (message_lines (get_or ms i d) s) → lines ++ messages_lines s time (drop i ms) ≡ whole
    → told ++ messages_lines t time (drop (i + 1) ms) ≡ whole
told_next s t time ms i d lines told whole h e f w =
    let mine = if_good (message_step s time (get_or ms i d)) (message_lines (get_or ms i d) s) in
    ap (λ ys. ys ++ messages_lines t time (drop (i + 1) ms)) f ∙ append_assoc lines mine (messages_lines t time (drop (i + 1) ms))
    ∙ ap (λ (u : State). lines ++ (mine ++ messages_lines u time (drop (i + 1) ms))) (sym e)
    ∙ ap (λ ys. lines ++ ys) (sym (at_drop_more (messages_lines s time) ms i d h)) ∙ w

-- the kinds of messages
pub of_deposit : (s : State) (time : ℕ) (m : Msg) (who : SubaccountId) (amount : ℕ) → m ≡ Deposit who amount → IsSteady s → (t : State) → message_step s time m ≡ Ok t
    → CanSettle s.markets (account_of s who)
unfolding message_step
of_deposit s time m who amount i h t e = deposit_settles s who amount t h (ap (message_step s time) (sym i) ∙ e)

pub of_withdrawal : (s : State) (time : ℕ) (m : Msg) (who : SubaccountId) (amount : ℕ) → m ≡ Withdraw who amount → IsSteady s → (t : State) → message_step s time m ≡ Ok t
    → CanSettle s.markets (account_of s who)
unfolding message_step
of_withdrawal s time m who amount i h t e = withdraw_settles s who amount t h (ap (message_step s time) (sym i) ∙ e)

pub of_transfer : (s : State) (time : ℕ) (m : Msg) (from to : SubaccountId) (amount : ℕ) → m ≡ Transfer from to amount → IsSteady s → (t : State) → message_step s time m ≡ Ok t
    → BothSettle s from to
unfolding message_step
of_transfer s time m from to amount i h t e = transfer_settles s from to amount t h (ap (message_step s time) (sym i) ∙ e)

-- what each tells
pub deposit_told : (s : State) (m : Msg) (who : SubaccountId) (amount : ℕ) (r : Result State ℕ) (lines told : List Line) → m ≡ Deposit who amount
    → told ≡ lines ++ if_good r (λ t. account_lines s t who by_deposit 0) → told ≡ lines ++ if_good r (message_lines m s)
unfolding message_lines
deposit_told s m who amount r lines told i h = h ∙ ap (λ x. lines ++ if_good r (message_lines x s)) (sym i)

pub withdrawal_told : (s : State) (m : Msg) (who : SubaccountId) (amount : ℕ) (r : Result State ℕ) (lines told : List Line) → m ≡ Withdraw who amount
    → told ≡ lines ++ if_good r (λ t. account_lines s t who by_withdrawal 0) → told ≡ lines ++ if_good r (message_lines m s)
unfolding message_lines
withdrawal_told s m who amount r lines told i h = h ∙ ap (λ x. lines ++ if_good r (message_lines x s)) (sym i)

pub transfer_told : (s : State) (m : Msg) (from to : SubaccountId) (amount : ℕ) (r : Result State ℕ) (lines told : List Line) → m ≡ Transfer from to amount
    → told ≡ lines ++ if_good r (λ t. both_lines s t from to by_transfer 0) → told ≡ lines ++ if_good r (message_lines m s)
unfolding message_lines
transfer_told s m from to amount r lines told i h = h ∙ ap (λ x. lines ++ if_good r (message_lines x s)) (sym i)

pub placing_told : (s : State) (m : Msg) (o : Order) (r : Result State ℕ) (lines : List Line) → m ≡ PlaceStateful o → lines ≡ lines ++ if_good r (message_lines m s)
unfolding message_lines
placing_told s m o r lines i = told_none r lines ∙ ap (λ x. lines ++ if_good r (message_lines x s)) (sym i)

pub cancel_told : (s : State) (m : Msg) (id : OrderId) (r : Result State ℕ) (lines : List Line) → m ≡ CancelStateful id → lines ≡ lines ++ if_good r (message_lines m s)
unfolding message_lines
cancel_told s m id r lines i = told_none r lines ∙ ap (λ x. lines ++ if_good r (message_lines x s)) (sym i)

pub waiting_told : (s : State) (m : Msg) (o : Order) (above : Bool) (trigger : ℕ) (r : Result State ℕ) (lines : List Line) → m ≡ PlaceConditional o above trigger
    → lines ≡ lines ++ if_good r (message_lines m s)
unfolding message_lines
waiting_told s m o above trigger r lines i = told_none r lines ∙ ap (λ x. lines ++ if_good r (message_lines x s)) (sym i)
