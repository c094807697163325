-- What is noted of a fill that was tried.
use Rattle.std.proofs.Common.{◌≡◌, ◌≢◌, ℕ, ◌+◌, ◌≤◌, true, false, cond, List, [], ◌∷◌, ◌++◌, Result, Ok, Err, refl, sym, ap, subst, ◌∙◌, is_ok, arith}
use Rattle.std.proofs.lemmas.Bool.{ne_eqb}
use Rattle.std.proofs.lemmas.List.{map-append}
use Rattle.dx_types.specs.declared.Order.{Order}
use Rattle.dx_types.specs.declared.Op.{Op}
use Rattle.dx_spec.specs.Codes.{maker_risk}
use Rattle.dx_types.specs.declared.OrderId.{OrderId}
use Rattle.dx_spec.specs.State.{State, is_same_account, filled_of}
use Rattle.dx_spec.specs.Fills.{fill_step}
use Rattle.dx_node_spec.specs.Book.{left}
use Rattle.dx_node_spec.specs.Taking.{Taken, Filled as FilledMaker, leaves, with_fill, closed_match, refused_maker, amount_to_try, closes_nothing, ended, looked_again, try_maker}
use Rattle.dx_ledger.specs.declared.faults.OpFault.{OpFault}
use Rattle.dx_ledger.specs.declared.faults.OpFault.TheVariants.{Code}
use Rattle.dx_accounts.specs.Faults.{IsFaultOf}
use Rattle.dx_match.specs.declared.taken.Filled.{Filled}
use Rattle.dx_match.specs.declared.taken.Taking.{Taking}
use Rattle.dx_match.specs.Seen.{group_of, seen}
use Rattle.dx_match.specs.Stages.{tried, take_maker}

-- a push that was done
pub pushed : {X E : Type 0} (r : Result (Unit {0}) E) (u : Unit {0}) (xs ys zs : List X) → r ≡ Ok u → ys ≡ cond (is_ok r) xs zs → ys ≡ xs
pushed r u xs ys zs e f = f ∙ ap (λ z. cond (is_ok z) xs zs) e

-- a fill that leaves nothing of its maker
pub noted_gone : (maker : Order) (amount : ℕ) (s t : State) (before : Taking) (group : List Filled) (last : Taken)
    → group ≡ before.group ++ record { maker = maker; amount = amount } ∷ [] → left s maker ≡ 0
    → last ≡ leaves maker.id (seen s (record before { group = group; filled = before.filled + amount; fills = before.fills + 1 }))
    → last ≡ with_fill maker amount s (seen t before)
unfolding with_fill
noted_gone maker amount s t before group last h z e =
    let noted : List FilledMaker → Taken = λ g. record { state = s; group = g; ops = before.ops; gone = before.gone; filled = before.filled + amount; fills = before.fills + 1; offsets = before.offsets; stop = before.stop; over = before.over } in
    let more : group_of group ≡ group_of before.group ++ record { maker = maker; amount = amount } ∷ [] = ap group_of h ∙ map-append _ before.group _ in
    e ∙ ap (λ g. leaves maker.id (noted g)) more ∙ rw z refl

-- a refused fill whose maker does not bear it
tried_risk : (queue : List Op) (o maker : Order) (amount : ℕ) (t : Taken) → tried queue o maker amount t (Err maker_risk) ≡ refused_maker (closed_match queue o) maker t
unfolding tried
tried_risk queue o maker amount t = refl

tried_other : (queue : List Op) (o maker : Order) (amount code : ℕ) (t : Taken) → code ≢ maker_risk → tried queue o maker amount t (Err code) ≡ record t { stop = code }
unfolding tried
tried_other queue o maker amount code t e = rw (ne_eqb code maker_risk e) refl

pub noted_risk : (queue : List Op) (o maker : Order) (amount code : ℕ) (t last : Taken) → code ≡ maker_risk → last ≡ refused_maker (closed_match queue o) maker t
    → last ≡ tried queue o maker amount t (Err code)
noted_risk queue o maker amount code t last same e = e ∙ sym (ap (λ n. tried queue o maker amount t (Err n)) same ∙ tried_risk queue o maker amount t)

pub noted_stop : (queue : List Op) (o maker : Order) (amount code : ℕ) (t : Taken) → code ≢ maker_risk → record t { stop = code } ≡ tried queue o maker amount t (Err code)
noted_stop queue o maker amount code t other = sym (tried_other queue o maker amount code t other)

-- a fault of a code is the definition's
pub coded : {A B : Type 0} (f : Result A ℕ → B) (step : Result A ℕ) (fault : OpFault) (fill code : ℕ) (last : B) → fault ≡ Code fill code → IsFaultOf step fault
    → last ≡ f (Err code) → last ≡ f step
coded f step fault fill code last is h e = let i : IsFaultOf step (Code fill code) = subst (IsFaultOf step) is h in e ∙ ap f (sym i.1)

-- a good fill
pub tried_good : (queue : List Op) (o maker : Order) (amount : ℕ) (s : State) (t last : Taken) (step : Result State ℕ) → step ≡ Ok s
    → last ≡ with_fill maker amount s t → last ≡ tried queue o maker amount t step
unfolding tried
tried_good queue o maker amount s t last step e h = h ∙ sym (ap (tried queue o maker amount t) e)

-- a maker of the order's own account
pub takes_own : (queue : List Op) (o maker : Order) (t last : Taken) → is_same_account maker.id.who o.id.who ≡ true → last ≡ leaves maker.id t → last ≡ take_maker queue o t maker
unfolding take_maker
takes_own queue o maker t last e h = h ∙ rw e refl

-- a reduce-only order with nothing to close
pub takes_no_more : (queue : List Op) (o maker : Order) (t : Taken) → is_same_account maker.id.who o.id.who ≡ false → closes_nothing t.state o ≡ true → ended t ≡ take_maker queue o t maker
unfolding take_maker
takes_no_more queue o maker t e f = rw (e, f) refl

-- any other
pub takes_tried : (queue : List Op) (o maker : Order) (t last : Taken) → is_same_account maker.id.who o.id.who ≡ false → closes_nothing t.state o ≡ false
    → last ≡ looked_again o maker (try_maker queue o t maker) → last ≡ take_maker queue o t maker
unfolding take_maker
takes_tried queue o maker t last e f h = h ∙ rw (e, f) refl

tried_as : (queue : List Op) (o maker : Order) (t : Taken)
    → tried queue o maker (amount_to_try t.state o maker) t (fill_step t.state o maker (amount_to_try t.state o maker)) ≡ try_maker queue o t maker
unfolding try_maker tried
tried_as queue o maker t = refl

-- the amount that an order tries, and the maker looked at again
pub tried_amount : (queue : List Op) (o maker : Order) (amount : ℕ) (t noted last : Taken) → amount ≡ amount_to_try t.state o maker
    → noted ≡ tried queue o maker amount t (fill_step t.state o maker amount) → last ≡ looked_again o maker noted → last ≡ looked_again o maker (try_maker queue o t maker)
tried_amount queue o maker amount t noted last e f h =
    h ∙ ap (looked_again o maker) (f ∙ ap (λ n. tried queue o maker n t (fill_step t.state o maker n)) e ∙ tried_as queue o maker t)

-- a refused fill leaves the state as it was
pub tried_from : (queue : List Op) (o maker : Order) (amount : ℕ) (s t : State) (p : Taking) (last : Taken) (step : Result State ℕ) → t ≡ s
    → last ≡ tried queue o maker amount (seen t p) step → last ≡ tried queue o maker amount (seen s p) step
tried_from queue o maker amount s t p last step e h = h ∙ ap (λ (u : State). tried queue o maker amount (seen u p) step) e

pub filled_stays : (s t u : State) (id : OrderId) (before after : ℕ) → t ≡ s → filled_of u id ≡ filled_of t id → after ≡ before → before ≤ filled_of s id → after ≤ filled_of u id
filled_stays s t u id before after e f h w =
    let same : filled_of u id ≡ filled_of s id = f ∙ ap (λ (x : State). filled_of x id) e in
    omega (arith, same, h, w)
