-- What an operation comes to, and what its fault says of the whole.
use Rattle.std.proofs.Common.{◌≡◌, ℕ, ◌+◌, ◌<◌, ◌≤◌, false, nat_lt, List, [], ◌∷◌, length, drop, get_or, Result, Ok, Err, OnOk, sym, ap, subst, ◌∙◌, arith}
use Rattle.std.specs.Prelude.{All, sum_by}
use Rattle.std.specs.List.{AllByRecursion}
use Rattle.std.proofs.lemmas.Bool.{or_parts, ltb-false}
use Rattle.std.proofs.lemmas.List.Elements.{All-from_recursion}
use Rattle.std.proofs.lemmas.List.Sums.{sum_by-cons}
use Rattle.std.specs.FinMap.{empty}
use Rattle.dx_types.specs.declared.SubaccountId.{SubaccountId}
use Rattle.dx_types.specs.declared.OrderId.{OrderId}
use Rattle.dx_types.specs.declared.Order.{Order}
use Rattle.dx_types.specs.declared.Fill.{Fill}
use Rattle.dx_types.specs.declared.Offset.{Offset}
use Rattle.dx_types.specs.declared.Op.{Op}
use Rattle.dx_types.specs.declared.Op.TheVariants.{Place, Match, Liquidate, Delever, Remove}
use Rattle.dx_ledger.specs.declared.faults.OpFault.{OpFault}
use Rattle.dx_ledger.specs.declared.faults.OpFault.TheVariants.{Code, NoMemory}
use Rattle.dx_spec.specs.Step.{◌>>=◌, fail_as, try_each}
use Rattle.dx_spec.specs.Codes.{operations_part}
use Rattle.dx_spec.specs.State.{State}
use Rattle.dx_spec.specs.Blocks.{most_operations, most_fills, fills_in, has_too_many_ops}
use Rattle.dx_spec.specs.Operations.{Placed, Failure, at_fill, place_step, match_step, liquidation_step, deleveraging_step, remove_step, Progress, op_step, op_at, ops_step}
use Rattle.dx_spec.proofs.Steps.{try_each_drop}
use Rattle.dx_accounts.specs.Faults.{IsFaultOf}
use Rattle.dx_operations.specs.declared.faults.BlockFault.{BlockFault}
use Rattle.dx_operations.specs.declared.faults.BlockFault.TheVariants as block
use Rattle.dx_operations.specs.Faults.{Refuses}
use Rattle.dx_operations.specs.Refusals.{bad_at, IsFailureOf}

-- what follows of two facts where a call answers
pub both_ok : {A E : Type 0} (P Q R : Type 0) (r : Result A E) → (P → Q → R) → OnOk r P → OnOk r Q → OnOk r R
both_ok P Q R (Ok x) f h i = f h i
both_ok P Q R (Err e) f h i = h

-- and of three
pub all_ok : {A E : Type 0} (P Q R S : Type 0) (r : Result A E) → (P → Q → R → S) → OnOk r P → OnOk r Q → OnOk r R → OnOk r S
all_ok P Q R S (Ok x) f h i j = f h i j
all_ok P Q R S (Err e) f h i j = h

-- a turn that answers leaves the turns behind it
pub turn : {S X E : Type 0} (step : ℕ → X → S → Result S E) (i : ℕ) (xs : List X) (d : X) (s t : S) → i < length xs
    → step i (get_or xs i d) s ≡ Ok t → try_each step i (drop i xs) s ≡ try_each step (i + 1) (drop (i + 1) xs) t
turn step i xs d s t h e = try_each_drop step i xs d s h ∙ ap (λ r. r >>= try_each step (i + 1) (drop (i + 1) xs)) e

-- an order that is placed
pub op_placed : (height : ℕ) (op : Op) (o : Order) (s : State) (placed after : Placed) → op ≡ Place o → place_step s placed height o ≡ Ok after
    → op_step height op (record { state = s; placed = placed }) ≡ Ok (record { state = s; placed = after })
unfolding op_step
op_placed height op o s placed after i e =
    ap (λ (x : Op). op_step height x (record { state = s; placed = placed })) i
    ∙ ap (λ r. fail_as (at_fill 0) r >>= λ x. Ok (record { state = s; placed = x })) e

pub op_not_placed : (height : ℕ) (op : Op) (o : Order) (s : State) (placed : Placed) (f : OpFault) → op ≡ Place o → IsFaultOf (place_step s placed height o) f
    → IsFailureOf (op_step height op (record { state = s; placed = placed })) f
unfolding op_step
op_not_placed height op o s placed NoMemory i h = tt
op_not_placed height op o s placed (Code fill code) i h =
    ap (λ (x : Op). op_step height x (record { state = s; placed = placed })) i
    ∙ ap (λ r. fail_as (at_fill 0) r >>= λ x. Ok (record { state = s; placed = x })) h.1
    ∙ ap (λ n. Err (at_fill n code)) (sym h.0)

-- what an operation that changes the state alone comes to
abbrev with_state : Placed → Result State Failure → Result Progress Failure
with_state placed r = r >>= λ x. Ok (record { state = x; placed = placed })

pub op_changed : (height : ℕ) (op : Op) (s : State) (placed : Placed) (t : State) (r : Result State Failure)
    → op_step height op (record { state = s; placed = placed }) ≡ with_state placed r → r ≡ Ok t
    → op_step height op (record { state = s; placed = placed }) ≡ Ok (record { state = t; placed = placed })
op_changed height op s placed t r i e = i ∙ ap (with_state placed) e

pub op_failed : (height : ℕ) (op : Op) (s : State) (placed : Placed) (r : Result State Failure) (f : OpFault)
    → op_step height op (record { state = s; placed = placed }) ≡ with_state placed r → IsFailureOf r f
    → IsFailureOf (op_step height op (record { state = s; placed = placed })) f
op_failed height op s placed r NoMemory i h = tt
op_failed height op s placed r (Code fill code) i h = i ∙ ap (with_state placed) h

-- a match
pub match_is : (height : ℕ) (op : Op) (taker : OrderId) (fills same : List Fill) (s : State) (placed : Placed) → op ≡ Match taker fills → same ≡ fills
    → op_step height op (record { state = s; placed = placed }) ≡ with_state placed (match_step s placed taker same)
unfolding op_step
match_is height op taker fills same s placed i j =
    ap (λ (x : Op). op_step height x (record { state = s; placed = placed })) i ∙ ap (λ (xs : List Fill). with_state placed (match_step s placed taker xs)) (sym j)

-- a liquidation
pub liquidation_is : (height : ℕ) (op : Op) (who : SubaccountId) (market : ℕ) (fills same : List Fill) (s : State) (placed : Placed) → op ≡ Liquidate who market fills → same ≡ fills
    → op_step height op (record { state = s; placed = placed }) ≡ with_state placed (liquidation_step s placed who market same)
unfolding op_step
liquidation_is height op who market fills same s placed i j =
    ap (λ (x : Op). op_step height x (record { state = s; placed = placed })) i ∙ ap (λ (xs : List Fill). with_state placed (liquidation_step s placed who market xs)) (sym j)

-- a deleveraging
pub deleveraging_is : (height : ℕ) (op : Op) (who : SubaccountId) (market : ℕ) (offsets same : List Offset) (s : State) (placed : Placed) → op ≡ Delever who market offsets → same ≡ offsets
    → op_step height op (record { state = s; placed = placed }) ≡ with_state placed (deleveraging_step s who market same)
unfolding op_step
deleveraging_is height op who market offsets same s placed i j =
    ap (λ (x : Op). op_step height x (record { state = s; placed = placed })) i ∙ ap (λ (xs : List Offset). with_state placed (deleveraging_step s who market xs)) (sym j)

-- a removal
pub removal_is : (height : ℕ) (op : Op) (id : OrderId) (s : State) (placed : Placed) → op ≡ Remove id
    → op_step height op (record { state = s; placed = placed }) ≡ with_state placed (fail_as (at_fill 0) (remove_step s id))
unfolding op_step
removal_is height op id s placed i = ap (λ (x : Op). op_step height x (record { state = s; placed = placed })) i

pub first_failure : {A : Type 0} (r : Result A ℕ) (f : OpFault) → IsFaultOf r f → IsFailureOf (fail_as (at_fill 0) r) f
first_failure r NoMemory h = tt
first_failure r (Code fill code) h = ap (fail_as (at_fill 0)) h.1 ∙ ap (λ n. Err (at_fill n code)) (sym h.0)

-- the fills or offsets of an operation are no more than it may have
pub few_matched : (op : Op) (taker : OrderId) (fills same : List Fill) (n : ℕ) → op ≡ Match taker fills → same ≡ fills → fills_in op ≤ n → length same ≤ n
few_matched op taker fills same n i j h = subst (λ k. k ≤ n) (ap fills_in i ∙ ap length (sym j)) h

pub few_liquidated : (op : Op) (who : SubaccountId) (market : ℕ) (fills same : List Fill) (n : ℕ) → op ≡ Liquidate who market fills → same ≡ fills → fills_in op ≤ n → length same ≤ n
few_liquidated op who market fills same n i j h = subst (λ k. k ≤ n) (ap fills_in i ∙ ap length (sym j)) h

pub few_delevered : (op : Op) (who : SubaccountId) (market : ℕ) (offsets same : List Offset) (n : ℕ) → op ≡ Delever who market offsets → same ≡ offsets → fills_in op ≤ n → length same ≤ n
few_delevered op who market offsets same n i j h = subst (λ k. k ≤ n) (ap fills_in i ∙ ap length (sym j)) h

each_within : (n : ℕ) (ops : List Op) → sum_by fills_in ops ≤ n → AllByRecursion (λ op. fills_in op ≤ n) ops
each_within n [] h = tt
each_within n (op ∷ ops) h =
    let e : fills_in op + sum_by fills_in ops ≤ n = subst (λ k. k ≤ n) (sum_by-cons fills_in op ops) h in
    (omega (arith, e), each_within n ops (omega (arith, e)))

-- what is not too much
pub few_ops : (ops : List Op) → has_too_many_ops ops ≡ false → (length ops ≤ most_operations) × All (λ op. fills_in op ≤ most_fills) ops
few_ops ops e =
    let a = or_parts (nat_lt most_operations (length ops)) (nat_lt most_fills (sum_by fills_in ops)) e in
    (ltb-false most_operations (length ops) a.0, All-from_recursion (λ op. fills_in op ≤ most_fills) ops (each_within most_fills ops (ltb-false most_fills (sum_by fills_in ops) a.1)))

-- the operation of a number
pub op_done : (height n : ℕ) (op : Op) (p q : Progress) → op_step height op p ≡ Ok q → op_at height n op p ≡ Ok q
unfolding op_at
op_done height n op p q e = ap (fail_as (λ f. record { part = operations_part; index = n; fill = f.fill; code = f.code })) e

pub op_bad : (height n : ℕ) (op : Op) (p : Progress) (f : OpFault) → IsFailureOf (op_step height op p) f → Refuses (bad_at n f) (op_at height n op p)
unfolding op_at
op_bad height n op p NoMemory h = tt
op_bad height n op p (Code fill code) h = ap (fail_as (λ f. record { part = operations_part; index = n; fill = f.fill; code = f.code })) h

-- what all operations come to
pub ops_done : (s : State) (height : ℕ) (ops : List Op) (placed : Placed) (p : Progress) → placed ≡ empty
    → try_each (op_at height) 0 ops (record { state = s; placed = placed }) ≡ Ok p → ops_step s height ops ≡ Ok p.state
unfolding ops_step
ops_done s height ops placed p i e =
    ap (λ (x : Placed). try_each (op_at height) 0 ops (record { state = s; placed = x }) >>= λ q. Ok q.state) (sym i) ∙ ap (λ r. r >>= λ (q : Progress). Ok q.state) e

pub ops_bad : (s : State) (height : ℕ) (ops : List Op) (placed : Placed) (f : BlockFault) → placed ≡ empty
    → Refuses f (try_each (op_at height) 0 ops (record { state = s; placed = placed })) → Refuses f (ops_step s height ops)
unfolding ops_step
ops_bad s height ops placed block.NoMemory i h = tt
ops_bad s height ops placed (block.Bad part) i h =
    ap (λ (x : Placed). try_each (op_at height) 0 ops (record { state = s; placed = x }) >>= λ q. Ok q.state) (sym i) ∙ ap (λ r. r >>= λ (q : Progress). Ok q.state) h
