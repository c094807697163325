-- Makers one after another.
use Rattle.std.proofs.Common.{◌≡◌, ℕ, suc, ◌+◌, ◌≤◌, Result, Ok, Err, IfOk, Bool, true, false, not, cond, Some, List, [], ◌∷◌, filter, fold, drop, refl, sym, ap, ◌∙◌, arith}
use Rattle.std.specs.Prelude.{slice_get}
use Rattle.dx_types.specs.declared.Order.{Order}
use Rattle.dx_types.specs.declared.Op.{Op}
use Rattle.dx_spec.specs.Orders.{is_same_id, crosses}
use Rattle.dx_spec.specs.State.{State}
use Rattle.dx_node_spec.specs.Book.{without, makers_of}
use Rattle.dx_node_spec.specs.Taking.{Taken, nothing_taken, take_one, closed_match, within_limits, take_order}
use Rattle.dx_match.specs.Stages.{is_over, take_maker, opposite, takable}
use Rattle.dx_book.proofs.Walks.{from_place}
use Rattle.dx_match.proofs.Sides.{makers_are}

one_stays : (queue : List Op) (o : Order) (t : Taken) (m : Order) → is_over o t ≡ true → take_one queue o t m ≡ t
unfolding take_one
one_stays queue o t m e = rw e refl

-- an order that takes no more takes none of the makers
over_stays : (queue : List Op) (o : Order) (t : Taken) (makers : List Order) → is_over o t ≡ true → fold (take_one queue o) t makers ≡ t
over_stays queue o t [] e = refl
over_stays queue o t (m ∷ ms) e = ap (λ u. fold (take_one queue o) u ms) (one_stays queue o t m e) ∙ over_stays queue o t ms e

pub over_done : (queue : List Op) (o : Order) (t whole : Taken) (makers : List Order) → is_over o t ≡ true → fold (take_one queue o) t makers ≡ whole → t ≡ whole
over_done queue o t whole makers e made = sym (over_stays queue o t makers e) ∙ made

-- an order that takes on takes the maker
pub takes_one : (queue : List Op) (o : Order) (t : Taken) (maker : Order) → is_over o t ≡ false → take_one queue o t maker ≡ take_maker queue o t maker
unfolding take_one take_maker
takes_one queue o t maker e = rw e refl

-- a maker by itself, where it has another id
pub takes_other : (queue : List Op) (o : Order) (t u : Taken) (maker : Order) → is_over o t ≡ false → is_same_id maker.id o.id ≡ false
    → u ≡ take_maker queue o t maker → u ≡ fold (take_one queue o) t (without (maker ∷ []) o.id)
takes_other queue o t u maker e n h = h ∙ sym (takes_one queue o t maker e) ∙ ap (λ b. fold (take_one queue o) t (cond (not b) (maker ∷ []) [])) (sym n)

-- the order's own id stands aside
pub takes_not_own : (queue : List Op) (o : Order) (t : Taken) (maker : Order) → is_same_id maker.id o.id ≡ true
    → t ≡ fold (take_one queue o) t (without (maker ∷ []) o.id)
takes_not_own queue o t maker n = ap (λ b. fold (take_one queue o) t (cond (not b) (maker ∷ []) [])) (sym n)

-- one maker more
split_first : {S X : Type 0} (f : S → X → S) (p : X → Bool) (b : Bool) (s : S) (x : X) (xs : List X) → p x ≡ true
    → fold f s (filter p (cond b (x ∷ xs) xs)) ≡ fold f (fold f s (cond b (x ∷ []) [])) (filter p xs)
split_first f p true s x xs e = rw e refl
split_first f p false s x xs e = refl

pub turn : (queue : List Op) (o m : Order) (k : ℕ) (side : List Order) (t u whole : Taken) → slice_get side k ≡ Some m → crosses o m ≡ true
    → u ≡ fold (take_one queue o) t (without (m ∷ []) o.id)
    → fold (take_one queue o) t (takable o (drop k side)) ≡ whole → fold (take_one queue o) u (takable o (drop (k + 1) side)) ≡ whole
unfolding takable
turn queue o m k side t u whole e c h made =
    let one_on : k + 1 ≡ suc k = omega arith in
    let rest = without (drop (suc k) side) o.id in
    ap (λ n. fold (take_one queue o) u (filter (crosses o) (without (drop n side) o.id))) one_on
    ∙ ap (λ v. fold (take_one queue o) v (filter (crosses o) rest)) h
    ∙ sym (split_first (take_one queue o) (crosses o) (not (is_same_id m.id o.id)) t m rest c)
    ∙ ap (λ l. fold (take_one queue o) t (filter (crosses o) (without l o.id))) (sym (from_place side k m e))
    ∙ made

-- where nothing is to be taken, all is done
pub all_taken : (queue : List Op) (o : Order) (t whole : Taken) (makers : List Order) → makers ≡ [] → fold (take_one queue o) t makers ≡ whole → t ≡ whole
all_taken queue o t whole makers e made = ap (fold (take_one queue o) t) (sym e) ∙ made

-- before the first maker
pub first_turn : (queue : List Op) (book : List Order) (o : Order) (t u : Taken) → t ≡ u
    → fold (take_one queue o) t (takable o (drop 0 (opposite book o))) ≡ fold (take_one queue o) u (makers_of book o)
first_turn queue book o t u e = ap (λ v. fold (take_one queue o) v (takable o (opposite book o))) e ∙ ap (fold (take_one queue o) u) (sym (makers_are book o))

pub none_yet : (n k : ℕ) → n ≡ 0 → n ≤ k
none_yet n k e = omega (arith, e)

-- the taking of an order is its makers' with the group closed, within the limits
pub order_taken : (s : State) (book : List Order) (queue : List Op) (o : Order) (t : Taken) → t ≡ fold (take_one queue o) (nothing_taken s) (makers_of book o)
    → take_order s book queue o ≡ within_limits queue (closed_match queue o t)
unfolding take_order
order_taken s book queue o t e = ap (λ u. within_limits queue (closed_match queue o u)) (sym e)

-- what holds of an answer holds too where it follows
pub if_ok : {A E : Type 0} (P Q : A → Type 0) (r : Result A E) → ((x : A) → P x → Q x) → IfOk r P → IfOk r Q
if_ok P Q (Ok x) f h = f x h
if_ok P Q (Err e) f h = h
