-- What filters leave of a list.
use Rattle.std.proofs.Common.{◌≡◌, Bool, true, false, cond, List, [], ◌∷◌, filter, refl, ap}
use Rattle.std.specs.List.{AllByRecursion}

-- nothing passes where none does
pub none_pass : {X : Type 0} (test : X → Bool) (xs : List X) → AllByRecursion (λ x. test x ≡ false) xs → filter test xs ≡ []
none_pass test [] h = refl
none_pass test (x ∷ xs) h = rw h.0 (none_pass test xs h.1)

-- two filters in either order
pub filter_swap : {X : Type 0} (p q : X → Bool) (xs : List X) → filter p (filter q xs) ≡ filter q (filter p xs)
filter_swap p q [] = refl
filter_swap p q (x ∷ xs) = go (p x) (q x) refl refl (filter_swap p q xs)
  where
    go : (a b : Bool) → p x ≡ a → q x ≡ b → filter p (filter q xs) ≡ filter q (filter p xs)
        → filter p (cond b (x ∷ filter q xs) (filter q xs)) ≡ filter q (cond a (x ∷ filter p xs) (filter p xs))
    go true true e f more = rw (e, f) (ap (λ l. x ∷ l) more)
    go true false e f more = rw f more
    go false true e f more = rw e more
    go false false e f more = more
