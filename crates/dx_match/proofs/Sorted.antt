-- A list in the order of a test: what a filter leaves is in order too, and nothing comes before what stands before it.
use Rattle.std.proofs.Common.{◌≡◌, ℕ, suc, Bool, true, false, cond, Some, List, [], ◌∷◌, filter, drop, refl, sym, ap, ◌∙◌}
use Prim.Native.Nat.{zero}
use Rattle.std.specs.Prelude.{slice_get}
use Rattle.std.specs.List.{AllByRecursion}
use Rattle.std.specs.Cmp.{IsStrictWeakOrder}
use Rattle.dx_spec.specs.Lists.{put_by, sorted_by}
use Rattle.dx_spec.proofs.Each.{all_weaker, all_filter, all_put}

module _ {X : Type 0} (lt : X → X → Bool) (o : IsStrictWeakOrder lt) where
  -- nothing in the list comes before x
  abbrev pub NoneBefore : X → List X → Type 0
  NoneBefore x ys = AllByRecursion (λ y. lt y x ≡ false) ys

  -- nothing comes before what stands before it
  abbrev pub InOrder : List X → Type 0
  InOrder [] = Unit {0}
  InOrder (x ∷ xs) = NoneBefore x xs × InOrder xs

  none_before : (x y : X) (ys : List X) → lt y x ≡ false → NoneBefore y ys → NoneBefore x (y ∷ ys)
  none_before x y ys e up = (e, all_weaker _ (λ z. lt z x ≡ false) (λ z k. o.chain z y x k e) ys up)

  put_in_order : (x : X) (ys : List X) → InOrder ys → InOrder (put_by lt x ys)
  put_in_order x [] up = (tt, tt)
  put_in_order x (y ∷ ys) up = go (lt y x) refl (put_in_order x ys up.1)
    where
      go : (b : Bool) → lt y x ≡ b → InOrder (put_by lt x ys) → InOrder (cond b (y ∷ put_by lt x ys) (x ∷ y ∷ ys))
      go true e more = (all_put _ lt x ys (o.one_way y x e) up.0, more)
      go false e more = (none_before x y ys e up.0, up)

  pub sorted_in_order : (xs : List X) → InOrder (sorted_by lt xs)
  sorted_in_order [] = tt
  sorted_in_order (x ∷ xs) = put_in_order x _ (sorted_in_order xs)

  -- what stands behind a place does not come before the one there
  pub none_behind : (xs : List X) (k : ℕ) (x : X) → InOrder xs → slice_get xs k ≡ Some x → NoneBefore x (drop (suc k) xs)
  none_behind [] k x up e = tt
  none_behind (y ∷ ys) zero x up e = go (cc)
    where
      go : y ≡ x → NoneBefore x ys
      go same = all_weaker _ (λ z. lt z x ≡ false) (λ z k. ap (lt z) (sym same) ∙ k) ys up.0
  none_behind (y ∷ ys) (suc k) x up e = none_behind ys k x up.1 e

  put_first : (x : X) (ys : List X) → NoneBefore x ys → put_by lt x ys ≡ x ∷ ys
  put_first x [] h = refl
  put_first x (y ∷ ys) h = rw h.0 refl

  put_behind : (a b : Bool) (x y : X) (ys : List X) → lt y x ≡ true
      → cond a (y ∷ cond b (put_by lt x ys) ys) (cond b (put_by lt x ys) ys) ≡ cond b (put_by lt x (cond a (y ∷ ys) ys)) (cond a (y ∷ ys) ys)
  put_behind true true x y ys e = rw e refl
  put_behind true false x y ys e = refl
  put_behind false b x y ys e = refl

  filter_put : (p : X → Bool) (x : X) (ys : List X) → InOrder ys → filter p (put_by lt x ys) ≡ cond (p x) (put_by lt x (filter p ys)) (filter p ys)
  filter_put p x [] up = refl
  filter_put p x (y ∷ ys) up = go (lt y x) refl (filter_put p x ys up.1)
    where
      go : (a : Bool) → lt y x ≡ a → filter p (put_by lt x ys) ≡ cond (p x) (put_by lt x (filter p ys)) (filter p ys)
          → filter p (cond a (y ∷ put_by lt x ys) (x ∷ y ∷ ys)) ≡ cond (p x) (put_by lt x (filter p (y ∷ ys))) (filter p (y ∷ ys))
      go true e more = ap (λ l. cond (p y) (y ∷ l) l) more ∙ put_behind (p y) (p x) x y (filter p ys) e
      go false e more = ap (λ l. cond (p x) l (filter p (y ∷ ys))) (sym (put_first x (filter p (y ∷ ys)) (all_filter _ p (y ∷ ys) (none_before x y ys e up.0))))

  -- a filter leaves the sorted list of what it leaves
  pub filter_sorted : (p : X → Bool) (xs : List X) → filter p (sorted_by lt xs) ≡ sorted_by lt (filter p xs)
  filter_sorted p [] = refl
  filter_sorted p (x ∷ xs) =
      filter_put p x (sorted_by lt xs) (sorted_in_order xs)
      ∙ ap (λ l. cond (p x) (put_by lt x l) l) (filter_sorted p xs)
      ∙ elim (p x) as (λ b. cond b (put_by lt x (sorted_by lt (filter p xs))) (sorted_by lt (filter p xs)) ≡ sorted_by lt (cond b (x ∷ filter p xs) (filter p xs))) [ true ↦ refl | false ↦ refl ]
