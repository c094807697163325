-- The entries of a finite map: their keys rise, and each has the value that the map has at its key.
use Rattle.std.proofs.Common.{◌≡◌, Bool, true, false, ◌&&◌, cond, List, [], ◌∷◌, refl, ap, ◌∙◌, T}
use Rattle.std.specs.Prelude.{Some, option_map, find}
use Rattle.std.specs.declared.cmp.Ordering.{Ordering}
use Rattle.std.specs.declared.cmp.Ordering.TheVariants.{Less, Equal, Greater}
use Rattle.std.specs.Ordering.{is_eq, is_lt, ordering_reverse}
use Rattle.std.specs.Cmp.{IsTotalOrder, tied_itself}
use Rattle.std.specs.List.{AllByRecursion}
use Rattle.std.specs.List.Sorted.{IsStrictlySortedBy}
use Rattle.std.specs.Map.{keys_of}
use Rattle.std.specs.FinMap.Entries.{is_sorted, below_all}
use Rattle.std.specs.FinMap.{FinMap, get, entries, entries_sorted, get-entries}
use Rattle.std.specs.FinMap as finite
use Rattle.dx_maps.specs.Tables.{first_passing}

front_holds : (a b : Bool) → T (a && b) → T a
front_holds true b h = tt
front_holds false b h = h

back_holds : (a b : Bool) → T (a && b) → T b
back_holds true b h = h
back_holds false b h = absurd h

is_less : (r : Ordering) → T (is_lt r) → r ≡ Less
is_less Less h = refl
is_less Equal h = absurd h
is_less Greater h = absurd h

module _ {K X : Type 0} (R : K → K → Ordering) where
  less_each : (k : K) (es : List (K × X)) → T (below_all R k es) → AllByRecursion (λ y. R k y ≡ Less) (keys_of es)
  less_each k [] h = tt
  less_each k (e ∷ es) h = (is_less (R k e.0) (front_holds _ _ h), less_each k es (back_holds _ _ h))

  rise_sorted : (es : List (K × X)) → T (is_sorted R es) → IsStrictlySortedBy R (keys_of es)
  unfolding IsStrictlySortedBy
  rise_sorted [] h = tt
  rise_sorted (e ∷ es) h = (less_each e.0 es (front_holds _ _ h), rise_sorted es (back_holds _ _ h))

  -- the keys of a finite map rise
  pub keys_rise : (m : FinMap R X) → IsStrictlySortedBy R (keys_of (entries m))
  keys_rise m = rise_sorted (entries m) (entries_sorted m)

-- tests that agree on each element find the same
find_agreed : {E : Type 0} (p q : E → Bool) (es : List E) → AllByRecursion (λ e. p e ≡ q e) es → find p es ≡ find q es
find_agreed p q [] h = refl
find_agreed p q (e ∷ es) h = ap (λ b. cond b (Some e) (find p es)) h.0 ∙ ap (λ o. cond (q e) (Some e) o) (find_agreed p q es h.1)

agreed_each : {E : Type 0} (P Q : E → Type 0) (es : List E) → ((e : E) → P e → Q e) → AllByRecursion P es → AllByRecursion Q es
agreed_each P Q [] f h = tt
agreed_each P Q (e ∷ es) f h = (f e h.0, agreed_each P Q es f h.1)

module _ {K X : Type 0} (R : K → K → Ordering) (total : IsTotalOrder R) where
  found_past : (e : K × X) (es fs : List (K × X)) → AllByRecursion (λ y. R e.0 y ≡ Less) (keys_of fs) → AllByRecursion (λ x. finite.find R x.0 es ≡ Some x.1) fs → AllByRecursion (λ x. finite.find R x.0 (e ∷ es) ≡ Some x.1) fs
  found_past e es [] a h = tt
  found_past e es (x ∷ fs) a h =
      (ap (λ r. cond (is_eq r) (Some e.1) (finite.find R x.0 es)) (total.antisymm x.0 e.0 ∙ ap ordering_reverse a.0) ∙ h.0, found_past e es fs a.1 h.1)

  found_each : (es : List (K × X)) → IsStrictlySortedBy R (keys_of es) → AllByRecursion (λ e. finite.find R e.0 es ≡ Some e.1) es
  unfolding IsStrictlySortedBy
  found_each [] h = tt
  found_each (e ∷ es) h = (ap (λ r. cond (is_eq r) (Some e.1) (finite.find R e.0 es)) (tied_itself total e.0), found_past e es es h.0 (found_each es h.1))

  -- each entry of a finite map has the value that the map has at its key
  pub entries_found : (m : FinMap R X) → AllByRecursion (λ e. get m e.0 ≡ Some e.1) (entries m)
  entries_found m = agreed_each _ _ (entries m) (λ e h. get-entries m e.0 ∙ h) (found_each (entries m) (keys_rise R m))

  -- a test of entries that answers as a test of keys does where the map has the entry
  pub first_by_key : (m : FinMap R X) (passes : K → X → Bool) (test : K → Bool) → ((k : K) (v : X) → get m k ≡ Some v → passes k v ≡ test k) → first_passing passes m ≡ option_map (λ e. e.0) (find (λ e. test e.0) (entries m))
  first_by_key m passes test h =
      ap (option_map (λ e. e.0)) (find_agreed (λ e. passes e.0 e.1) (λ e. test e.0) (entries m) (agreed_each _ _ (entries m) (λ e found. h e.0 e.1 found) (entries_found m)))
