-- What holds of each node of a list.
use Rattle.std.proofs.Common.{◌≡◌, ◌<◌, ◌≤◌, ◌+◌, ◌==◌, ℕ, zero, suc, false, List, [], ◌∷◌, ◌++◌, map, length, arith, subst, ap, ◌∙◌, refl, Some}
use Rattle.std.specs.Prelude.{slice_get, slice_set, All}
use Rattle.std.specs.List.{AllZip, range_with_len}
use Rattle.std.proofs.lemmas.Bool.Decides.{nat_tests}
use Rattle.std.proofs.lemmas.List.Elements.{All-head, All-tail, All-cons, All-nil}
use Rattle.std.proofs.lemmas.Option.{slice_get_within, get_or_from_slice_get}
use Rattle.dx_node_spec.specs.Node.{Node}

module _ (P : Node → Type 0) where
  -- where one node becomes another that it holds of
  pub all_set : (ps : List Node) (n : ℕ) (p : Node) → All P ps → P p → All P (slice_set ps n p)
  all_set [] n p h g = h
  all_set (q ∷ ps) zero p h g = All-cons P p ps g (All-tail P q ps h)
  all_set (q ∷ ps) (suc n) p h g = All-cons P q (slice_set ps n p) (All-head P q ps h) (all_set ps n p (All-tail P q ps h) g)

  -- at one of them
  pub all_at : (ps : List Node) (n : ℕ) (p : Node) → slice_get ps n ≡ Some p → All P ps → P p
  all_at ps n p e h = subst P (get_or_from_slice_get ps n p p e) (h n p (slice_get_within ps n p e))

  -- where there is one more behind them
  pub all_more : (ps : List Node) (p : Node) → All P ps → P p → All P (ps ++ p ∷ [])
  all_more [] p h g = All-cons P p [] g (All-nil P)
  all_more (q ∷ ps) p h g = All-cons P q (ps ++ p ∷ []) (All-head P q ps h) (all_more ps p (All-tail P q ps h) g)

  -- what holds of a node holds of the one that it becomes, and so of all
  pub all_along : (ps qs : List Node) → AllZip (λ p q. P p → P q) ps qs → All P ps → All P qs
  all_along [] [] z h = h
  all_along [] (q ∷ qs) z h = absurd z
  all_along (p ∷ ps) [] z h = absurd z
  all_along (p ∷ ps) (q ∷ qs) z h = All-cons P q qs (z.0 (All-head P p ps h)) (all_along ps qs z.1 (All-tail P p ps h))

-- what no node changes
pub map_along : {A : Type 0} (f : Node → A) (ps qs : List Node) → AllZip (λ p q. f q ≡ f p) ps qs → map f qs ≡ map f ps
map_along f [] [] z = refl
map_along f [] (q ∷ qs) z = absurd z
map_along f (p ∷ ps) [] z = absurd z
map_along f (p ∷ ps) (q ∷ qs) z = ap (λ x. x ∷ map f qs) z.0 ∙ ap (λ xs. f p ∷ xs) (map_along f ps qs z.1)

module _ (R : Node → Node → Type 0) (same : (p : Node) → R p p) where
  -- each node beside itself
  pub zip_same : (ps : List Node) → AllZip R ps ps
  zip_same [] = tt
  zip_same (p ∷ ps) = (same p, zip_same ps)

  -- where one node becomes another
  pub zip_set : (ps : List Node) (n : ℕ) (p q : Node) → slice_get ps n ≡ Some p → R p q → AllZip R ps (slice_set ps n q)
  zip_set [] n p q e h = tt
  zip_set (x ∷ ps) zero p q e h = let same_one : p ≡ x = cc in (subst (λ y. R y q) same_one h, zip_same ps)
  zip_set (x ∷ ps) (suc n) p q e h = (same x, zip_set ps n p q e h)

-- the numbers of nodes that are numbered from one on
abbrev pub AreNumbered : ℕ → List Node → Type 0
AreNumbered k ps = map (λ p. p.number) ps ≡ range_with_len k (length ps)

-- the first of them has that number, and the others are numbered from the next on
pub first_number : (k : ℕ) (p : Node) (ps : List Node) → AreNumbered k (p ∷ ps) → (p.number ≡ k) × AreNumbered (k + 1) ps
first_number k p ps e = (cc, cc)

-- a node has the number of its place
pub number_at : (ps : List Node) (k n : ℕ) (p : Node) → AreNumbered k ps → slice_get ps n ≡ Some p → p.number ≡ k + n
number_at [] k n p m e = absurd (cc)
number_at (x ∷ ps) k zero p m e =
    let same : p ≡ x = cc in
    let first = (first_number k x ps m).0 in
    let none : k ≡ k + 0 = omega arith in
    ap (λ (y : Node). y.number) same ∙ first ∙ none
number_at (x ∷ ps) k (suc n) p m e =
    let on : k + 1 + n ≡ k + suc n = omega arith in
    number_at ps (k + 1) n p (first_number k x ps m).1 e ∙ on

-- nodes of so few have small numbers
pub all_low : (ps : List Node) (k : ℕ) → AreNumbered k ps → k + length ps ≤ 16 → All (λ p. p.number < 16) ps
all_low [] k m few = All-nil (λ (p : Node). p.number < 16)
all_low (p ∷ ps) k m few =
    let n = first_number k p ps m in
    let own : p.number < 16 = let at = n.0 in omega (arith, at, few) in
    All-cons (λ (p : Node). p.number < 16) p ps own (all_low ps (k + 1) n.1 (omega (arith, few)))

differ : (a b : ℕ) → b < a → (a == b) ≡ false
differ a b h = grind (arith, nat_tests, h)

differ_too : (a b : ℕ) → a < b → (a == b) ≡ false
differ_too a b h = grind (arith, nat_tests, h)

module _ (P Q : Node → Type 0) (m : ℕ) (turned : (p : Node) → (p.number == m) ≡ false → P p → Q p) where
  -- nodes numbered from behind a number on
  pub all_behind : (ps : List Node) (k : ℕ) → AreNumbered k ps → m < k → All P ps → All Q ps
  all_behind [] k e h a = All-nil Q
  all_behind (p ∷ ps) k e h a =
      let n = first_number k p ps e in
      let apart : (p.number == m) ≡ false = ap (λ (x : ℕ). x == m) n.0 ∙ differ k m h in
      All-cons Q p ps (turned p apart (All-head P p ps a)) (all_behind ps (k + 1) n.1 (omega (arith, h)) (All-tail P p ps a))

  -- nodes that have smaller numbers
  pub all_before : (ps : List Node) (k : ℕ) → AreNumbered k ps → k + length ps ≤ m → All P ps → All Q ps
  all_before [] k e h a = All-nil Q
  all_before (p ∷ ps) k e h a =
      let n = first_number k p ps e in
      let apart : (p.number == m) ≡ false = ap (λ (x : ℕ). x == m) n.0 ∙ differ_too k m (omega (arith, h)) in
      All-cons Q p ps (turned p apart (All-head P p ps a)) (all_before ps (k + 1) n.1 (omega (arith, h)) (All-tail P p ps a))

-- what the node of a number becomes, and what each other one has then
pub all_changed : (P Q : Node → Type 0) (ps : List Node) (k n : ℕ) (p q : Node) → AreNumbered k ps → slice_get ps n ≡ Some p
    → ((x : Node) → (x.number == p.number) ≡ false → P x → Q x) → All P ps → Q q → All Q (slice_set ps n q)
all_changed P Q [] k n p q m e f a h = All-nil Q
all_changed P Q (x ∷ ps) k zero p q m e f a h =
    let same : p ≡ x = cc in
    let n = first_number k x ps m in
    let number : p.number ≡ k = ap (λ (y : Node). y.number) same ∙ n.0 in
    All-cons Q q ps h (all_behind P Q p.number f ps (k + 1) n.1 (omega (arith, number)) (All-tail P x ps a))
all_changed P Q (x ∷ ps) k (suc n) p q m e f a h =
    let first = first_number k x ps m in
    let number : p.number ≡ k + suc n = number_at (x ∷ ps) k (suc n) p m e in
    let apart : (x.number == p.number) ≡ false = differ_too x.number p.number (omega (arith, number, first.0)) in
    All-cons Q x (slice_set ps n q) (f x apart (All-head P x ps a)) (all_changed P Q ps (k + 1) n p q first.1 e f (All-tail P x ps a) h)
