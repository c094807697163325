-- Rising numbers: a list of them that lies in another one is not longer.
use Rattle.std.proofs.Common.{◌≡◌, ℕ, zero, suc, ◌+◌, ◌<◌, ◌≤◌, Bool, true, false, ◌==◌, List, [], ◌∷◌, length, refl, sym, subst, arith}
use Rattle.std.specs.Prelude.{◌||◌}
use Rattle.std.specs.List.{AllByRecursion}
use Rattle.std.proofs.lemmas.Bool.{eqb-true}
use Rattle.std.proofs.lemmas.Bool.Decides.{nat_tests}

-- whether a number is in a list
abbrev pub is_in : ℕ → List ℕ → Bool
is_in h [] = false
is_in h (x ∷ xs) = (h == x) || is_in h xs

-- each is above the one before it, and the first is not below a number
abbrev pub Rises : ℕ → List ℕ → Type 0
Rises low [] = Unit {0}
Rises low (x ∷ xs) = (low ≤ x) × Rises (x + 1) xs

-- so many numbers from one on, and a last one
abbrev pub up_to : ℕ → ℕ → ℕ → List ℕ
up_to from zero last = last ∷ []
up_to from (suc more) last = from ∷ up_to (from + 1) more last

-- a number is itself
pub itself : (n : ℕ) → (n == n) ≡ true
itself n = grind (arith, nat_tests)

above : (low h : ℕ) → low ≤ h → (h == low) ≡ false → low + 1 ≤ h
above low h le e = grind (arith, nat_tests)

or_first : (t b : Bool) → t ≡ true → (t || b) ≡ true
or_first true b e = refl
or_first false b e = absurd (cc)

or_later : (t b : Bool) → b ≡ true → (t || b) ≡ true
or_later true b e = refl
or_later false b e = e

-- what is in rising numbers is not below them
in_low : (h : ℕ) (xs : List ℕ) (low : ℕ) → Rises low xs → is_in h xs ≡ true → low ≤ h
in_low h [] low r e = absurd (cc)
in_low h (x ∷ xs) low r e = go (h == x) refl e (in_low h xs (x + 1) r.1)
  where
    go : (t : Bool) → (h == x) ≡ t → (t || is_in h xs) ≡ true → (is_in h xs ≡ true → x + 1 ≤ h) → low ≤ h
    go true i f later = let same = eqb-true h x i in let first = r.0 in omega (arith, same, first)
    go false i f later = let more = later f in let first = r.0 in omega (arith, more, first)

-- numbers above the first one that are in a list are in the rest of it
past_first : (x low : ℕ) (ys xs : List ℕ) → x < low → Rises low ys → AllByRecursion (λ y. is_in y (x ∷ xs) ≡ true) ys → AllByRecursion (λ y. is_in y xs ≡ true) ys
past_first x low [] xs lt r h = tt
past_first x low (y ∷ ys) xs lt r h = (go (y == x) refl h.0, past_first x (y + 1) ys xs (let first = r.0 in omega (arith, lt, first)) r.1 h.1)
  where
    go : (t : Bool) → (y == x) ≡ t → (t || is_in y xs) ≡ true → is_in y xs ≡ true
    go true i e = absurd (let same = eqb-true y x i in let first = r.0 in omega (arith, same, first, lt))
    go false i e = e

-- rising numbers that are all in a list of rising numbers are not more than these
pub not_more : (xs ys : List ℕ) (a b : ℕ) → Rises a xs → Rises b ys → AllByRecursion (λ y. is_in y xs ≡ true) ys → length ys ≤ length xs
not_more [] [] a b r q h = omega arith
not_more (x ∷ xs) [] a b r q h = omega arith
not_more [] (y ∷ ys) a b r q h = absurd (let e : false ≡ true = h.0 in cc)
not_more (x ∷ xs) (y ∷ ys) a b r q h =
    go (y == x) refl h.0 (not_more xs ys (x + 1) (y + 1) r.1 q.1) (not_more xs (y ∷ ys) (x + 1) y r.1 (omega arith, q.1))
  where
    go : (t : Bool) → (y == x) ≡ t → (t || is_in y xs) ≡ true
        → (AllByRecursion (λ z. is_in z xs ≡ true) ys → length ys ≤ length xs)
        → (AllByRecursion (λ z. is_in z xs ≡ true) (y ∷ ys) → length (y ∷ ys) ≤ length xs) → length (y ∷ ys) ≤ length (x ∷ xs)
    go true i e less all = let same = eqb-true y x i in let few = less (past_first x (y + 1) ys xs (omega (arith, same)) q.1 h.1) in omega (arith, few)
    go false i e less all =
        let low = in_low y xs (x + 1) r.1 e in
        let few = all (e, past_first x (y + 1) ys xs (omega (arith, low)) q.1 h.1) in
        omega (arith, few)

-- what holds of each number that is in a list
pub each_in : (P : ℕ → Type 0) (xs : List ℕ) → ((h : ℕ) → is_in h xs ≡ true → P h) → AllByRecursion P xs
each_in P [] f = tt
each_in P (x ∷ xs) f =
    (f x (or_first (x == x) (is_in x xs) (itself x)), each_in P xs (λ h e. f h (or_later (h == x) (is_in h xs) e)))

-- ---- numbers one after the other

pub rises_up : (from more last : ℕ) → from + more ≤ last → Rises from (up_to from more last)
rises_up from zero last h = (omega (arith, h), tt)
rises_up from (suc more) last h = (omega arith, rises_up (from + 1) more last (omega (arith, h)))

pub length_up : (from more last : ℕ) → length (up_to from more last) ≡ more + 1
length_up from zero last = omega arith
length_up from (suc more) last = let rest = length_up (from + 1) more last in omega (arith, rest)

pub each_up : (P : ℕ → Type 0) (from more last : ℕ) → ((h : ℕ) → from ≤ h → h < from + more → P h) → P last → AllByRecursion P (up_to from more last)
each_up P from zero last f z = (z, tt)
each_up P from (suc more) last f z =
    (f from (omega arith) (omega arith), each_up P (from + 1) more last (λ h low high. f h (omega (arith, low)) (omega (arith, high))) z)

in_last : (from more last : ℕ) → is_in last (up_to from more last) ≡ true
in_last from zero last = or_first (last == last) false (itself last)
in_last from (suc more) last = or_later (last == from) (is_in last (up_to (from + 1) more last)) (in_last (from + 1) more last)

in_up : (h from more last : ℕ) → from ≤ h → h < from + more → is_in h (up_to from more last) ≡ true
in_up h from zero last low high = absurd (omega (arith, low, high))
in_up h from (suc more) last low high = go (h == from) refl (in_up h (from + 1) more last)
  where
    go : (t : Bool) → (h == from) ≡ t → (from + 1 ≤ h → h < from + 1 + more → is_in h (up_to (from + 1) more last) ≡ true) → (t || is_in h (up_to (from + 1) more last)) ≡ true
    go true i rest = refl
    go false i rest = let past = above from h low i in rest past (omega (arith, high))

-- each number up to one is in the list of them
pub in_all : (h most : ℕ) → h ≤ most → is_in h (up_to 0 most most) ≡ true
in_all h most le = go (h == most) refl
  where
    below : (n m : ℕ) → n ≤ m → (n == m) ≡ false → n < 0 + m
    below n m l e = grind (arith, nat_tests)

    go : (t : Bool) → (h == most) ≡ t → is_in h (up_to 0 most most) ≡ true
    go true i = let same = eqb-true h most i in subst (λ (k : ℕ). is_in k (up_to 0 most most) ≡ true) (sym same) (in_last 0 most most)
    go false i = in_up h 0 most most (omega arith) (below h most le i)
