-- Sums over lists, and over the entries of a finite map.
use Rattle.std.proofs.Common.{◌≡◌, ℕ, ◌+◌, Bool, true, false, cond, ◌&&◌, T, ℤ, pos, ◌+ℤ◌, ◌-ℤ◌, ◌*ℤ◌, List, [], ◌∷◌, ◌++◌, Option, Some, None, refl, ap, ◌∙◌, arith, map, fold, sum_by, ◌<◌, take, get_or, length}
use Rattle.std.proofs.lemmas.Int.{ints}
use Rattle.std.proofs.lemmas.List.{take_more}
use Rattle.std.specs.Option.{option_map_or}
use Rattle.std.specs.Ordering.{is_lt, is_eq}
use Rattle.std.specs.Cmp.{IsTotalOrder}
use Rattle.std.specs.declared.cmp.Ordering.{Ordering}
use Rattle.std.specs.declared.cmp.Ordering.TheVariants.{Less, Equal, Greater}
use Rattle.std.specs.FinMap.{FinMap, find, put, is_sorted, get, insert, entries, entries_sorted, entries-insert, get-entries}
use Rattle.std.specs.FinMap.Entries.{by_order, below_all}
use Rattle.dx_num.specs.Rounding.{int_sum_by}
use Rattle.dx_num.proofs.Integers.{times-plus}

first : (a b : Bool) → T (a && b) → T a
first true b p = tt
first false b p = p

second : (a b : Bool) → T (a && b) → T b
second true b p = p
second false b p = absurd p

less : (o : Ordering) → T (is_lt o) → o ≡ Less
less Less p = refl
less Equal p = absurd p
less Greater p = absurd p

-- the value of an entry, 0 where there is none
abbrev pub old : {X : Type 0} → (X → ℤ) → Option X → ℤ
old f o = option_map_or f o (pos 0)

module _ {K X : Type 0} (R : K → K → Ordering) (o : IsTotalOrder R) where
  -- a key below the first key of a list in order is not found
  find_below : (k : K) (x : K) (es : List (K × X)) → R k x ≡ Less → T (below_all R x es) → find R k es ≡ None
  find_below k x [] p h = refl
  find_below k x (e ∷ es) p h =
      ap (λ r. cond (is_eq r) (Some e.1) (find R k es)) (o.trans k x e.0 p (less _ (first _ _ h))) ∙ find_below k x es p (second _ _ h)

  -- an entry put into a list in order changes a sum by the new value and the old one
  int_sum-put : (f : X → ℤ) (k : K) (v : X) (es : List (K × X)) → T (is_sorted R es)
      → int_sum_by (λ e. f e.1) (put R k v es) +ℤ old f (find R k es) ≡ int_sum_by (λ e. f e.1) es +ℤ f v
  int_sum-put f k v [] h = omega (arith, ints)
  int_sum-put f k v (e ∷ es) h =
      elim (R k e.0) as (λ r. R k e.0 ≡ r → int_sum_by (λ e. f e.1) (by_order r ((k, v) ∷ e ∷ es) ((e.0, v) ∷ es) (e ∷ put R k v es)) +ℤ old f (cond (is_eq r) (Some e.1) (find R k es)) ≡ (f e.1 +ℤ int_sum_by (λ e. f e.1) es) +ℤ f v) [
        | Less ↦ λ p. rw (find_below k e.0 es p (first _ _ h)) (omega (arith, ints))
        | Equal ↦ λ p. omega (arith, ints)
        | Greater ↦ λ p. let i : int_sum_by (λ e. f e.1) (put R k v es) +ℤ old f (find R k es) ≡ int_sum_by (λ e. f e.1) es +ℤ f v = int_sum-put f k v es (second (below_all R e.0 es) (is_sorted R es) h) in omega (arith, ints, i)
      ] refl

  -- the same of a finite map
  pub int_sum-insert : (f : X → ℤ) (m : FinMap R X) (k : K) (v : X)
      → int_sum_by (λ e. f e.1) (entries (insert m k v)) ≡ int_sum_by (λ e. f e.1) (entries m) +ℤ f v -ℤ old f (get m k)
  int_sum-insert f m k v =
      let i = int_sum-put f k v (entries m) (entries_sorted m) in
      rw (entries-insert o m k v, get-entries m k) (omega (arith, ints, i))

add_from : (a b c : ℕ) (s t : ℕ) → s ≡ (a + b) + t → t ≡ c → s ≡ a + (b + c)
add_from a b c s t e f = omega (arith, e, f)

sum_from : {X : Type 0} (f : X → ℕ) (xs : List X) (a : ℕ) → fold (λ n x. n + f x) a xs ≡ a + sum_by f xs
sum_from f [] a = omega arith
sum_from f (x ∷ xs) a =
    let i : fold (λ n x. n + f x) (a + f x) xs ≡ (a + f x) + sum_by f xs = sum_from f xs (a + f x) in
    let j : fold (λ n x. n + f x) (0 + f x) xs ≡ (0 + f x) + sum_by f xs = sum_from f xs (0 + f x) in
    omega (arith, i, j)

-- a sum of natural numbers, from its first
pub sum_by-first : {X : Type 0} (f : X → ℕ) (x : X) (xs : List X) → sum_by f (x ∷ xs) ≡ f x + sum_by f xs
sum_by-first f x xs = let j : fold (λ n x. n + f x) (0 + f x) xs ≡ (0 + f x) + sum_by f xs = sum_from f xs (0 + f x) in omega (arith, j)

put_first : {K X : Type 0} (f : X → ℕ) (k : K) (v : X) (e : K × X) (es : List (K × X)) → sum_by (λ e. f e.1) ((k, v) ∷ e ∷ es) + 0 ≡ sum_by (λ e. f e.1) (e ∷ es) + f v
put_first f k v e es = let i = sum_by-first (λ e. f e.1) (k, v) (e ∷ es) in omega (arith, i)

put_same : {K X : Type 0} (f : X → ℕ) (k : K) (v : X) (e : K × X) (es : List (K × X)) → sum_by (λ e. f e.1) ((e.0, v) ∷ es) + f e.1 ≡ sum_by (λ e. f e.1) (e ∷ es) + f v
put_same f k v e es = let i = sum_by-first (λ e. f e.1) (e.0, v) es in let j = sum_by-first (λ e. f e.1) e es in omega (arith, i, j)

put_later : {K X : Type 0} (f : X → ℕ) (k : K) (v : X) (e : K × X) (es fs : List (K × X)) (n : ℕ) → sum_by (λ e. f e.1) fs + n ≡ sum_by (λ e. f e.1) es + f v → sum_by (λ e. f e.1) (e ∷ fs) + n ≡ sum_by (λ e. f e.1) (e ∷ es) + f v
put_later f k v e es fs n h = let i = sum_by-first (λ e. f e.1) e fs in let j = sum_by-first (λ e. f e.1) e es in omega (arith, i, j, h)

module _ {K X : Type 0} (R : K → K → Ordering) (o : IsTotalOrder R) where
  sum-put : (f : X → ℕ) (k : K) (v : X) (es : List (K × X)) → T (is_sorted R es)
      → sum_by (λ e. f e.1) (put R k v es) + option_map_or f (find R k es) 0 ≡ sum_by (λ e. f e.1) es + f v
  sum-put f k v [] h = omega arith
  sum-put f k v (e ∷ es) h =
      elim (R k e.0) as (λ r. R k e.0 ≡ r → sum_by (λ e. f e.1) (by_order r ((k, v) ∷ e ∷ es) ((e.0, v) ∷ es) (e ∷ put R k v es)) + option_map_or f (cond (is_eq r) (Some e.1) (find R k es)) 0 ≡ sum_by (λ e. f e.1) (e ∷ es) + f v) [
        | Less ↦ λ p. rw (find_below R o k e.0 es p (first _ _ h)) (put_first f k v e es)
        | Equal ↦ λ p. put_same f k v e es
        | Greater ↦ λ p. put_later f k v e es (put R k v es) (option_map_or f (find R k es) 0) (sum-put f k v es (second (below_all R e.0 es) (is_sorted R es) h))
      ] refl

  -- the same of natural numbers
  pub sum-insert : (f : X → ℕ) (m : FinMap R X) (k : K) (v : X)
      → sum_by (λ e. f e.1) (entries (insert m k v)) + option_map_or f (get m k) 0 ≡ sum_by (λ e. f e.1) (entries m) + f v
  sum-insert f m k v = rw (entries-insert o m k v, get-entries m k) (sum-put f k v (entries m) (entries_sorted m))

-- two functions that agree have one sum
pub int_sum-same : {X : Type 0} (f g : X → ℤ) (xs : List X) → ((x : X) → f x ≡ g x) → int_sum_by f xs ≡ int_sum_by g xs
int_sum-same f g [] e = refl
int_sum-same f g (x ∷ xs) e = let i = int_sum-same f g xs e in let h = e x in omega (arith, ints, i, h)

-- a sum over a mapped list
pub int_sum-map : {X Y : Type 0} (f : Y → ℤ) (g : X → Y) (xs : List X) → int_sum_by f (map g xs) ≡ int_sum_by (λ x. f (g x)) xs
int_sum-map f g [] = refl
int_sum-map f g (x ∷ xs) = ap (λ z. f (g x) +ℤ z) (int_sum-map f g xs)

-- a sum over two lists
pub int_sum-append : {X : Type 0} (f : X → ℤ) (xs ys : List X) → int_sum_by f (xs ++ ys) ≡ int_sum_by f xs +ℤ int_sum_by f ys
int_sum-append f [] ys = omega (arith, ints)
int_sum-append f (x ∷ xs) ys = let i = int_sum-append f xs ys in omega (arith, ints, i)

sum_parts : (f a b r s t p q : ℤ) → f ≡ a -ℤ p → r ≡ s -ℤ q → t ≡ p +ℤ q → f +ℤ r ≡ (a +ℤ s) -ℤ t
sum_parts f a b r s t p q e g h = omega (arith, ints)

-- a sum of differences
pub int_sum-less : {X : Type 0} (f g h : X → ℤ) (d : ℤ) (xs : List X) → ((x : X) → f x ≡ g x -ℤ (d *ℤ h x)) → int_sum_by f xs ≡ int_sum_by g xs -ℤ (d *ℤ int_sum_by h xs)
int_sum-less f g h d [] e = omega (arith, ints)
int_sum-less f g h d (x ∷ xs) e =
    sum_parts (f x) (g x) (pos 0) (int_sum_by f xs) (int_sum_by g xs) (d *ℤ (h x +ℤ int_sum_by h xs)) (d *ℤ h x) (d *ℤ int_sum_by h xs) (e x) (int_sum-less f g h d xs e) (times-plus d (h x) (int_sum_by h xs))

-- the sum over a front with one element more
pub int_sum-take_more : {X : Type 0} (f : X → ℤ) (xs : List X) (i : ℕ) (d : X) → i < length xs → int_sum_by f (take (i + 1) xs) ≡ int_sum_by f (take i xs) +ℤ f (get_or xs i d)
int_sum-take_more f xs i d h =
    let e : int_sum_by f (take i xs ++ get_or xs i d ∷ []) ≡ int_sum_by f (take i xs) +ℤ int_sum_by f (get_or xs i d ∷ []) = int_sum-append f (take i xs) (get_or xs i d ∷ []) in
    rw (take_more xs i d h) (omega (arith, ints, e))

-- a running sum goes on by one element
pub sum_step : {X : Type 0} (f : X → ℤ) (sum part next : ℤ) (xs : List X) (i : ℕ) (d : X) → i < length xs → sum ≡ int_sum_by f (take i xs) → next ≡ sum +ℤ part → part ≡ f (get_or xs i d) → next ≡ int_sum_by f (take (i + 1) xs)
sum_step f sum part next xs i d h s n p = omega (arith, ints, int_sum-take_more f xs i d h, s, n, p)

-- and one that began with a number
pub sum_step_from : {X : Type 0} (f : X → ℤ) (q sum part next : ℤ) (xs : List X) (i : ℕ) (d : X) → i < length xs → sum ≡ q +ℤ int_sum_by f (take i xs) → next ≡ sum +ℤ part → part ≡ f (get_or xs i d) → next ≡ q +ℤ int_sum_by f (take (i + 1) xs)
sum_step_from f q sum part next xs i d h s n p = omega (arith, ints, int_sum-take_more f xs i d h, s, n, p)
