-- Laws of whole numbers that the library lacks.
use Rattle.std.proofs.Common.{◌≡◌, zero, suc, ℤ, pos, negsuc, ◌+ℤ◌, ◌-ℤ◌, ◌*ℤ◌, neg_ℤ, ap, ◌∙◌, arith}
use Rattle.std.proofs.lemmas.Int.{ints}
use Rattle.std.proofs.Math.IntN.{suc_ℤ-*ℤ, pred_ℤ-*ℤ, *ℤ_comm}

-- a product over a sum
pub times-plus : (d x y : ℤ) → d *ℤ (x +ℤ y) ≡ (d *ℤ x) +ℤ (d *ℤ y)
times-plus (pos zero) x y = omega (arith, ints)
times-plus (pos (suc n)) x y =
    let i : pos n *ℤ (x +ℤ y) ≡ (pos n *ℤ x) +ℤ (pos n *ℤ y) = times-plus (pos n) x y in
    let a : pos (suc n) *ℤ (x +ℤ y) ≡ (pos n *ℤ (x +ℤ y)) +ℤ (x +ℤ y) = suc_ℤ-*ℤ (pos n) (x +ℤ y) in
    let b : pos (suc n) *ℤ x ≡ (pos n *ℤ x) +ℤ x = suc_ℤ-*ℤ (pos n) x in
    let c : pos (suc n) *ℤ y ≡ (pos n *ℤ y) +ℤ y = suc_ℤ-*ℤ (pos n) y in
    rw (a, b, c) (omega (arith, ints, i))
times-plus (negsuc zero) x y = omega (arith, ints)
times-plus (negsuc (suc n)) x y =
    let i : negsuc n *ℤ (x +ℤ y) ≡ (negsuc n *ℤ x) +ℤ (negsuc n *ℤ y) = times-plus (negsuc n) x y in
    let a : negsuc (suc n) *ℤ (x +ℤ y) ≡ (negsuc n *ℤ (x +ℤ y)) -ℤ (x +ℤ y) = pred_ℤ-*ℤ (negsuc n) (x +ℤ y) in
    let b : negsuc (suc n) *ℤ x ≡ (negsuc n *ℤ x) -ℤ x = pred_ℤ-*ℤ (negsuc n) x in
    let c : negsuc (suc n) *ℤ y ≡ (negsuc n *ℤ y) -ℤ y = pred_ℤ-*ℤ (negsuc n) y in
    rw (a, b, c) (omega (arith, ints, i))

regroup : (p q r : ℤ) → r ≡ p +ℤ q → neg_ℤ r ≡ neg_ℤ q -ℤ p
regroup p q r e = omega (arith, ints)

apart : (x i j : ℤ) → x -ℤ j ≡ (x -ℤ i) +ℤ (i -ℤ j)
apart x i j = omega (arith, ints)

-- a product with a difference, at another number: what a size is owed when its index moves from i to x
pub owed_moved : (x i j s : ℤ) → neg_ℤ ((x -ℤ j) *ℤ s) ≡ neg_ℤ ((i -ℤ j) *ℤ s) -ℤ (s *ℤ (x -ℤ i))
owed_moved x i j s =
    regroup (s *ℤ (x -ℤ i)) ((i -ℤ j) *ℤ s) ((x -ℤ j) *ℤ s)
    (*ℤ_comm (x -ℤ j) s ∙ ap (λ z. s *ℤ z) (apart x i j) ∙ times-plus s (x -ℤ i) (i -ℤ j) ∙ ap (λ z. (s *ℤ (x -ℤ i)) +ℤ z) (*ℤ_comm s (i -ℤ j)))

-- a product with 0 taken away
pub less_nothing : (w d z : ℤ) → z ≡ pos 0 → w -ℤ (d *ℤ z) ≡ w
less_nothing w d z e = rw e (omega (arith, ints))

-- a number added and taken away
pub sum_same : (a b c : ℤ) → b ≡ c → a +ℤ b -ℤ c ≡ a
sum_same a b c e = omega (arith, ints)
