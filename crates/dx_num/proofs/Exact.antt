-- The rounded quotients are the only numbers that meet their inequalities.
use Prim.Native.Nat.{zero}
use Rattle.std.proofs.Common.{◌≡◌, ◌↔◌, ℕ, suc, ◌^◌, ℤ, pos, negsuc, ◌+ℤ◌, ◌-ℤ◌, ◌*ℤ◌, neg_ℤ, ◌<ℤ◌, ◌≤ℤ◌, unsigned_abs, refl, sym, ap, subst, ◌∙◌, arith}
use Rattle.std.proofs.lemmas.Int.{ints, int_max_is, int_min_is}
use Rattle.std.specs.Int.{int_min}
use Rattle.dx_num.specs.Rounding.{floor_div, ceil_div, trunc_div, clamp, floor_ten, million, ppm_up}
use Rattle.dx_num.specs.Laws.{IsFloor, IsCeiling, IsTruncation, IsNearest}
use Rattle.dx_num.proofs.Integers.{times-plus}
use Rattle.dx_num.proofs.Products.{ten_positive, floor_div-one, floor_ten-up, floor_ten-down}
use Rattle.dx_num.proofs.Quotients.{floor_div-below, floor_div-above, ceil_div-above, ceil_div-below, trunc_div-not_negative, trunc_div-not_positive}

above : (x y : ℤ) → y ≤ℤ x → x ≡ y +ℤ pos (unsigned_abs (x -ℤ y))
above x y h = omega (arith, ints)

-- a positive multiple keeps the order
pub times_more : (m : ℕ) (x y : ℤ) → y ≤ℤ x → (pos m *ℤ y) ≤ℤ (pos m *ℤ x)
times_more m x y h =
    let k = unsigned_abs (x -ℤ y) in
    let e : pos m *ℤ x ≡ (pos m *ℤ y) +ℤ (pos m *ℤ pos k) = ap (λ z. pos m *ℤ z) (above x y h) ∙ times-plus (pos m) y (pos k) in
    omega (arith, ints, e)

times_less_by : (m : ℕ) (x y d : ℤ) → d ≡ x -ℤ y → (pos m *ℤ x) <ℤ (pos m *ℤ y) → x <ℤ y
times_less_by m x y (pos k) e h = absurd (omega (arith, ints, h, times_more m x y (omega (arith, ints, e))))
times_less_by m x y (negsuc k) e h = omega (arith, ints, e)

-- and shows it
pub times_less : (b x y : ℤ) → pos 0 <ℤ b → (b *ℤ x) <ℤ (b *ℤ y) → x <ℤ y
times_less (pos m) x y p h = times_less_by m x y (x -ℤ y) refl h
times_less (negsuc m) x y p h = absurd (omega (arith, ints))

-- a product with one more
pub one_more : (b q : ℤ) → b *ℤ (q +ℤ pos 1) ≡ (b *ℤ q) +ℤ b
one_more b q = let e : b *ℤ pos 1 ≡ b = omega (arith, ints) in omega (arith, ints, times-plus b q (pos 1), e)

one_less : (b q : ℤ) → b *ℤ (q -ℤ pos 1) ≡ (b *ℤ q) -ℤ b
one_less b q =
    let e : b *ℤ ((q -ℤ pos 1) +ℤ pos 1) ≡ (b *ℤ (q -ℤ pos 1)) +ℤ b = one_more b (q -ℤ pos 1) in
    let f : (q -ℤ pos 1) +ℤ pos 1 ≡ q = omega (arith, ints) in
    let g : b *ℤ ((q -ℤ pos 1) +ℤ pos 1) ≡ b *ℤ q = ap (λ z. b *ℤ z) f in
    omega (arith, ints, e, g)

-- two floors are one
floor_same : (a b q f : ℤ) → pos 0 <ℤ b → IsFloor a b q → IsFloor a b f → q ≡ f
floor_same a b q f p h k =
    let l : q <ℤ (f +ℤ pos 1) = times_less b q (f +ℤ pos 1) p (omega (arith, ints, h.at_most, k.next_above)) in
    let g : f <ℤ (q +ℤ pos 1) = times_less b f (q +ℤ pos 1) p (omega (arith, ints, k.at_most, h.next_above)) in
    omega (arith, ints, l, g)

-- two ceilings are one
ceiling_same : (a b q f : ℤ) → pos 0 <ℤ b → IsCeiling a b q → IsCeiling a b f → q ≡ f
ceiling_same a b q f p h k =
    let l : (q -ℤ pos 1) <ℤ f = times_less b (q -ℤ pos 1) f p (omega (arith, ints, h.previous_below, k.at_least)) in
    let g : (f -ℤ pos 1) <ℤ q = times_less b (f -ℤ pos 1) q p (omega (arith, ints, k.previous_below, h.at_least)) in
    omega (arith, ints, l, g)

-- what floor_div gives is a floor
pub floor_div-IsFloor : (a b : ℤ) → pos 0 <ℤ b → IsFloor a b (floor_div a b)
floor_div-IsFloor a b p = record {
  at_most = floor_div-below a b p;
  next_above = omega (arith, ints, floor_div-above a b p, one_more b (floor_div a b));
}

-- what ceil_div gives is a ceiling
pub ceil_div-IsCeiling : (a b : ℤ) → pos 0 <ℤ b → IsCeiling a b (ceil_div a b)
ceil_div-IsCeiling a b p = record {
  at_least = ceil_div-above a b p;
  previous_below = omega (arith, ints, ceil_div-below a b p, one_less b (ceil_div a b));
}

pub floor_exact : (a b q : ℤ) → pos 0 <ℤ b → IsFloor a b q ↔ (q ≡ floor_div a b)
floor_exact a b q p = (λ h. floor_same a b q (floor_div a b) p h (floor_div-IsFloor a b p), λ e. subst (IsFloor a b) (sym e) (floor_div-IsFloor a b p))

pub ceiling_exact : (a b q : ℤ) → pos 0 <ℤ b → IsCeiling a b q ↔ (q ≡ ceil_div a b)
ceiling_exact a b q p = (λ h. ceiling_same a b q (ceil_div a b) p h (ceil_div-IsCeiling a b p), λ e. subst (IsCeiling a b) (sym e) (ceil_div-IsCeiling a b p))

-- a truncation is the floor or the ceiling
truncation_is : (a b q : ℤ) → pos 0 <ℤ b → IsTruncation a b q → q ≡ trunc_div a b
truncation_is (pos n) b q p h = (floor_exact (pos n) b q p).0 (h.floor (omega (arith, ints))) ∙ sym (trunc_div-not_negative (pos n) b p (omega (arith, ints)))
truncation_is (negsuc n) b q p h = (ceiling_exact (negsuc n) b q p).0 (h.ceiling (omega (arith, ints))) ∙ sym (trunc_div-not_positive (negsuc n) b p (omega (arith, ints)))

pub truncation_exact : (a b q : ℤ) → pos 0 <ℤ b → IsTruncation a b q ↔ (q ≡ trunc_div a b)
truncation_exact a b q p = (
  truncation_is a b q p,
  λ e. record {
    floor = λ h. (floor_exact a b q p).1 (e ∙ trunc_div-not_negative a b p h);
    ceiling = λ h. (ceiling_exact a b q p).1 (e ∙ trunc_div-not_positive a b p h);
  },
)

pub scaling_up : (a : ℤ) (n : ℕ) → floor_ten a (pos n) ≡ a *ℤ pos (10 ^ n)
scaling_up a n = floor_ten-up a (pos n) n (omega (arith, ints)) refl

floor_ten_down : (a : ℤ) (n : ℕ) → floor_ten a (neg_ℤ (pos n)) ≡ floor_div a (pos (10 ^ n))
floor_ten_down a zero = floor_ten-up a (pos 0) 0 (omega (arith, ints)) refl ∙ (let e : a *ℤ pos 1 ≡ a = omega (arith, ints) in e) ∙ sym (floor_div-one a)
floor_ten_down a (suc n) = floor_ten-down a (negsuc n) (suc n) (omega (arith, ints)) refl

pub scaling_down : (a q : ℤ) (n : ℕ) → IsFloor a (pos (10 ^ n)) q ↔ (q ≡ floor_ten a (neg_ℤ (pos n)))
scaling_down a q n = rw (floor_ten_down a n) (floor_exact a (pos (10 ^ n)) q (omega (arith, ints, ten_positive n)))

pub parts_ceiling : (v q : ℤ) (ppm : ℕ) → IsCeiling (v *ℤ pos ppm) million q ↔ (q ≡ ppm_up v ppm)
unfolding ppm_up
parts_ceiling v q ppm = ceiling_exact (v *ℤ pos ppm) million q (omega (arith, ints))

pub clamp_nearest : (v low high : ℤ) → low ≤ℤ high → IsNearest v low high (clamp v low high)
clamp_nearest v low high h = record {
  below = λ p. omega (arith, ints, int_max_is low (int_min v high), int_min_is v high);
  within = λ p q. omega (arith, ints, int_max_is low (int_min v high), int_min_is v high);
  above = λ p. omega (arith, ints, int_max_is low (int_min v high), int_min_is v high);
}
