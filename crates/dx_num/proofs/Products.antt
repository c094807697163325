-- Bounds of products, and powers of ten.
use Prim.Native.Nat.{zero}
use Rattle.std.proofs.Common.{◌≡◌, ℕ, suc, ◌*◌, ◌^◌, ◌<◌, ◌≤◌, ℤ, pos, negsuc, ◌-ℤ◌, ◌*ℤ◌, neg_ℤ, ◌<ℤ◌, ◌≤ℤ◌, unsigned_abs, refl, ap, arith}
use Rattle.std.proofs.lemmas.Nat.{mul-lt, mul-le}
use Rattle.std.proofs.lemmas.Int.{ints, unsigned_abs-mul}
use Rattle.std.proofs.Math.Nat.{pow-le-pow_right, one-le-pow, div-le_self}
use Rattle.dx_num.proofs.Quotients.{ceil_div-above, ceil_div-below}
use Rattle.dx_num.specs.Rounding.{floor_div, ceil_div, ppm_up, floor_ten}

-- the magnitude of a product of two numbers whose magnitudes are bounded
pub product_below : (a b : ℤ) (m n : ℕ) → unsigned_abs a < m → unsigned_abs b < n → unsigned_abs (a *ℤ b) < m * n
product_below a b m n p q = omega (arith, unsigned_abs-mul a b, mul-lt (unsigned_abs a) (unsigned_abs b) m n p q)

-- the product of the magnitudes
pub magnitudes_below : (a b : ℤ) (m n k : ℕ) → unsigned_abs a < m → unsigned_abs b < n → m * n ≤ k → unsigned_abs a * unsigned_abs b < k
magnitudes_below a b m n k p q r = omega (arith, mul-lt (unsigned_abs a) (unsigned_abs b) m n p q)

pub ten_positive : (n : ℕ) → 0 < 10 ^ n
ten_positive n = one-le-pow n 10 (omega arith)

pub ten_most : (n k : ℕ) → n ≤ k → 10 ^ n ≤ 10 ^ k
ten_most n k h = pow-le-pow_right {n = 10} (omega arith) h

-- a number times a power of ten of at most six digits
pub pow10_product : (a : ℤ) (n : ℕ) → unsigned_abs a < 2 ^ 96 → n ≤ 6 → unsigned_abs a * 10 ^ n < 2 ^ 127
pow10_product a n p h =
    let k : 10 ^ n ≤ 10 ^ 6 = ten_most n 6 h in
    let l : 10 ^ n < 2 ^ 20 = omega (arith, k) in
    omega (arith, mul-lt (unsigned_abs a) (10 ^ n) (2 ^ 96) (2 ^ 20) p l)

-- a quotient by 1
pub floor_div-one : (a : ℤ) → floor_div a (pos 1) ≡ a
unfolding floor_div
floor_div-one (pos n) = omega (arith, ints)
floor_div-one (negsuc n) = omega (arith, ints)

-- what the two ends of an exponent give
pub floor_ten-up : (a e : ℤ) (n : ℕ) → pos 0 ≤ℤ e → n ≡ unsigned_abs e → floor_ten a e ≡ a *ℤ pos (10 ^ n)
unfolding floor_ten
floor_ten-up a (pos k) n p h = rw h (floor_div-one (a *ℤ pos (10 ^ k)))
floor_ten-up a (negsuc k) n p h = absurd (omega (arith, ints))

pub floor_ten-down : (a e : ℤ) (n : ℕ) → e <ℤ pos 0 → n ≡ unsigned_abs e → floor_ten a e ≡ floor_div a (pos (10 ^ n))
unfolding floor_ten
floor_ten-down a (pos k) n p h = absurd (omega (arith, ints))
floor_ten-down a (negsuc k) n p h = rw h (ap (λ z. floor_div z (pos (10 ^ suc k))) (omega (arith, ints)))

abs_negative : (a : ℤ) → unsigned_abs (neg_ℤ a) ≡ unsigned_abs a
abs_negative (pos zero) = refl
abs_negative (pos (suc n)) = refl
abs_negative (negsuc n) = refl

-- a quotient is no greater than the number
pub floor_div-small : (a b : ℤ) → pos 0 <ℤ b → unsigned_abs (floor_div a b) ≤ unsigned_abs a
unfolding floor_div
floor_div-small (pos n) (pos m) p = omega (arith, ints, div-le_self n m)
floor_div-small (negsuc n) (pos m) p = omega (arith, ints, div-le_self n m)
floor_div-small a (negsuc m) p = absurd (omega (arith, ints))

pub ceil_div-small : (a b : ℤ) → pos 0 <ℤ b → unsigned_abs (ceil_div a b) ≤ unsigned_abs a
unfolding ceil_div
ceil_div-small a b p = omega (arith, ints, floor_div-small (neg_ℤ a) b p, abs_negative a, abs_negative (floor_div (neg_ℤ a) b))

-- parts per million of a number lie between 0 and it
ppm_up-between : (n ppm : ℕ) → ppm ≤ 1_000_000 → (pos 0 ≤ℤ ppm_up (pos n) ppm) × (ppm_up (pos n) ppm ≤ℤ pos n)
unfolding ppm_up
ppm_up-between n ppm h =
    let k : n * ppm ≤ n * 1_000_000 = mul-le n ppm n 1_000_000 (omega arith) h in
    let c = ceil_div (pos (n * ppm)) (pos 1_000_000) in
    let above : pos (n * ppm) ≤ℤ (pos 1_000_000 *ℤ c) = ceil_div-above (pos (n * ppm)) (pos 1_000_000) (omega (arith, ints)) in
    let below : (pos 1_000_000 *ℤ c -ℤ pos 1_000_000) <ℤ pos (n * ppm) = ceil_div-below (pos (n * ppm)) (pos 1_000_000) (omega (arith, ints)) in
    (omega (arith, ints, above), omega (arith, ints, below, k))

pub ppm_up_least : (v : ℤ) (ppm : ℕ) → pos 0 ≤ℤ v → ppm ≤ 1_000_000 → pos 0 ≤ℤ ppm_up v ppm
ppm_up_least (pos n) ppm p h = (ppm_up-between n ppm h).0
ppm_up_least (negsuc n) ppm p h = absurd (omega (arith, ints))

pub ppm_up_most : (v : ℤ) (ppm : ℕ) → pos 0 ≤ℤ v → ppm ≤ 1_000_000 → ppm_up v ppm ≤ℤ v
ppm_up_most (pos n) ppm p h = (ppm_up-between n ppm h).1
ppm_up_most (negsuc n) ppm p h = absurd (omega (arith, ints))
