-- How a rounded quotient grows with its number.
use Prim.Native.Nat.{zero}
use Rattle.std.proofs.Common.{◌≡◌, ℕ, suc, ◌+◌, ◌*◌, ◌/◌, ◌^◌, ◌≤◌, ℤ, pos, negsuc, ◌+ℤ◌, ◌-ℤ◌, ◌*ℤ◌, neg_ℤ, ◌<ℤ◌, ◌≤ℤ◌, unsigned_abs, refl, ap, ◌∙◌, arith}
use Rattle.std.proofs.lemmas.Nat.{mul-le}
use Rattle.std.proofs.lemmas.Int.{ints, unsigned_abs-mul}
use Rattle.std.proofs.Math.Nat.{zero-div, div-zero, le-div_iff_mul-le, div-mul-le_self}
use Rattle.std.proofs.Math.IntN.{*ℤ_comm}
use Rattle.dx_num.specs.Rounding.{floor_div, ceil_div, floor_ten, million, ppm_up}
use Rattle.dx_num.proofs.Exact.{times_more, times_less, one_more, floor_div-IsFloor, ceil_div-IsCeiling}
use Rattle.dx_num.proofs.Quotients.{mul_negative}

-- a greater number has no less a quotient
pub more_over : (n m d : ℕ) → n ≤ m → n / d ≤ m / d
more_over n m zero h = omega (arith, div-zero n, div-zero m)
more_over n m (suc d) h =
    let k : n / suc d * suc d ≤ m = omega (arith, div-mul-le_self n (suc d)) in
    (le-div_iff_mul-le {k = suc d} {x = n / suc d} {y = m} (omega arith)).1 k

-- a number that is at most 0 and nearer to it has the nearer floor
pub floor_nearer : (z w : ℤ) (d : ℕ) → z ≤ℤ pos 0 → w ≤ℤ pos 0 → unsigned_abs z ≤ unsigned_abs w → unsigned_abs (floor_div z (pos d)) ≤ unsigned_abs (floor_div w (pos d))
unfolding floor_div
floor_nearer (pos zero) w d p q h = omega (arith, zero-div d)
floor_nearer (pos (suc n)) w d p q h = absurd (omega (arith, ints))
floor_nearer (negsuc n) (pos m) d p q h = absurd (omega (arith, ints))
floor_nearer (negsuc n) (negsuc m) d p q h = omega (arith, ints, more_over n m d (omega (arith, ints)))

-- so has a number that is at least 0
pub floor_up_nearer : (n m d : ℕ) → n ≤ m → unsigned_abs (floor_div (pos n) (pos d)) ≤ unsigned_abs (floor_div (pos m) (pos d))
unfolding floor_div
floor_up_nearer n m d h = more_over n m d h

-- the floor of any number, by that of a number of no less a magnitude
pub floor_mirror : (z : ℤ) (m d : ℕ) → unsigned_abs z ≤ m → unsigned_abs (floor_div z (pos d)) ≤ unsigned_abs (floor_div (pos m) (pos d)) + 1
unfolding floor_div
floor_mirror (pos n) m d h = omega (arith, more_over n m d h)
floor_mirror (negsuc n) m d h = omega (arith, ints, more_over n m d (omega (arith, ints)))

-- a power of ten as a product over a number
pub record Scale (e : ℤ) : Type 0 where
  pub up : ℕ
  pub down : ℕ
  pub is : (a : ℤ) → floor_ten a e ≡ floor_div (a *ℤ pos up) (pos down)

pub scale : (e : ℤ) → Scale e
unfolding floor_ten
scale (pos n) = record { up = 10 ^ n; down = 1; is = λ a. refl }
scale (negsuc n) = record { up = 1; down = 10 ^ suc n; is = λ a. refl }

-- a product keeps the sign of its first factor
pub times_not_positive : (z : ℤ) (k : ℕ) → z ≤ℤ pos 0 → (z *ℤ pos k) ≤ℤ pos 0
times_not_positive (pos zero) k h = omega (arith, ints)
times_not_positive (pos (suc n)) k h = absurd (omega (arith, ints))
times_not_positive (negsuc n) k h = omega (arith, ints)

-- the magnitude of a product of three
pub abs_times : (z : ℤ) (p k : ℕ) → unsigned_abs ((z *ℤ pos p) *ℤ pos k) ≡ unsigned_abs z * p * k
abs_times z p k = unsigned_abs-mul (z *ℤ pos p) (pos k) ∙ ap (λ n. n * k) (unsigned_abs-mul z (pos p))

-- a product of three grows with its first factor
pub more_times : (n t p k : ℕ) → n ≤ t → n * p * k ≤ t * p * k
more_times n t p k h = mul-le (n * p) k (t * p) k (mul-le n p t p h (omega arith)) (omega arith)

-- the floor grows with its number
pub floor_div-more : (a c b : ℤ) → pos 0 <ℤ b → a ≤ℤ c → floor_div a b ≤ℤ floor_div c b
floor_div-more a c b p h =
    let i = floor_div-IsFloor a b p in
    let j = floor_div-IsFloor c b p in
    let l : floor_div a b <ℤ (floor_div c b +ℤ pos 1) = times_less b (floor_div a b) (floor_div c b +ℤ pos 1) p (omega (arith, ints, h, i.at_most, j.next_above)) in
    omega (arith, ints, l)

-- so does the ceiling
pub ceil_div-more : (a c b : ℤ) → pos 0 <ℤ b → a ≤ℤ c → ceil_div a b ≤ℤ ceil_div c b
ceil_div-more a c b p h =
    let i = ceil_div-IsCeiling a b p in
    let j = ceil_div-IsCeiling c b p in
    let l : (ceil_div a b -ℤ pos 1) <ℤ ceil_div c b = times_less b (ceil_div a b -ℤ pos 1) (ceil_div c b) p (omega (arith, ints, h, i.previous_below, j.at_least)) in
    omega (arith, ints, l)

-- and parts per million
pub ppm_up-more : (v w : ℤ) (ppm : ℕ) → v ≤ℤ w → ppm_up v ppm ≤ℤ ppm_up w ppm
unfolding ppm_up
ppm_up-more v w ppm h =
    let k : (pos ppm *ℤ v) ≤ℤ (pos ppm *ℤ w) = times_more ppm w v h in
    ceil_div-more (v *ℤ pos ppm) (w *ℤ pos ppm) million (omega (arith, ints)) (rw (*ℤ_comm v (pos ppm), *ℤ_comm w (pos ppm)) k)

-- a part of a number, rounded down, is no greater than the number
pub part_within : (t d m : ℤ) → pos 0 <ℤ m → pos 0 ≤ℤ d → d ≤ℤ m → unsigned_abs (floor_div (t *ℤ d) m) ≤ unsigned_abs t
part_within (pos n) d m p l h =
    let f = floor_div (pos n *ℤ d) m in
    let i = floor_div-IsFloor (pos n *ℤ d) m p in
    let most : (pos n *ℤ d) ≤ℤ (m *ℤ pos n) = rw (*ℤ_comm m (pos n)) (times_more n m d h) in
    let least : (pos n *ℤ pos 0) ≤ℤ (pos n *ℤ d) = times_more n d (pos 0) l in
    let next : m *ℤ (pos n +ℤ pos 1) ≡ (m *ℤ pos n) +ℤ m = one_more m (pos n) in
    let above : f <ℤ (pos n +ℤ pos 1) = times_less m f (pos n +ℤ pos 1) p (omega (arith, ints, i.at_most, most, next)) in
    let below : pos 0 <ℤ (f +ℤ pos 1) = times_less m (pos 0) (f +ℤ pos 1) p (omega (arith, ints, i.next_above, least)) in
    omega (arith, ints, above, below)
part_within (negsuc n) (pos k) (pos j) p l h =
    let t = pos (suc n) in
    let a = negsuc n *ℤ pos k in
    let f = floor_div a (pos j) in
    let i = floor_div-IsFloor a (pos j) p in
    let number : a ≡ neg_ℤ (t *ℤ pos k) = *ℤ_comm (negsuc n) (pos k) ∙ mul_negative k t ∙ ap neg_ℤ (*ℤ_comm (pos k) t) in
    let whole : pos j *ℤ negsuc n ≡ neg_ℤ (t *ℤ pos j) = mul_negative j t ∙ ap neg_ℤ (*ℤ_comm (pos j) t) in
    let most : (t *ℤ pos k) ≤ℤ (t *ℤ pos j) = times_more (suc n) (pos j) (pos k) h in
    let least : (t *ℤ pos 0) ≤ℤ (t *ℤ pos k) = times_more (suc n) (pos k) (pos 0) l in
    let one : pos j *ℤ pos 1 ≡ pos j = omega (arith, ints) in
    let above : negsuc n <ℤ (f +ℤ pos 1) = times_less (pos j) (negsuc n) (f +ℤ pos 1) p (omega (arith, ints, i.next_above, number, whole, most)) in
    let below : f <ℤ pos 1 = times_less (pos j) f (pos 1) p (omega (arith, ints, p, one, i.at_most, number, least)) in
    omega (arith, ints, above, below)
part_within (negsuc n) (negsuc k) m p l h = absurd (omega (arith, ints))
part_within (negsuc n) d (negsuc j) p l h = absurd (omega (arith, ints))
