-- What the rounded numbers are, said without a quotient of the library.
use Rattle.std.specs.Prelude.{◌≡◌, ◌↔◌, ℕ, ◌^◌, ℤ, pos, ◌+ℤ◌, ◌-ℤ◌, ◌*ℤ◌, neg_ℤ, ◌<ℤ◌, ◌≤ℤ◌}
use Rattle.dx_num.specs.Rounding.{floor_div, ceil_div, trunc_div, clamp, floor_ten, million, ppm_up}

-- the greatest whole number that is not above a / b
pub record IsFloor (a b q : ℤ) : Type 0 where
  pub at_most : (b *ℤ q) ≤ℤ a
  pub next_above : a <ℤ (b *ℤ (q +ℤ pos 1))

-- the least whole number that is not below a / b
pub record IsCeiling (a b q : ℤ) : Type 0 where
  pub at_least : a ≤ℤ (b *ℤ q)
  pub previous_below : (b *ℤ (q -ℤ pos 1)) <ℤ a

-- the floor from zero up, the ceiling from zero down
pub record IsTruncation (a b q : ℤ) : Type 0 where
  pub floor : pos 0 ≤ℤ a → IsFloor a b q
  pub ceiling : a ≤ℤ pos 0 → IsCeiling a b q

-- the nearest number to v from low to high
pub record IsNearest (v low high c : ℤ) : Type 0 where
  pub below : v ≤ℤ low → c ≡ low
  pub within : low ≤ℤ v → v ≤ℤ high → c ≡ v
  pub above : high ≤ℤ v → c ≡ high

-- by a positive number the floor is what floor_div is, and nothing else
abbrev pub FloorIsExact : Type 0
FloorIsExact = (a b q : ℤ) → pos 0 <ℤ b → IsFloor a b q ↔ (q ≡ floor_div a b)

-- the ceiling is ceil_div
abbrev pub CeilingIsExact : Type 0
CeilingIsExact = (a b q : ℤ) → pos 0 <ℤ b → IsCeiling a b q ↔ (q ≡ ceil_div a b)

-- the truncation is trunc_div
abbrev pub TruncationIsExact : Type 0
TruncationIsExact = (a b q : ℤ) → pos 0 <ℤ b → IsTruncation a b q ↔ (q ≡ trunc_div a b)

-- by a power of ten that is not negative nothing is rounded
abbrev pub ScalingUpIsExact : Type 0
ScalingUpIsExact = (a : ℤ) (n : ℕ) → floor_ten a (pos n) ≡ a *ℤ pos (10 ^ n)

-- by one that is not positive the quotient is rounded down
abbrev pub ScalingDownIsFloor : Type 0
ScalingDownIsFloor = (a q : ℤ) (n : ℕ) → IsFloor a (pos (10 ^ n)) q ↔ (q ≡ floor_ten a (neg_ℤ (pos n)))

-- parts per million are rounded up
abbrev pub PartsAreCeiling : Type 0
PartsAreCeiling = (v q : ℤ) (ppm : ℕ) → IsCeiling (v *ℤ pos ppm) million q ↔ (q ≡ ppm_up v ppm)

-- clamp is the nearest number between two
abbrev pub ClampIsNearest : Type 0
ClampIsNearest = (v low high : ℤ) → low ≤ℤ high → IsNearest v low high (clamp v low high)
