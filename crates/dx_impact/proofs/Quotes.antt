-- What an amount costs is not negative, and the powers of ten of a conversion.
use Prim.Native.Nat.{zero}
use Rattle.std.proofs.Common.{◌≡◌, ℕ, suc, ◌*◌, ◌^◌, ◌<◌, ◌≤◌, ℤ, pos, negsuc, ◌*ℤ◌, ◌≤ℤ◌, unsigned_abs, refl, arith}
use Rattle.std.proofs.lemmas.Int.{ints}
use Rattle.dx_types.specs.declared.MarketParams.{MarketParams}
use Rattle.dx_num.specs.Rounding.{floor_div, floor_ten, ten_up, ten_down}
use Rattle.dx_num.proofs.Products.{ten_most}
use Rattle.dx_spec.specs.Margin.{quote}

-- a floor of a number that is not negative is none
floor_again : (n : ℕ) (e : ℤ) → pos (unsigned_abs (floor_ten (pos n) e)) ≡ floor_ten (pos n) e
unfolding floor_ten floor_div
floor_again n (pos k) = refl
floor_again n (negsuc k) = refl

-- so is a quote
pub quote_again : (p : MarketParams) (subticks amount : ℕ) → pos (unsigned_abs (quote p subticks amount)) ≡ quote p subticks amount
unfolding quote
quote_again p subticks amount = floor_again (amount * subticks) p.conversion

-- what a power divides by, where it does not multiply
pub ten_down_is : (e : ℤ) → e ≤ℤ pos 0 → pos (10 ^ unsigned_abs e) ≡ ten_down e
ten_down_is (pos zero) h = refl
ten_down_is (pos (suc n)) h = absurd (omega (arith, ints))
ten_down_is (negsuc n) h = refl

-- then it multiplies by 1
pub ten_up_is : (e x : ℤ) → e ≤ℤ pos 0 → x ≡ x *ℤ ten_up e
ten_up_is (pos zero) x h = omega (arith, ints)
ten_up_is (pos (suc n)) x h = absurd (omega (arith, ints))
ten_up_is (negsuc n) x h = omega (arith, ints)

-- a power of at most twelve digits
pub ten_small : (n : ℕ) → n ≤ 12 → 10 ^ n < 2 ^ 40
ten_small n h = let k : 10 ^ n ≤ 10 ^ 12 = ten_most n 12 h in omega (arith, k)
