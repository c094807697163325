use Rattle.std.proofs.Common.{◌≡◌, ◌≤◌, pos, ◌<ℤ◌, ◌≤ℤ◌, ◌*ℤ◌, unsigned_abs, FitsSigned, sym, ◌∙◌, ap, arith, rules}
use Rattle.std.specs.Int.{w128}
use Rattle.std.proofs.lemmas.Int.{ints, to_z-of_z}
use Rattle.dx_num.specs.Rounding.{floor_div}
use Rattle.dx_num.proofs.Products.{floor_ten-up, floor_ten-down, pow10_product}
use Rattle.dx_num.proofs.scaling.mul_pow10_floor.Goals as goal

pub product-requires : goal.product-requires
product-requires c =
    let fa : FitsSigned w128 c.args.a = c.ranges.a in
    let fp : FitsSigned w128 c.power_of_ten.result = search rules in
    let six : c.unsigned_abs.result ≤ 6 = grind (arith, ints) in
    simp to_z-of_z (rw (c.power_of_ten.ensures.value) (pow10_product c.args.a c.unsigned_abs.result c.requires.small six))

pub returns-then-e-ge0 : goal.returns-then-e-ge0
returns-then-e-ge0 c =
    let fr : FitsSigned w128 c.product.result = search rules in
    let up : pos 0 ≤ℤ c.args.e = grind (arith, ints) in
    let n : c.unsigned_abs.result ≡ unsigned_abs c.args.e = grind (arith, ints, to_z-of_z) in
    let fa : FitsSigned w128 c.args.a = c.ranges.a in
    let fp : FitsSigned w128 c.power_of_ten.result = search rules in
    let e : c.product.result ≡ c.args.a *ℤ c.power_of_ten.result = simp to_z-of_z at c.product.ensures.value in
    simp to_z-of_z (e ∙ ap (λ z. c.args.a *ℤ z) c.power_of_ten.ensures.value ∙ sym (floor_ten-up c.args.a c.args.e _ up n))

pub returns-else-e-ge0 : goal.returns-else-e-ge0
returns-else-e-ge0 c =
    let fr : FitsSigned w128 c.floor_div.result = search rules in
    let down : c.args.e <ℤ pos 0 = grind (arith, ints) in
    let n : c.unsigned_abs-else-e-ge0.result ≡ unsigned_abs c.args.e = grind (arith, ints, to_z-of_z) in
    let fa : FitsSigned w128 c.args.a = c.ranges.a in
    let fp : FitsSigned w128 c.power_of_ten-else-e-ge0.result = search rules in
    let e : c.floor_div.result ≡ floor_div c.args.a c.power_of_ten-else-e-ge0.result = simp to_z-of_z at c.floor_div.ensures.value in
    simp to_z-of_z (e ∙ ap (floor_div c.args.a) c.power_of_ten-else-e-ge0.ensures.value ∙ sym (floor_ten-down c.args.a c.args.e _ down n))
