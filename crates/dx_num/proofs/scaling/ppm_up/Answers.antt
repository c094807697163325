use Rattle.std.proofs.Common.{◌≡◌, pos, ◌*ℤ◌, FitsSigned, ◌∙◌, ap, arith, rules}
use Rattle.std.specs.Int.{w128}
use Rattle.std.proofs.lemmas.Int.{ints, to_z-of_z}
use Rattle.dx_num.specs.Rounding.{ceil_div, ppm_up, million}
use Rattle.dx_num.proofs.Products.{ppm_up_least}
use Rattle.dx_num.proofs.scaling.ppm_up.Goals as goal

pub returns-clause-least : goal.returns-clause-least
unfolding ppm_up
returns-clause-least c =
    let fv : FitsSigned w128 c.args.v = c.ranges.v in
    let fp : FitsSigned w128 c.product.result = search rules in
    let fr : FitsSigned w128 c.ceil_div.result = search rules in
    let p : c.product.result ≡ c.args.v *ℤ pos c.args.ppm = grind (arith, ints, to_z-of_z) in
    let e : c.ceil_div.result ≡ ceil_div c.product.result million = grind (arith, ints, to_z-of_z) in
    let r : c.ceil_div.result ≡ ppm_up c.args.v c.args.ppm = e ∙ ap (λ z. ceil_div z million) p in
    omega (arith, ints, r, ppm_up_least c.args.v c.args.ppm c.requires.not_negative c.requires.parts)
