use Rattle.std.proofs.Common.{pos, ◌+ℤ◌, ◌<ℤ◌, ◌≤ℤ◌, int_div, int_rem, FitsSigned, sym, arith, rules}
use Rattle.std.specs.Int.{w128}
use Rattle.std.proofs.lemmas.Int.{ints, to_z-of_z, quot_fits}
use Rattle.dx_num.proofs.Products.{ceil_div-small}
use Rattle.dx_num.proofs.Quotients.{ceil_div-positive, ceil_div-not_positive}
use Rattle.dx_num.proofs.division.ceil_div.Goals as goal

pub returns-then-a-b-gt0 : goal.returns-then-a-b-gt0
returns-then-a-b-gt0 c =
    let a = c.args.a in
    let b = c.args.b in
    let fa : FitsSigned w128 a = c.ranges.a in
    let fb : FitsSigned w128 b = c.ranges.b in
    let fq : FitsSigned w128 (int_div a b) = quot_fits w128 a b fa c.requires in
    let positive : pos 0 <ℤ int_rem a b = grind (arith, ints, to_z-of_z) in
    let fs : FitsSigned w128 (int_div a b +ℤ pos 1) = search rules in
    let e = sym (ceil_div-positive a b c.requires positive) in
    simp to_z-of_z (record { value = e; small = rw e (ceil_div-small a b c.requires) })

pub returns-else-a-b-gt0 : goal.returns-else-a-b-gt0
returns-else-a-b-gt0 c =
    let a = c.args.a in
    let b = c.args.b in
    let fa : FitsSigned w128 a = c.ranges.a in
    let fb : FitsSigned w128 b = c.ranges.b in
    let fq : FitsSigned w128 (int_div a b) = quot_fits w128 a b fa c.requires in
    let rest : int_rem a b ≤ℤ pos 0 = grind (arith, ints, to_z-of_z) in
    let e = sym (ceil_div-not_positive a b c.requires rest) in
    simp to_z-of_z (record { value = e; small = rw e (ceil_div-small a b c.requires) })
