use Rattle.std.proofs.Common.{◌<◌, length, rules, sym, ◌∙◌}
use Rattle.dx_spec.specs.Operations.{deleveraging_offset}
use Rattle.dx_operations.proofs.Standing.{keeps_on}
use Rattle.dx_operations.proofs.Turns.{turn}
use Rattle.dx_operations.proofs.delevering.offset_all.Goals as goal

pub loop-number-preserved : goal.loop-number-preserved
loop-number-preserved g c =
    let h : c.loop-number.number < length c.args.offsets.now = search rules in
    record {
      steady = c.in_ok-offset_at.ensures.steady;
      midway = keeps_on _ _ _ c.loop-number.invariant.midway c.in_ok-offset_at.ensures.midway;
      made =
          sym (turn (deleveraging_offset c.args.who c.args.market) c.loop-number.number c.args.offsets.now _ _ _ h c.in_ok-offset_at.ensures.ok)
          ∙ c.loop-number.invariant.made;
      marks = λ k m. let i = c.loop-number.invariant.marks k m in let j = c.offset_at.ensures.marks k i.0 in (j.0, j.1 ∙ i.1);
      beside = c.offset_at.ensures.beside ∙ c.loop-number.invariant.beside;
    }
