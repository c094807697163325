use Rattle.std.proofs.Common.{◌+◌, ◌≤◌, length, drop, refl, sym, ◌∙◌, arith}
use Rattle.std.proofs.lemmas.List.{drop_all}
use Rattle.dx_match.specs.Sweeps.{offsets_seen}
use Rattle.dx_match.proofs.Offsets.{offset_up, none_to_offset, next_offset, drop_next}
use Rattle.dx_match.proofs.Standing.{keeps_itself, keeps_on}
use Rattle.dx_match.proofs.offsetting.offset_all.Goals as goal

pub loop-other-init : goal.loop-other-init
loop-other-init g c =
    let s = g.L.Ledger.content c.args.ledger.now in
    record {
      kept = keeps_itself _ s c.requires.steady;
      settles = c.requires.settles;
      count = omega arith;
      made = refl;
      marks = λ k h. (h, refl);
      beside = refl;
    }

pub returns-then-is_offset-clause-ok : goal.returns-then-is_offset-clause-ok
returns-then-is_offset-clause-ok g c =
    offset_up c.args.who c.args.market (offsets_seen (g.L.Ledger.content c.loop-other.ledger) c.loop-other.offsets) _ (drop c.loop-other.other-index c.args.others.now)
    (sym c.is_offset.ensures ∙ c.if-is_offset.true) c.loop-other.invariant.made

pub loop-other-preserved : goal.loop-other-preserved
loop-other-preserved g c =
    let i = c.loop-other.invariant in
    let first = g.L.Ledger.content c.args.ledger.now in
    let s = g.L.Ledger.content c.loop-other.ledger in
    let t = g.L.Ledger.content c.offset_other.new.ledger in
    record {
      kept = keeps_on _ _ _ first s t (λ id n. n) (λ id n. n) i.kept c.in_ok-offset_other.ensures.kept;
      settles = c.in_ok-offset_other.ensures.settles;
      count = let j : length c.offset_other.new.offsets.done ≤ length c.loop-other.offsets.done + 1 = c.in_ok-offset_other.ensures.count in let k : length c.loop-other.offsets.done ≤ length c.args.offsets.now.done + c.loop-other.other-index = i.count in omega (arith, j, k);
      made = next_offset c.args.who c.args.market (offsets_seen s c.loop-other.offsets) (offsets_seen t c.offset_other.new.offsets) _ _ _ _
          (drop_next c.args.others.now c.loop-other.other-index _ c.loop-other-test.true) (sym c.is_offset.ensures ∙ c.if-is_offset.false) c.in_ok-offset_other.ensures.ok i.made;
      marks = λ k h. let j = i.marks k h in let l = c.offset_other.ensures.marks k j.0 in (l.0, l.1 ∙ j.1);
      beside = c.offset_other.ensures.beside ∙ i.beside;
    }

pub returns-clause-ok : goal.returns-clause-ok
returns-clause-ok g c =
    none_to_offset c.args.who c.args.market (offsets_seen (g.L.Ledger.content c.loop-other.ledger) c.loop-other.offsets) _ _
    (drop_all c.loop-other.other-index c.args.others.now c.loop-other-test.false) c.loop-other.invariant.made
