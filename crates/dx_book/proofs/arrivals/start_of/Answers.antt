use Rattle.std.proofs.Common.{◌<◌, arith}
use Rattle.dx_book.proofs.Arriving.{passed}
use Rattle.dx_book.proofs.arrivals.start_of.Goals as goal

pub loop-low-preserved-then-number_of-number : goal.loop-low-preserved-then-number_of-number
loop-low-preserved-then-number_of-number c =
    let i = c.loop-low.invariant in
    let t : c.loop-low.low < c.loop-low.high = c.loop-low-test.true in
    let w = i.within in
    record {
      above = passed c.args.keys.now c.args.numbers.now c.args.key _ _ _ c.requires.rising (omega (arith, t, w)) c.number_of.ensures c.number_of-number.ensures c.if-number_of-number.true;
      within = w;
    }

pub loop-low-preserved : goal.loop-low-preserved
loop-low-preserved c =
    let i = c.loop-low.invariant in
    let t : c.loop-low.low < c.loop-low.high = c.loop-low-test.true in
    let w = i.within in
    record { above = i.above; within = omega (arith, t, w) }
