use Rattle.std.proofs.Common.{arith}
use Rattle.dx_book.proofs.Arriving.{place_most, place_past, place_here}
use Rattle.dx_book.proofs.arrivals.place_of_key.Goals as goal

pub returns-then-keys-place : goal.returns-then-keys-place
returns-then-keys-place c = place_here c.args.keys.now c.args.key c.loop-place.place 0 c.loop-place-test.true c.loop-place.invariant c.if-keys-place.true

pub loop-place-preserved : goal.loop-place-preserved
loop-place-preserved c = place_past c.args.keys.now c.args.key c.loop-place.place 0 c.loop-place-test.true c.loop-place.invariant c.if-keys-place.false

pub returns : goal.returns
returns c =
    let most = place_most c.args.keys.now c.args.key in
    let up = c.loop-place.invariant in
    let over = c.loop-place-test.false in
    omega (arith, most, up, over)
