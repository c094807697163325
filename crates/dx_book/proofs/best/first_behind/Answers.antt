use Rattle.dx_book.proofs.Past.{seen_past}
use Rattle.dx_book.proofs.best.first_behind.Goals as goal

pub returns-then-stands_past : goal.returns-then-stands_past
returns-then-stands_past c =
    seen_past c.args.market c.args.buy c.args.price c.args.levels.now c.loop-number.number _ c.stands_behind.result c.stands_past.result _ c.requires c.loop-number-test.true
    c.stands_behind.ensures c.if-stands_behind.false c.stands_past.ensures c.if-stands_past.true c.loop-number.invariant
