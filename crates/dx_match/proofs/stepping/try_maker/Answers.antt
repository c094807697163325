use Rattle.dx_match.specs.Seen.{seen}
use Rattle.dx_match.proofs.Amounts.{room_left}
use Rattle.dx_match.proofs.Notes.{tried_amount}
use Rattle.dx_match.proofs.stepping.try_maker.Goals as goal

pub try_fill-requires-clause-room : goal.try_fill-requires-clause-room
try_fill-requires-clause-room g c =
    room_left (g.L.Ledger.content c.args.ledger.now) c.args.order.now c.args.taking.now.filled c.amount_to_try-amount.result
    c.requires.fillable.steady c.requires.fillable.taker_trades c.requires.within c.amount_to_try-amount.ensures.most

pub returns-clause-ok : goal.returns-clause-ok
returns-clause-ok g c =
    let s = g.L.Ledger.content c.args.ledger.now in
    let t = g.L.Ledger.content c.try_fill.new.ledger in
    tried_amount c.args.queue.now c.args.order.now c.args.maker.now c.amount_to_try-amount.result (seen s c.args.taking.now) (seen t c.try_fill.new.taking) (seen t c.look_again.new.taking)
    c.amount_to_try-amount.ensures.value c.in_ok-try_fill.ensures.ok c.look_again.ensures.ok
