use Rattle.std.proofs.Common.{◌∙◌}
use Rattle.dx_match.specs.Seen.{seen}
use Rattle.dx_match.proofs.Turns.{order_taken, if_ok}
use Rattle.dx_match.proofs.matching.try_match.Goals as goal

pub returns-clause-ok : goal.returns-clause-ok
returns-clause-ok g c =
    let s = g.L.Ledger.content c.args.ledger.now in
    let t = g.L.Ledger.content c.take_all.new.ledger in
    if_ok _ _ c.close.result
    (λ r e. order_taken s c.args.book.now.orders c.args.queue.now c.args.order.now (seen t c.in_ok-taking.taking) c.in_ok-taking.ensures.ok ∙ e)
    (c.close.ensures.ok t)

pub returns-clause-full : goal.returns-clause-full
returns-clause-full g c =
    let s = g.L.Ledger.content c.args.ledger.now in
    let t = g.L.Ledger.content c.take_all.new.ledger in
    λ e. order_taken s c.args.book.now.orders c.args.queue.now c.args.order.now (seen t c.in_ok-taking.taking) c.in_ok-taking.ensures.ok ∙ c.close.ensures.full t e
