use Rattle.dx_accounts.proofs.Settled.{then_ok}
use Rattle.dx_match.specs.Seen.{seen}
use Rattle.dx_match.proofs.Closings.{market_closed}
use Rattle.dx_match.proofs.liquidating.liquidate_market.Goals as goal

pub returns-clause-ok : goal.returns-clause-ok
returns-clause-ok g c =
    let s = g.L.Ledger.content c.args.ledger.now in
    let t = g.L.Ledger.content c.close_side.new.ledger in
    then_ok _ _ c.close_group.result
    (λ e. market_closed c.args.book.now.orders c.args.queue.now c.args.who c.args.market (seen s c.args.taking.now) (seen t c.close_side.new.taking) _ c.is_long-long.result c.is_long-long.ensures c.in_ok-close_side.ensures.ok e)
    (c.close_group.ensures.ok t)
