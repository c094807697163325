use Rattle.std.proofs.Common.{◌+◌, ◌<◌, ◌^◌, subst, sym}
use Rattle.dx_accounts.proofs.Settled.{then_ok}
use Rattle.dx_match.specs.Seen.{seen}
use Rattle.dx_match.proofs.Closings.{closes_least, least_fits}
use Rattle.dx_match.proofs.liquidating.close_maker.Goals as goal

pub try_close-requires-clause-room : goal.try_close-requires-clause-room
try_close-requires-clause-room g c =
    least_fits c.args.taking.now.filled c.min-amount.result c.magnitude.result c.left.result c.min-amount.ensures
    (subst (λ n. c.args.taking.now.filled + n < 2 ^ 64) (sym c.magnitude.ensures) c.requires.room)

pub returns-clause-ok : goal.returns-clause-ok
returns-clause-ok g c =
    let s = g.L.Ledger.content c.args.ledger.now in
    then_ok _ _ c.try_close.result
    (λ e. closes_least c.args.queue.now c.args.who c.args.market c.args.maker.now c.min-amount.result (seen s c.args.taking.now) _ c.magnitude.result c.left.result
    c.min-amount.ensures c.magnitude.ensures c.left.ensures e)
    c.try_close.ensures.ok
