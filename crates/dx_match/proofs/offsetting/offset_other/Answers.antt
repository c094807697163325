use Rattle.dx_accounts.proofs.Settled.{then_ok}
use Rattle.dx_match.specs.Sweeps.{offsets_seen}
use Rattle.dx_match.proofs.Offsets.{offsets_least}
use Rattle.dx_match.proofs.offsetting.offset_other.Goals as goal

pub returns-clause-ok : goal.returns-clause-ok
returns-clause-ok g c =
    let s = g.L.Ledger.content c.args.ledger.now in
    then_ok _ _ c.try_offset.result
    (λ e. offsets_least c.args.who c.args.market (offsets_seen s c.args.offsets.now) _ c.args.other.now c.min-amount.result c.magnitude.result c.min-amount.ensures c.magnitude.ensures e)
    c.try_offset.ensures.ok
