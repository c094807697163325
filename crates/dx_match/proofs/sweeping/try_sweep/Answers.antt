use Rattle.std.proofs.Common.{◌∙◌}
use Rattle.dx_match.proofs.Turns.{if_ok}
use Rattle.dx_match.proofs.sweeping.try_sweep.Goals as goal

pub returns-clause-ok : goal.returns-clause-ok
returns-clause-ok g c =
    let t = g.L.Ledger.content c.sweep.new.ledger in
    if_ok _ _ c.end.result (λ r e. c.in_ok-taking.ensures.ok ∙ e) (c.end.ensures.ok t)

pub returns-clause-full : goal.returns-clause-full
returns-clause-full g c =
    let t = g.L.Ledger.content c.sweep.new.ledger in
    λ e. c.in_ok-taking.ensures.ok ∙ c.end.ensures.full t e
