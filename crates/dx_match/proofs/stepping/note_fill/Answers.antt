use Rattle.std.proofs.Common.{sym, ◌∙◌}
use Rattle.dx_match.proofs.Notes.{pushed, noted_gone}
use Rattle.dx_match.proofs.stepping.note_fill.Goals as goal
use Rattle.dx_accounts.proofs.Settled.{then_ok}

pub returns-then-left-eq0-clause-ok : goal.returns-then-left-eq0-clause-ok
returns-then-left-eq0-clause-ok g c =
    let s = g.L.Ledger.content c.args.ledger.now in
    λ t.
    then_ok _ _ c.leave.result
    (λ e. noted_gone c.args.maker.now c.args.amount s t c.args.taking.now c.push.new.self _ (pushed c.push.result _ _ _ _ c.in_ok-push.was c.push.ensures) (sym c.left.ensures ∙ c.if-left-eq0.true) e)
    (c.leave.ensures.ok s)
