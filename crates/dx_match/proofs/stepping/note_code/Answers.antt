use Rattle.std.proofs.Common.{◌∙◌, subst, ◌≢◌}
use Rattle.dx_accounts.proofs.Settled.{then_ok}
use Rattle.dx_match.specs.Seen.{seen}
use Rattle.dx_match.proofs.Notes.{noted_risk, noted_stop}
use Rattle.dx_match.proofs.Standing.{keeps_itself}
use Rattle.dx_match.proofs.stepping.note_code.Goals as goal

pub returns-then-code-number-clause-ok : goal.returns-then-code-number-clause-ok
returns-then-code-number-clause-ok g c =
    let s = g.L.Ledger.content c.args.ledger.now in
    let t = g.L.Ledger.content c.refuse_maker.new.ledger in
    λ amount.
    then_ok _ _ c.refuse_maker.result
    (λ e. noted_risk c.args.queue.now c.args.order.now c.args.maker.now amount c.args.code (seen s c.args.taking.now) (seen t c.refuse_maker.new.taking) (c.if-code-number.true ∙ c.number.ensures) e)
    c.refuse_maker.ensures.ok

pub returns-clause-ok : goal.returns-clause-ok
returns-clause-ok g c =
    let s = g.L.Ledger.content c.args.ledger.now in
    λ amount.
    noted_stop c.args.queue.now c.args.order.now c.args.maker.now amount c.args.code (seen s c.args.taking.now) (subst (λ n. c.args.code ≢ n) c.number.ensures c.if-code-number.false)

pub returns-clause-kept : goal.returns-clause-kept
returns-clause-kept g c = keeps_itself _ (g.L.Ledger.content c.args.ledger.now) c.requires
