use Rattle.std.proofs.Common.{sym, ◌∙◌}
use Rattle.dx_match.specs.Seen.{seen}
use Rattle.dx_match.proofs.Notes.{takes_own, takes_no_more, takes_tried}
use Rattle.dx_match.proofs.Refusals.{whatever}
use Rattle.dx_match.proofs.Standing.{keeps_itself}
use Rattle.dx_match.proofs.stepping.take_maker.Goals as goal
use Rattle.dx_accounts.proofs.Settled.{then_ok}

pub returns-then-is_same_account-clause-ok : goal.returns-then-is_same_account-clause-ok
returns-then-is_same_account-clause-ok g c =
    let s = g.L.Ledger.content c.args.ledger.now in
    then_ok _ _ c.leave.result
    (λ e. takes_own c.args.queue.now c.args.order.now c.args.maker.now (seen s c.args.taking.now) _ (sym c.is_same_account.ensures ∙ c.if-is_same_account.true) e)
    (c.leave.ensures.ok s)

pub returns-then-is_same_account-clause-kept : goal.returns-then-is_same_account-clause-kept
returns-then-is_same_account-clause-kept g c = whatever _ c.leave.result (keeps_itself _ (g.L.Ledger.content c.args.ledger.now) c.requires.fillable.steady)

pub returns-then-closes_nothing-clause-ok : goal.returns-then-closes_nothing-clause-ok
returns-then-closes_nothing-clause-ok g c =
    let s = g.L.Ledger.content c.args.ledger.now in
    takes_no_more c.args.queue.now c.args.order.now c.args.maker.now (seen s c.args.taking.now) (sym c.is_same_account.ensures ∙ c.if-is_same_account.false) (sym c.closes_nothing.ensures ∙ c.if-closes_nothing.true)

pub returns-then-closes_nothing-clause-kept : goal.returns-then-closes_nothing-clause-kept
returns-then-closes_nothing-clause-kept g c = keeps_itself _ (g.L.Ledger.content c.args.ledger.now) c.requires.fillable.steady

pub returns-clause-ok : goal.returns-clause-ok
returns-clause-ok g c =
    let s = g.L.Ledger.content c.args.ledger.now in
    then_ok _ _ c.try_maker.result
    (λ e. takes_tried c.args.queue.now c.args.order.now c.args.maker.now (seen s c.args.taking.now) _ (sym c.is_same_account.ensures ∙ c.if-is_same_account.false) (sym c.closes_nothing.ensures ∙ c.if-closes_nothing.false) e)
    c.try_maker.ensures.ok
