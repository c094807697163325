use Rattle.std.proofs.Common.{sym, ◌∙◌}
use Rattle.dx_accounts.proofs.Settled.{then_ok}
use Rattle.dx_spec.proofs.Same.{swapped_ids}
use Rattle.dx_match.specs.Seen.{seen}
use Rattle.dx_match.proofs.Turns.{takes_other, takes_not_own}
use Rattle.dx_match.proofs.Standing.{keeps_itself}
use Rattle.dx_match.proofs.stepping.take.Goals as goal

pub returns-then-is_same_id-clause-ok : goal.returns-then-is_same_id-clause-ok
returns-then-is_same_id-clause-ok g c =
    let s = g.L.Ledger.content c.args.ledger.now in
    takes_not_own c.args.queue.now c.args.order.now (seen s c.args.taking.now) c.args.maker.now (sym c.is_same_id.ensures ∙ c.if-is_same_id.true)

pub returns-then-is_same_id-clause-kept : goal.returns-then-is_same_id-clause-kept
returns-then-is_same_id-clause-kept g c = keeps_itself _ (g.L.Ledger.content c.args.ledger.now) c.requires.fillable.steady

pub returns-clause-ok : goal.returns-clause-ok
returns-clause-ok g c =
    let s = g.L.Ledger.content c.args.ledger.now in
    then_ok _ _ c.take_maker.result
    (λ e. takes_other c.args.queue.now c.args.order.now (seen s c.args.taking.now) _ c.args.maker.now c.requires.goes_on (sym c.is_same_id.ensures ∙ c.if-is_same_id.false) e)
    c.take_maker.ensures.ok

pub returns-clause-own : goal.returns-clause-own
returns-clause-own g c =
    then_ok _ _ c.take_maker.result
    (λ k. k.tradable c.args.order.now (swapped_ids c.args.order.now.id c.args.maker.now.id ∙ sym c.is_same_id.ensures ∙ c.if-is_same_id.false) c.requires.fillable.taker_trades)
    c.take_maker.ensures.kept
