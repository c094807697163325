use Rattle.std.proofs.Common.{sym, ◌∙◌}
use Rattle.dx_accounts.proofs.Settled.{then_ok}
use Rattle.dx_match.specs.Seen.{seen}
use Rattle.dx_match.specs.Takers.{closed_for}
use Rattle.dx_match.proofs.Refusals.{refused_short, refused_stateful}
use Rattle.dx_match.proofs.Standing.{keeps_itself}
use Rattle.dx_match.proofs.removing.refuse_maker.Goals as goal

pub returns-then-is_short_term-clause-ok : goal.returns-then-is_short_term-clause-ok
returns-then-is_short_term-clause-ok g c =
    let s = g.L.Ledger.content c.args.ledger.now in
    refused_short (closed_for c.args.queue.now c.args.taker.now) c.args.maker.now (seen s c.args.taking.now) (seen s c.leave.new.taking) (seen s c.leave.new.taking)
    (sym c.is_short_term.ensures ∙ c.if-is_short_term.true) (c.in_ok-leave.ensures.ok s)

pub returns-then-is_short_term-clause-kept : goal.returns-then-is_short_term-clause-kept
returns-then-is_short_term-clause-kept g c = keeps_itself _ (g.L.Ledger.content c.args.ledger.now) c.requires

pub returns-clause-ok : goal.returns-clause-ok
returns-clause-ok g c =
    let s = g.L.Ledger.content c.args.ledger.now in
    let t = g.L.Ledger.content c.remove_maker.new.ledger in
    then_ok _ _ c.remove_maker.result
    (λ e. refused_stateful (closed_for c.args.queue.now c.args.taker.now) c.args.maker.now (seen s c.args.taking.now) (seen s c.leave.new.taking) (seen t c.remove_maker.new.taking)
    (sym c.is_short_term.ensures ∙ c.if-is_short_term.false) (c.in_ok-leave.ensures.ok s) e)
    c.remove_maker.ensures.ok
