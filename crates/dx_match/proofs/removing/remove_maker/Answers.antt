use Rattle.std.proofs.Common.{ap}
use Rattle.dx_spec.specs.State.{State, filled_of}
use Rattle.dx_spec.specs.Operations.{remove_step}
use Rattle.dx_accounts.proofs.Settled.{then_ok}
use Rattle.dx_match.specs.Seen.{seen}
use Rattle.dx_match.specs.Takers.{closed_for}
use Rattle.dx_match.proofs.Refusals.{whatever, removal_good, removal_refused}
use Rattle.dx_match.proofs.Standing.{keeps_same, keeps_removed, removed_filled, removed_holdings}
use Rattle.dx_match.proofs.removing.remove_maker.Goals as goal

pub returns-in-Ok-clause-ok : goal.returns-in-Ok-clause-ok
returns-in-Ok-clause-ok g c =
    let s = g.L.Ledger.content c.args.ledger.now in
    let t = g.L.Ledger.content c.remove_order.new.l in
    then_ok _ _ c.add_removal.result
    (λ e. removal_good (closed_for c.args.queue.now c.args.taker.now) c.args.id.now (seen s c.args.taking.now) (seen t c.add_removal.new.taking) t (remove_step s c.args.id.now) c.in-Ok.ensures.ok e)
    (c.add_removal.ensures.ok s t)

pub returns-in-Ok-clause-kept : goal.returns-in-Ok-clause-kept
returns-in-Ok-clause-kept g c =
    let s = g.L.Ledger.content c.args.ledger.now in
    let t = g.L.Ledger.content c.remove_order.new.l in
    whatever _ c.add_removal.result (keeps_removed s t c.args.id.now c.requires c.in-Ok.ensures.ok c.in-Ok.ensures.within c.in-Ok.ensures.balanced)

pub returns-in-Ok-clause-record : goal.returns-in-Ok-clause-record
returns-in-Ok-clause-record g c =
    let s = g.L.Ledger.content c.args.ledger.now in
    let t = g.L.Ledger.content c.remove_order.new.l in
    λ other d. whatever _ c.add_removal.result (removed_filled s t c.args.id.now other c.in-Ok.ensures.ok d)

pub returns-in-Err-clause-ok : goal.returns-in-Err-clause-ok
returns-in-Err-clause-ok g c =
    let s = g.L.Ledger.content c.args.ledger.now in
    let t = g.L.Ledger.content c.remove_order.new.l in
    then_ok _ _ c.not_removed.result
    (λ e. removal_refused (closed_for c.args.queue.now c.args.taker.now) c.args.id.now (seen s c.args.taking.now) (seen t c.args.taking.now) (remove_step s c.args.id.now) e (ap (λ (u : State). seen u c.args.taking.now) c.in-Err.ensures.err))
    (c.not_removed.ensures (remove_step s c.args.id.now) c.in-Err.ensures.code)

pub returns-in-Err-clause-kept : goal.returns-in-Err-clause-kept
returns-in-Err-clause-kept g c =
    let s = g.L.Ledger.content c.args.ledger.now in
    let t = g.L.Ledger.content c.remove_order.new.l in
    whatever _ c.not_removed.result (keeps_same _ s t c.requires c.in-Err.ensures.err)

pub returns-in-Err-clause-record : goal.returns-in-Err-clause-record
returns-in-Err-clause-record g c =
    λ other d. whatever _ c.not_removed.result (ap (λ (u : State). filled_of u other) c.in-Err.ensures.err)

pub returns-in-Ok-clause-holdings : goal.returns-in-Ok-clause-holdings
returns-in-Ok-clause-holdings g c =
    let s = g.L.Ledger.content c.args.ledger.now in
    let t = g.L.Ledger.content c.remove_order.new.l in
    whatever _ c.add_removal.result (removed_holdings s t c.args.id.now c.in-Ok.ensures.ok)
