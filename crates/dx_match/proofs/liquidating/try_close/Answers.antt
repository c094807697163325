use Rattle.std.proofs.Common.{sym, subst}
use Rattle.dx_spec.specs.State.{State}
use Rattle.dx_spec.specs.Liquidation.{liquidate_step}
use Rattle.dx_accounts.specs.Steady.{IsSteady}
use Rattle.dx_accounts.proofs.Settled.{then_ok}
use Rattle.dx_operations.proofs.Turns.{both_ok}
use Rattle.dx_match.specs.Seen.{seen}
use Rattle.dx_match.specs.Conditions.{KeepsOthers, IsSettleable}
use Rattle.dx_match.proofs.Closings.{noted_good, closing_from, filled_and_left, filled_same}
use Rattle.dx_match.proofs.Indices.{fully-liquidate_step, settleable_fully}
use Rattle.dx_match.proofs.Lessening.{lessened_by}
use Rattle.dx_match.proofs.Refusals.{whatever}
use Rattle.dx_match.proofs.Standing.{keeps_filled}
use Rattle.dx_match.proofs.liquidating.try_close.Goals as goal

pub liquidate-requires : goal.liquidate-requires
liquidate-requires g c = record { steady = c.requires.steady; maker_trades = c.requires.maker }

pub returns-in-Ok-clause-ok : goal.returns-in-Ok-clause-ok
returns-in-Ok-clause-ok g c =
    let s = g.L.Ledger.content c.args.ledger.now in
    let t = g.L.Ledger.content c.liquidate.new.l in
    then_ok _ _ c.note_fill.result
    (λ e. noted_good c.args.queue.now c.args.who c.args.market c.args.maker.now c.args.amount (seen s c.args.taking.now) _ t _ c.in-Ok.ensures.ok e)
    (c.note_fill.ensures.ok s)

pub returns-in-Ok-clause-kept : goal.returns-in-Ok-clause-kept
returns-in-Ok-clause-kept g c =
    let s = g.L.Ledger.content c.args.ledger.now in
    let t = g.L.Ledger.content c.liquidate.new.l in
    whatever _ c.note_fill.result (keeps_filled _ s t c.requires.steady c.in-Ok.ensures.balanced c.in-Ok.ensures.within)

pub returns-in-Ok-clause-settles : goal.returns-in-Ok-clause-settles
returns-in-Ok-clause-settles g c =
    let s = g.L.Ledger.content c.args.ledger.now in
    let t = g.L.Ledger.content c.liquidate.new.l in
    let kept : KeepsOthers c.args.maker.now.id s t = keeps_filled _ s t c.requires.steady c.in-Ok.ensures.balanced c.in-Ok.ensures.within in
    whatever _ c.note_fill.result (settleable_fully t c.args.who kept.steady (fully-liquidate_step s c.args.who c.args.market c.args.maker.now c.args.amount t c.in-Ok.ensures.ok))

pub returns-in-Ok-clause-size : goal.returns-in-Ok-clause-size
returns-in-Ok-clause-size g c =
    let s = g.L.Ledger.content c.args.ledger.now in
    let t = g.L.Ledger.content c.liquidate.new.l in
    then_ok _ _ c.note_fill.result
    (λ e. filled_and_left c.args.taking.now.filled c.note_fill.new.taking.filled c.args.amount _ _ e (lessened_by s c.args.who c.args.market c.args.maker.now c.args.amount t c.in-Ok.ensures.ok))
    c.note_fill.ensures.filled

pub note_refusal-requires-clause-steady : goal.note_refusal-requires-clause-steady
note_refusal-requires-clause-steady g c = subst IsSteady (sym c.in-Err.ensures.err) c.requires.steady

pub note_refusal-requires-clause-settles : goal.note_refusal-requires-clause-settles
note_refusal-requires-clause-settles g c = subst (λ (s : State). IsSettleable s c.args.who) (sym c.in-Err.ensures.err) c.requires.settles

pub returns-in-Err-clause-ok : goal.returns-in-Err-clause-ok
returns-in-Err-clause-ok g c =
    let s = g.L.Ledger.content c.args.ledger.now in
    let t = g.L.Ledger.content c.liquidate.new.l in
    let step = liquidate_step s c.args.who c.args.market c.args.maker.now c.args.amount in
    then_ok _ _ c.note_refusal.result
    (λ e. closing_from c.args.queue.now c.args.who c.args.market c.args.maker.now c.args.amount s t c.args.taking.now _ step c.in-Err.ensures.err e)
    (c.note_refusal.ensures.ok c.args.amount step c.in-Err.ensures.code)

pub returns-in-Err-clause-kept : goal.returns-in-Err-clause-kept
returns-in-Err-clause-kept g c =
    let u = g.L.Ledger.content c.note_refusal.new.ledger in
    then_ok _ _ c.note_refusal.result (λ k. subst (λ (s : State). KeepsOthers c.args.maker.now.id s u) c.in-Err.ensures.err k) c.note_refusal.ensures.kept

pub returns-in-Err-clause-size : goal.returns-in-Err-clause-size
returns-in-Err-clause-size g c =
    let s = g.L.Ledger.content c.args.ledger.now in
    let t = g.L.Ledger.content c.liquidate.new.l in
    let u = g.L.Ledger.content c.note_refusal.new.ledger in
    both_ok _ _ _ c.note_refusal.result
    (λ e f. filled_same s t u c.args.who c.args.market c.args.taking.now.filled c.note_refusal.new.taking.filled c.in-Err.ensures.err e f)
    c.note_refusal.ensures.size c.note_refusal.ensures.filled
