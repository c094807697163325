use Rattle.std.proofs.Common.{sym, subst, ◌∙◌}
use Rattle.dx_spec.specs.State.{State}
use Rattle.dx_spec.specs.Fills.{fill_step}
use Rattle.dx_accounts.specs.Steady.{IsSteady}
use Rattle.dx_accounts.proofs.Settled.{then_ok}
use Rattle.dx_spec.proofs.Same.{swapped_ids}
use Rattle.dx_operations.proofs.Turns.{both_ok}
use Rattle.dx_match.specs.Seen.{seen}
use Rattle.dx_match.specs.Conditions.{KeepsOthers}
use Rattle.dx_match.proofs.Amounts.{filled_within}
use Rattle.dx_match.proofs.Notes.{tried_good, tried_from, filled_stays}
use Rattle.dx_match.proofs.Refusals.{whatever}
use Rattle.dx_match.proofs.Standing.{keeps_filled}
use Rattle.dx_match.proofs.stepping.try_fill.Goals as goal

pub returns-in-Ok-clause-ok : goal.returns-in-Ok-clause-ok
returns-in-Ok-clause-ok g c =
    let s = g.L.Ledger.content c.args.ledger.now in
    let t = g.L.Ledger.content c.fill.new.l in
    then_ok _ _ c.note_fill.result
    (λ e. tried_good c.args.queue.now c.args.order.now c.args.maker.now c.args.amount t (seen s c.args.taking.now) _ _ c.in-Ok.ensures.ok e)
    (c.note_fill.ensures.ok s)

pub returns-in-Ok-clause-kept : goal.returns-in-Ok-clause-kept
returns-in-Ok-clause-kept g c =
    let s = g.L.Ledger.content c.args.ledger.now in
    let t = g.L.Ledger.content c.fill.new.l in
    whatever _ c.note_fill.result (keeps_filled _ s t c.requires.fillable.steady c.in-Ok.ensures.balanced c.in-Ok.ensures.within)

pub returns-in-Ok-clause-within : goal.returns-in-Ok-clause-within
returns-in-Ok-clause-within g c =
    let s = g.L.Ledger.content c.args.ledger.now in
    let t = g.L.Ledger.content c.fill.new.l in
    then_ok _ _ c.note_fill.result
    (λ e. filled_within s c.args.order.now c.args.maker.now c.args.amount c.args.taking.now.filled _ t c.in-Ok.ensures.ok c.requires.within e)
    c.note_fill.ensures.filled

pub note_refusal-requires : goal.note_refusal-requires
note_refusal-requires g c = subst IsSteady (sym c.in-Err.ensures.err) c.requires.fillable.steady

pub returns-in-Err-clause-ok : goal.returns-in-Err-clause-ok
returns-in-Err-clause-ok g c =
    let s = g.L.Ledger.content c.args.ledger.now in
    let t = g.L.Ledger.content c.fill.new.l in
    let step = fill_step s c.args.order.now c.args.maker.now c.args.amount in
    then_ok _ _ c.note_refusal.result
    (λ e. tried_from c.args.queue.now c.args.order.now c.args.maker.now c.args.amount s t c.args.taking.now _ step c.in-Err.ensures.err e)
    (c.note_refusal.ensures.ok c.args.amount step c.in-Err.ensures.code)

pub returns-in-Err-clause-kept : goal.returns-in-Err-clause-kept
returns-in-Err-clause-kept g c =
    let u = g.L.Ledger.content c.note_refusal.new.ledger in
    then_ok _ _ c.note_refusal.result (λ k. subst (λ (s : State). KeepsOthers c.args.maker.now.id s u) c.in-Err.ensures.err k) c.note_refusal.ensures.kept

pub returns-in-Err-clause-within : goal.returns-in-Err-clause-within
returns-in-Err-clause-within g c =
    let s = g.L.Ledger.content c.args.ledger.now in
    let t = g.L.Ledger.content c.fill.new.l in
    let u = g.L.Ledger.content c.note_refusal.new.ledger in
    both_ok _ _ _ c.note_refusal.result
    (λ e f. filled_stays s t u c.args.order.now.id c.args.taking.now.filled c.note_refusal.new.taking.filled c.in-Err.ensures.err e f c.requires.within)
    (c.note_refusal.ensures.record (swapped_ids c.args.order.now.id c.args.maker.now.id ∙ c.requires.other)) c.note_refusal.ensures.filled
