use Rattle.std.proofs.Common.{length, sym, subst, ap}
use Rattle.dx_spec.specs.State.{State}
use Rattle.dx_spec.specs.Deleveraging.{delever_step}
use Rattle.dx_accounts.proofs.Settled.{then_ok}
use Rattle.dx_match.specs.Conditions.{KeepsState, IsSettleable}
use Rattle.dx_match.specs.Sweeps.{offsets_seen}
use Rattle.dx_match.proofs.Indices.{fully-delever_step, settleable_fully}
use Rattle.dx_match.proofs.Offsets.{offset_good, offset_refused, no_more, one_more}
use Rattle.dx_match.proofs.Refusals.{whatever}
use Rattle.dx_match.proofs.Standing.{keeps_filled, keeps_same}
use Rattle.dx_match.proofs.offsetting.try_offset.Goals as goal

pub returns-in-Ok-clause-ok : goal.returns-in-Ok-clause-ok
returns-in-Ok-clause-ok g c =
    let s = g.L.Ledger.content c.args.ledger.now in
    let t = g.L.Ledger.content c.delever.new.l in
    then_ok _ _ c.note_offset.result
    (λ e. offset_good s t c.args.offsets.now (offsets_seen t c.note_offset.new.offsets) c.args.offset.now _ c.in-Ok.ensures.ok e)
    (c.note_offset.ensures.ok t)

pub returns-in-Ok-clause-kept : goal.returns-in-Ok-clause-kept
returns-in-Ok-clause-kept g c =
    let s = g.L.Ledger.content c.args.ledger.now in
    let t = g.L.Ledger.content c.delever.new.l in
    whatever _ c.note_offset.result (keeps_filled _ s t c.requires.steady c.in-Ok.ensures.balanced c.in-Ok.ensures.within)

pub returns-in-Ok-clause-settles : goal.returns-in-Ok-clause-settles
returns-in-Ok-clause-settles g c =
    let s = g.L.Ledger.content c.args.ledger.now in
    let t = g.L.Ledger.content c.delever.new.l in
    let kept : KeepsState s t = keeps_filled _ s t c.requires.steady c.in-Ok.ensures.balanced c.in-Ok.ensures.within in
    whatever _ c.note_offset.result (settleable_fully t c.args.who kept.steady (fully-delever_step s c.args.who c.args.market c.args.offset.now t c.in-Ok.ensures.ok))

pub returns-in-Ok-clause-count : goal.returns-in-Ok-clause-count
returns-in-Ok-clause-count g c = then_ok _ _ c.note_offset.result (λ e. one_more _ _ e) c.note_offset.ensures.count

pub returns-in-Err-clause-ok : goal.returns-in-Err-clause-ok
returns-in-Err-clause-ok g c =
    let s = g.L.Ledger.content c.args.ledger.now in
    let t = g.L.Ledger.content c.delever.new.l in
    let step = delever_step s c.args.who c.args.market c.args.offset.now in
    then_ok _ _ c.note_refusal.result
    (λ e. offset_refused s t c.args.offsets.now c.note_refusal.new.offsets c.args.offset.now step c.in-Err.ensures.err e)
    (c.note_refusal.ensures.ok s c.args.offset.now step c.in-Err.ensures.code)

pub returns-in-Err-clause-kept : goal.returns-in-Err-clause-kept
returns-in-Err-clause-kept g c =
    let s = g.L.Ledger.content c.args.ledger.now in
    let t = g.L.Ledger.content c.delever.new.l in
    whatever _ c.note_refusal.result (keeps_same _ s t c.requires.steady c.in-Err.ensures.err)

pub returns-in-Err-clause-settles : goal.returns-in-Err-clause-settles
returns-in-Err-clause-settles g c =
    whatever _ c.note_refusal.result (subst (λ (s : State). IsSettleable s c.args.who) (sym c.in-Err.ensures.err) c.requires.settles)

pub returns-in-Err-clause-count : goal.returns-in-Err-clause-count
returns-in-Err-clause-count g c = whatever _ c.note_refusal.result (no_more _ _ (ap length c.note_refusal.ensures.done))
