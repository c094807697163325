use Rattle.dx_accounts.proofs.Settled.{then_ok}
use Rattle.dx_match.specs.Seen.{seen}
use Rattle.dx_match.specs.Stages.{tried}
use Rattle.dx_match.proofs.Notes.{coded}
use Rattle.dx_match.proofs.stepping.note_refusal.Goals as goal

pub returns-in-Code-clause-ok : goal.returns-in-Code-clause-ok
returns-in-Code-clause-ok g c =
    let s = g.L.Ledger.content c.args.ledger.now in
    let t = g.L.Ledger.content c.note_code.new.ledger in
    λ amount step h.
    then_ok _ _ c.note_code.result
    (λ e. coded (tried c.args.queue.now c.args.order.now c.args.maker.now amount (seen s c.args.taking.now)) step c.args.fault c.in-Code.fill c.in-Code.code (seen t c.note_code.new.taking) c.in-Code.is h e)
    (c.note_code.ensures.ok amount)
