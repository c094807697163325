use Rattle.std.proofs.Common.{◌≢◌, ◌∙◌, subst}
use Rattle.dx_accounts.proofs.Settled.{then_ok}
use Rattle.dx_match.specs.Seen.{seen}
use Rattle.dx_match.proofs.Closings.{noted_risk, noted_own, noted_end, settles_same, size_same}
use Rattle.dx_match.proofs.Refusals.{whatever}
use Rattle.dx_match.proofs.Standing.{keeps_itself}
use Rattle.dx_match.proofs.liquidating.note_code.Goals as goal

pub returns-then-code-number-clause-ok : goal.returns-then-code-number-clause-ok
returns-then-code-number-clause-ok g c =
    let s = g.L.Ledger.content c.args.ledger.now in
    let t = g.L.Ledger.content c.refuse_maker.new.ledger in
    λ amount.
    then_ok _ _ c.refuse_maker.result
    (λ e. noted_risk c.args.queue.now c.args.who c.args.market c.args.maker.now amount (seen s c.args.taking.now) (seen t c.refuse_maker.new.taking) c.args.code (c.if-code-number.true ∙ c.number.ensures) e)
    c.refuse_maker.ensures.ok

pub returns-then-code-number-clause-settles : goal.returns-then-code-number-clause-settles
returns-then-code-number-clause-settles g c =
    let s = g.L.Ledger.content c.args.ledger.now in
    let t = g.L.Ledger.content c.refuse_maker.new.ledger in
    then_ok _ _ c.refuse_maker.result (λ h. settles_same s t c.args.who h c.requires.settles) c.refuse_maker.ensures.holdings

pub returns-then-code-number-clause-size : goal.returns-then-code-number-clause-size
returns-then-code-number-clause-size g c =
    let s = g.L.Ledger.content c.args.ledger.now in
    let t = g.L.Ledger.content c.refuse_maker.new.ledger in
    then_ok _ _ c.refuse_maker.result (λ h. size_same s t c.args.who c.args.market h) c.refuse_maker.ensures.holdings

pub returns-then-code-number-2-clause-ok : goal.returns-then-code-number-2-clause-ok
returns-then-code-number-2-clause-ok g c =
    let s = g.L.Ledger.content c.args.ledger.now in
    λ amount.
    then_ok _ _ c.leave.result
    (λ e. noted_own c.args.queue.now c.args.who c.args.market c.args.maker.now amount (seen s c.args.taking.now) (seen s c.leave.new.taking) c.args.code (c.if-code-number-2.true ∙ c.number-2.ensures) e)
    (c.leave.ensures.ok s)

pub returns-then-code-number-2-clause-kept : goal.returns-then-code-number-2-clause-kept
returns-then-code-number-2-clause-kept g c = whatever _ c.leave.result (keeps_itself _ (g.L.Ledger.content c.args.ledger.now) c.requires.steady)

pub returns-clause-ok : goal.returns-clause-ok
returns-clause-ok g c =
    let s = g.L.Ledger.content c.args.ledger.now in
    λ amount.
    noted_end c.args.queue.now c.args.who c.args.market c.args.maker.now amount (seen s c.args.taking.now) (seen s c.args.taking.now) c.args.code
    (subst (λ n. c.args.code ≢ n) c.number.ensures c.if-code-number.false) (subst (λ n. c.args.code ≢ n) c.number-2.ensures c.if-code-number-2.false)
