use Rattle.std.proofs.Common.{sym, ap, subst, ◌∙◌, is_none}
use Rattle.dx_spec.specs.State.{State}
use Rattle.dx_spec.specs.Accounts.{settle_step}
use Rattle.dx_node_spec.specs.Taking.{nothing_taken}
use Rattle.dx_node_spec.specs.Sweeping.{sweep_parts}
use Rattle.dx_accounts.specs.Steady.{IsSteady}
use Rattle.dx_accounts.proofs.Settled.{then_ok}
use Rattle.dx_match.specs.Seen.{seen}
use Rattle.dx_match.specs.Conditions.{IsBookFor, KeepsState, IsSettleable}
use Rattle.dx_match.proofs.Indices.{settleable_first}
use Rattle.dx_match.proofs.Markets.{swept, not_swept, can_be, can_not_be}
use Rattle.dx_match.proofs.Standing.{keeps_same}
use Rattle.dx_match.proofs.Turns.{if_ok}
use Rattle.dx_match.proofs.sweeping.sweep.Goals as goal

pub sweep_parts-requires-clause-steady : goal.sweep_parts-requires-clause-steady
sweep_parts-requires-clause-steady g c = subst IsSteady (sym c.can_settle.ensures.same) c.requires.steady

pub sweep_parts-requires-clause-book : goal.sweep_parts-requires-clause-book
sweep_parts-requires-clause-book g c = subst (λ (s : State). IsBookFor s c.args.book.now.orders) (sym c.can_settle.ensures.same) c.requires.book

pub sweep_parts-requires-clause-settles : goal.sweep_parts-requires-clause-settles
sweep_parts-requires-clause-settles g c =
    let s = g.L.Ledger.content c.args.ledger.now in
    subst (λ (u : State). IsSettleable u c.args.who) (sym c.can_settle.ensures.same)
    (settleable_first s c.args.who (can_be c.in_ok-can.can (is_none (settle_step s c.args.who)) c.in_ok-can.ensures.ok c.if-can.true))

pub returns-then-can-clause-ok : goal.returns-then-can-clause-ok
returns-then-can-clause-ok g c =
    let s = g.L.Ledger.content c.args.ledger.now in
    let u = g.L.Ledger.content c.sweep_parts.new.ledger in
    if_ok _ _ c.sweep_parts.result
    (λ t e. swept s c.args.book.now.orders c.args.queue.now c.args.who (seen u t) (can_be c.in_ok-can.can (is_none (settle_step s c.args.who)) c.in_ok-can.ensures.ok c.if-can.true)
    (e ∙ ap (λ (x : State). record (sweep_parts x c.args.book.now.orders c.args.queue.now c.args.who) { stop = 0 }) c.can_settle.ensures.same))
    c.sweep_parts.ensures.ok

pub returns-then-can-clause-kept : goal.returns-then-can-clause-kept
returns-then-can-clause-kept g c =
    let u = g.L.Ledger.content c.sweep_parts.new.ledger in
    then_ok _ _ c.sweep_parts.result (λ k. subst (λ (x : State). KeepsState x u) c.can_settle.ensures.same k) c.sweep_parts.ensures.kept

pub returns-clause-ok : goal.returns-clause-ok
returns-clause-ok g c =
    let s = g.L.Ledger.content c.args.ledger.now in
    let t = g.L.Ledger.content c.can_settle.new.ledger in
    not_swept s c.args.book.now.orders c.args.queue.now c.args.who (seen t c.start.result) (can_not_be c.in_ok-can.can (is_none (settle_step s c.args.who)) c.in_ok-can.ensures.ok c.if-can.false)
    (c.start.ensures.nothing t ∙ ap nothing_taken c.can_settle.ensures.same)

pub returns-clause-kept : goal.returns-clause-kept
returns-clause-kept g c =
    keeps_same _ (g.L.Ledger.content c.args.ledger.now) (g.L.Ledger.content c.can_settle.new.ledger) c.requires.steady c.can_settle.ensures.same
