use Rattle.std.proofs.Common.{◌+◌, drop, sym, ◌∙◌}
use Rattle.dx_replay.specs.Parts.{new_orders}
use Rattle.dx_replay.proofs.Turns.{next_placed, results_end, messages_end}
use Rattle.dx_replay.proofs.listing.add_placed.Goals as goal

pub returns-in_default : goal.returns-in_default
returns-in_default g c =
    results_end (g.L.Ledger.content c.args.after.now) c.args.msgs.now c.args.results.now c.loop-number.number c.loop-number.list _ (sym c.in_default.is ∙ c.result_at.ensures) c.loop-number.invariant

pub loop-number-preserved : goal.loop-number-preserved
loop-number-preserved g c =
    let s = g.L.Ledger.content c.args.after.now in
    next_placed s c.args.msgs.now c.args.results.now c.loop-number.number _ c.in-Some.code c.new_order.result c.result_at.result c.loop-number.list c.add_new.new.list _
    c.loop-number-test.true c.result_at.ensures c.in-Some.is c.new_order.ensures
    (c.in_ok-add_new.ensures (new_orders s (drop (c.loop-number.number + 1) c.args.msgs.now) (drop (c.loop-number.number + 1) c.args.results.now))) c.loop-number.invariant

pub returns : goal.returns
returns g c =
    messages_end (g.L.Ledger.content c.args.after.now) c.args.msgs.now c.args.results.now c.loop-number.number c.loop-number.list _ c.loop-number-test.false c.loop-number.invariant
