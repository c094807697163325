use Rattle.dx_types.specs.Keys.{order_id_cmp}
use Rattle.dx_maps.specs.Tables.{map_of}
use Rattle.dx_trade.proofs.Steps.{if_err}
use Rattle.dx_operations.proofs.Standing.{new_table, midway_first}
use Rattle.dx_operations.proofs.Turns.{ops_done, ops_bad, few_ops}
use Rattle.dx_operations.proofs.operations.apply_operations.Goals as goal
use Rattle.dx_accounts.proofs.Settled.{then_ok}

pub apply_all-requires-clause-midway : goal.apply_all-requires-clause-midway
apply_all-requires-clause-midway g c =
    midway_first c.args.height (g.L.Ledger.content c.args.l.now) c.new-placed.result c.requires.steady c.requires.next c.new-placed.ensures.empty

pub returns-clause-ok : goal.returns-clause-ok
returns-clause-ok g c =
    let s = g.L.Ledger.content c.args.l.now in
    let first = map_of order_id_cmp c.new-placed.result in
    then_ok _ _ c.apply_all.result
    (λ e. ops_done s c.args.height c.args.ops.now first _ (new_table c.new-placed.result c.new-placed.ensures.empty) e) c.apply_all.ensures.ok

pub returns-clause-bad : goal.returns-clause-bad
returns-clause-bad g c =
    let s = g.L.Ledger.content c.args.l.now in
    let first = map_of order_id_cmp c.new-placed.result in
    if_err _ _ c.apply_all.result
    (λ f e. ops_bad s c.args.height c.args.ops.now first f (new_table c.new-placed.result c.new-placed.ensures.empty) e) c.apply_all.ensures.bad

pub apply_all-requires-clause-few : goal.apply_all-requires-clause-few
apply_all-requires-clause-few g c = (few_ops c.args.ops.now c.requires.few).0

pub apply_all-requires-clause-short : goal.apply_all-requires-clause-short
apply_all-requires-clause-short g c = (few_ops c.args.ops.now c.requires.few).1
