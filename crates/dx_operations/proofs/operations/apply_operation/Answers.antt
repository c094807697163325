use Rattle.std.proofs.Common.{ap, ◌^◌}
use Rattle.dx_types.specs.Keys.{order_id_cmp}
use Rattle.dx_maps.specs.Tables.{map_of}
use Rattle.dx_spec.specs.Step.{fail_as}
use Rattle.dx_spec.specs.Blocks.{most_fills}
use Rattle.dx_spec.specs.Operations.{at_fill, match_step, liquidation_step, deleveraging_step, remove_step}
use Rattle.dx_trade.proofs.Steps.{if_err}
use Rattle.dx_operations.proofs.Standing.{midway_kept, midway_removed}
use Rattle.dx_operations.proofs.Turns.{all_ok, op_placed, op_not_placed, op_changed, op_failed, match_is, liquidation_is, deleveraging_is, removal_is, first_failure, few_matched, few_liquidated, few_delevered}
use Rattle.dx_operations.proofs.operations.apply_operation.Goals as goal
use Rattle.dx_accounts.proofs.Settled.{then_ok}

pub returns-in-Place-clause-ok : goal.returns-in-Place-clause-ok
returns-in-Place-clause-ok g c =
    let s = g.L.Ledger.content c.args.l.now in
    then_ok _ _ c.place.result (λ e. op_placed c.args.height c.args.op.now c.in-Place.o s (map_of order_id_cmp c.args.placed.now) (map_of order_id_cmp c.place.new.placed) c.in-Place.is e) c.place.ensures.ok

pub returns-in-Place-clause-fault : goal.returns-in-Place-clause-fault
returns-in-Place-clause-fault g c =
    let s = g.L.Ledger.content c.args.l.now in
    if_err _ _ c.place.result (λ f e. op_not_placed c.args.height c.args.op.now c.in-Place.o s (map_of order_id_cmp c.args.placed.now) f c.in-Place.is e) c.place.ensures.code

pub match_orders-requires-clause-few : goal.match_orders-requires-clause-few
match_orders-requires-clause-few g c = few_matched c.args.op.now c.in-Match.taker c.in-Match.fills c.as_slice.result.now most_fills c.in-Match.is c.as_slice.ensures c.requires.few

pub returns-in-Match-clause-ok : goal.returns-in-Match-clause-ok
returns-in-Match-clause-ok g c =
    let s = g.L.Ledger.content c.args.l.now in
    let placed = map_of order_id_cmp c.args.placed.now in
    then_ok _ _ c.match_orders.result
    (λ e. op_changed c.args.height c.args.op.now s placed (g.L.Ledger.content c.match_orders.new.l) (match_step s placed c.in-Match.taker c.as_slice.result.now)
    (match_is c.args.height c.args.op.now c.in-Match.taker c.in-Match.fills c.as_slice.result.now s placed c.in-Match.is c.as_slice.ensures) e) c.match_orders.ensures.ok

pub returns-in-Match-clause-fault : goal.returns-in-Match-clause-fault
returns-in-Match-clause-fault g c =
    let s = g.L.Ledger.content c.args.l.now in
    let placed = map_of order_id_cmp c.args.placed.now in
    if_err _ _ c.match_orders.result
    (λ f e. op_failed c.args.height c.args.op.now s placed (match_step s placed c.in-Match.taker c.as_slice.result.now) f
    (match_is c.args.height c.args.op.now c.in-Match.taker c.in-Match.fills c.as_slice.result.now s placed c.in-Match.is c.as_slice.ensures) e) c.match_orders.ensures.fault

pub liquidate_account-requires-clause-few : goal.liquidate_account-requires-clause-few
liquidate_account-requires-clause-few g c =
    few_liquidated c.args.op.now c.in-Liquidate.who c.in-Liquidate.market c.in-Liquidate.fills c.as_slice-in-Liquidate.result.now most_fills c.in-Liquidate.is c.as_slice-in-Liquidate.ensures c.requires.few

pub returns-in-Liquidate-clause-ok : goal.returns-in-Liquidate-clause-ok
returns-in-Liquidate-clause-ok g c =
    let s = g.L.Ledger.content c.args.l.now in
    let placed = map_of order_id_cmp c.args.placed.now in
    then_ok _ _ c.liquidate_account.result
    (λ e. op_changed c.args.height c.args.op.now s placed (g.L.Ledger.content c.liquidate_account.new.l) (liquidation_step s placed c.in-Liquidate.who c.in-Liquidate.market c.as_slice-in-Liquidate.result.now)
    (liquidation_is c.args.height c.args.op.now c.in-Liquidate.who c.in-Liquidate.market c.in-Liquidate.fills c.as_slice-in-Liquidate.result.now s placed c.in-Liquidate.is c.as_slice-in-Liquidate.ensures) e)
    c.liquidate_account.ensures.ok

pub returns-in-Liquidate-clause-fault : goal.returns-in-Liquidate-clause-fault
returns-in-Liquidate-clause-fault g c =
    let s = g.L.Ledger.content c.args.l.now in
    let placed = map_of order_id_cmp c.args.placed.now in
    if_err _ _ c.liquidate_account.result
    (λ f e. op_failed c.args.height c.args.op.now s placed (liquidation_step s placed c.in-Liquidate.who c.in-Liquidate.market c.as_slice-in-Liquidate.result.now) f
    (liquidation_is c.args.height c.args.op.now c.in-Liquidate.who c.in-Liquidate.market c.in-Liquidate.fills c.as_slice-in-Liquidate.result.now s placed c.in-Liquidate.is c.as_slice-in-Liquidate.ensures) e)
    c.liquidate_account.ensures.fault

pub delever_account-requires-clause-few : goal.delever_account-requires-clause-few
delever_account-requires-clause-few g c =
    few_delevered c.args.op.now c.in-Delever.who c.in-Delever.market c.in-Delever.offsets c.as_slice-in-Delever.result.now most_fills c.in-Delever.is c.as_slice-in-Delever.ensures c.requires.few

pub returns-in-Delever-clause-ok : goal.returns-in-Delever-clause-ok
returns-in-Delever-clause-ok g c =
    let s = g.L.Ledger.content c.args.l.now in
    let placed = map_of order_id_cmp c.args.placed.now in
    then_ok _ _ c.delever_account.result
    (λ e. op_changed c.args.height c.args.op.now s placed (g.L.Ledger.content c.delever_account.new.l) (deleveraging_step s c.in-Delever.who c.in-Delever.market c.as_slice-in-Delever.result.now)
    (deleveraging_is c.args.height c.args.op.now c.in-Delever.who c.in-Delever.market c.in-Delever.offsets c.as_slice-in-Delever.result.now s placed c.in-Delever.is c.as_slice-in-Delever.ensures) e)
    c.delever_account.ensures.ok

pub returns-in-Delever-clause-fault : goal.returns-in-Delever-clause-fault
returns-in-Delever-clause-fault g c =
    let s = g.L.Ledger.content c.args.l.now in
    let placed = map_of order_id_cmp c.args.placed.now in
    if_err _ _ c.delever_account.result
    (λ f e. op_failed c.args.height c.args.op.now s placed (deleveraging_step s c.in-Delever.who c.in-Delever.market c.as_slice-in-Delever.result.now) f
    (deleveraging_is c.args.height c.args.op.now c.in-Delever.who c.in-Delever.market c.in-Delever.offsets c.as_slice-in-Delever.result.now s placed c.in-Delever.is c.as_slice-in-Delever.ensures) e)
    c.delever_account.ensures.fault

pub returns-in-Delever-clause-midway : goal.returns-in-Delever-clause-midway
returns-in-Delever-clause-midway g c =
    then_ok _ _ c.delever_account.result (λ k. midway_kept c.args.height _ _ (map_of order_id_cmp c.args.placed.now) k c.requires.midway) c.delever_account.ensures.midway

pub returns-in-Remove-clause-ok : goal.returns-in-Remove-clause-ok
returns-in-Remove-clause-ok g c =
    let s = g.L.Ledger.content c.args.l.now in
    let placed = map_of order_id_cmp c.args.placed.now in
    let id = c.in-Remove.id in
    then_ok _ _ c.remove_order.result
    (λ e. op_changed c.args.height c.args.op.now s placed (g.L.Ledger.content c.remove_order.new.l) (fail_as (at_fill 0) (remove_step s id))
    (removal_is c.args.height c.args.op.now id s placed c.in-Remove.is) (ap (fail_as (at_fill 0)) e)) c.remove_order.ensures.ok

pub returns-in-Remove-clause-fault : goal.returns-in-Remove-clause-fault
returns-in-Remove-clause-fault g c =
    let s = g.L.Ledger.content c.args.l.now in
    let placed = map_of order_id_cmp c.args.placed.now in
    let id = c.in-Remove.id in
    if_err _ _ c.remove_order.result
    (λ f e. op_failed c.args.height c.args.op.now s placed (fail_as (at_fill 0) (remove_step s id)) f
    (removal_is c.args.height c.args.op.now id s placed c.in-Remove.is) (first_failure (remove_step s id) f e)) c.remove_order.ensures.code

pub returns-in-Remove-clause-midway : goal.returns-in-Remove-clause-midway
returns-in-Remove-clause-midway g c =
    let s = g.L.Ledger.content c.args.l.now in
    let t = g.L.Ledger.content c.remove_order.new.l in
    all_ok _ _ _ _ c.remove_order.result (λ e w b. midway_removed c.args.height s t (map_of order_id_cmp c.args.placed.now) c.in-Remove.id c.requires.midway e w b)
    c.remove_order.ensures.ok (c.remove_order.ensures.within (2 ^ 101) c.requires.midway.steady.within) c.remove_order.ensures.balanced
