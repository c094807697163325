use Rattle.dx_spec.specs.Messages.{message_step}
use Rattle.dx_accounts.proofs.Settled.{then_ok}
use Rattle.dx_statement.proofs.Carried.{room_steady, of_deposit, of_withdrawal, of_transfer, deposit_told, withdrawal_told, transfer_told, placing_told, cancel_told, waiting_told}
use Rattle.dx_statement.proofs.messages.tell_message.Goals as goal

pub tell_one-requires-clause-settles : goal.tell_one-requires-clause-settles
tell_one-requires-clause-settles g c =
    let s = g.L.Ledger.content c.args.l.now in
    of_deposit s c.args.time c.args.m.now c.in-Deposit.who _ c.in-Deposit.is (room_steady c.args.time s c.requires.room)

pub tell_one-requires-in-Withdraw-clause-settles : goal.tell_one-requires-in-Withdraw-clause-settles
tell_one-requires-in-Withdraw-clause-settles g c =
    let s = g.L.Ledger.content c.args.l.now in
    of_withdrawal s c.args.time c.args.m.now c.in-Withdraw.who _ c.in-Withdraw.is (room_steady c.args.time s c.requires.room)

pub tell_two-requires-clause-settles : goal.tell_two-requires-clause-settles
tell_two-requires-clause-settles g c =
    let s = g.L.Ledger.content c.args.l.now in
    of_transfer s c.args.time c.args.m.now c.in-Transfer.from c.in-Transfer.to _ c.in-Transfer.is (room_steady c.args.time s c.requires.room)

pub returns-in-Deposit-clause-told : goal.returns-in-Deposit-clause-told
returns-in-Deposit-clause-told g c =
    let s = g.L.Ledger.content c.args.l.now in
    then_ok _ _ c.tell_one.result
    (λ e. deposit_told s c.args.m.now c.in-Deposit.who _ (message_step s c.args.time c.args.m.now) c.args.lines.now c.tell_one.new.lines c.in-Deposit.is e) c.tell_one.ensures.told

pub returns-in-Withdraw-clause-told : goal.returns-in-Withdraw-clause-told
returns-in-Withdraw-clause-told g c =
    let s = g.L.Ledger.content c.args.l.now in
    then_ok _ _ c.tell_one-in-Withdraw.result
    (λ e. withdrawal_told s c.args.m.now c.in-Withdraw.who _ (message_step s c.args.time c.args.m.now) c.args.lines.now c.tell_one-in-Withdraw.new.lines c.in-Withdraw.is e) c.tell_one-in-Withdraw.ensures.told

pub returns-in-Transfer-clause-told : goal.returns-in-Transfer-clause-told
returns-in-Transfer-clause-told g c =
    let s = g.L.Ledger.content c.args.l.now in
    then_ok _ _ c.tell_two.result
    (λ e. transfer_told s c.args.m.now c.in-Transfer.from c.in-Transfer.to _ (message_step s c.args.time c.args.m.now) c.args.lines.now c.tell_two.new.lines c.in-Transfer.is e) c.tell_two.ensures.told

pub returns-in-PlaceStateful-clause-told : goal.returns-in-PlaceStateful-clause-told
returns-in-PlaceStateful-clause-told g c =
    let s = g.L.Ledger.content c.args.l.now in
    then_ok _ _ c.tell_none.result (λ e. placing_told s c.args.m.now _ (message_step s c.args.time c.args.m.now) c.args.lines.now c.in-PlaceStateful.is) c.tell_none.ensures.state

pub returns-in-CancelStateful-clause-told : goal.returns-in-CancelStateful-clause-told
returns-in-CancelStateful-clause-told g c =
    let s = g.L.Ledger.content c.args.l.now in
    then_ok _ _ c.tell_none-in-CancelStateful.result (λ e. cancel_told s c.args.m.now _ (message_step s c.args.time c.args.m.now) c.args.lines.now c.in-CancelStateful.is) c.tell_none-in-CancelStateful.ensures.state

pub returns-in-PlaceConditional-clause-told : goal.returns-in-PlaceConditional-clause-told
returns-in-PlaceConditional-clause-told g c =
    let s = g.L.Ledger.content c.args.l.now in
    then_ok _ _ c.tell_none-in-PlaceConditional.result
    (λ e. waiting_told s c.args.m.now c.in-PlaceConditional.order _ _ (message_step s c.args.time c.args.m.now) c.args.lines.now c.in-PlaceConditional.is) c.tell_none-in-PlaceConditional.ensures.state
