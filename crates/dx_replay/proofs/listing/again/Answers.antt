use Rattle.dx_replay.proofs.Turns.{list_is}
use Rattle.dx_replay.proofs.listing.again.Goals as goal

pub returns : goal.returns
returns g c =
    list_is c.args.queue.now c.args.book.now.orders (g.L.Ledger.content c.args.after.now) c.args.msgs.now c.as_slice.result.now c.args.results.now c.as_slice-2.result.now
    c.args.triggered.now c.as_slice-3.result.now c.in_ok-list.list c.add_placed.new.list c.add_triggered.new.list
    c.in_ok-list.ensures c.as_slice.ensures c.as_slice-2.ensures c.in_ok-add_placed.ensures c.as_slice-3.ensures c.in_ok-add_triggered.ensures
