use Rattle.std.proofs.Common.{IsTrue}
use Rattle.sqlite.specs.Held.{state}
use Rattle.sqlite.specs.State.{HasCleanDisk}
use Rattle.dx_sql.proofs.Answering.{answered_on_ok, answered_on_err}
use Rattle.dx_sql.proofs.States.{lasting_keeps, lasting_sets, open_is_clean}
use Rattle.dx_sql.proofs.keeper.SqlKeeperKeeper.put.Goals as goal

pub returns-clause-set : goal.returns-clause-set
returns-clause-set g c =
    let old = state g.D.Store c.args.self.now.conn in
    let new = state g.D.Store c.put.new.conn in
    let stays : IsTrue g.D.Lasting.lasts → HasCleanDisk new × IsTrue new.is_open =
    λ lasts. let is_open = g.met.D.Lasting.stays_open c.put.new.conn.store lasts in (open_is_clean _ _ (g.met.D.Store.shut_if_dirty c.put.new.conn.store) is_open, is_open) in
    answered_on_ok c.put.result c.answered.result _ _ _ c.answered.ensures.value c.put.ensures.set (lasting_sets g.D.Lasting.lasts old new (record { node = c.args.node; height = c.args.height }) c.args.bytes.now stays)

pub returns-clause-err : goal.returns-clause-err
returns-clause-err g c =
    let old = state g.D.Store c.args.self.now.conn in
    let new = state g.D.Store c.put.new.conn in
    let stays : IsTrue g.D.Lasting.lasts → HasCleanDisk new × IsTrue new.is_open =
    λ lasts. let is_open = g.met.D.Lasting.stays_open c.put.new.conn.store lasts in (open_is_clean _ _ (g.met.D.Store.shut_if_dirty c.put.new.conn.store) is_open, is_open) in
    answered_on_err c.put.result c.answered.result _ _ c.answered.ensures.value c.put.ensures.err (lasting_keeps g.D.Lasting.lasts old new stays)
