use Rattle.std.proofs.Common.{IsTrue, option_map}
use Rattle.sqlite.specs.Held.{state}
use Rattle.sqlite.specs.State.{HasCleanDisk}
use Rattle.dx_sql.proofs.Answering.{answered_if_ok}
use Rattle.dx_sql.proofs.States.{lasting_keeps, lasting_finds, open_is_clean}
use Rattle.dx_sql.proofs.keeper.SqlKeeperKeeper.get.Goals as goal

pub returns-clause-found : goal.returns-clause-found
returns-clause-found g c =
    let old = state g.D.Store c.args.self.now.conn in
    let new = state g.D.Store c.get.new.conn in
    let stays : IsTrue g.D.Lasting.lasts → HasCleanDisk new × IsTrue new.is_open =
    λ lasts. let is_open = g.met.D.Lasting.stays_open c.get.new.conn.store lasts in (open_is_clean _ _ (g.met.D.Store.shut_if_dirty c.get.new.conn.store) is_open, is_open) in
    answered_if_ok c.get.result c.answered.result _ _ _ c.answered.ensures.value c.get.ensures.found
    (λ row. lasting_finds g.D.Lasting.lasts old new (record { node = c.args.node; height = c.args.height }) (option_map (λ bytes. bytes.items) row) stays)

pub returns-clause-kept : goal.returns-clause-kept
returns-clause-kept g c =
    let old = state g.D.Store c.args.self.now.conn in
    let new = state g.D.Store c.get.new.conn in
    let stays : IsTrue g.D.Lasting.lasts → HasCleanDisk new × IsTrue new.is_open =
    λ lasts. let is_open = g.met.D.Lasting.stays_open c.get.new.conn.store lasts in (open_is_clean _ _ (g.met.D.Store.shut_if_dirty c.get.new.conn.store) is_open, is_open) in
    lasting_keeps g.D.Lasting.lasts old new stays c.get.ensures.kept
