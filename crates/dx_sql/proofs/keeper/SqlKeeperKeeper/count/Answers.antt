use Rattle.std.proofs.Common.{IsTrue}
use Rattle.sqlite.specs.Held.{state}
use Rattle.sqlite.specs.State.{HasCleanDisk}
use Rattle.dx_sql.proofs.Answering.{answered_if_ok}
use Rattle.dx_sql.proofs.States.{lasting_keeps, lasting_counts, open_is_clean}
use Rattle.dx_sql.proofs.keeper.SqlKeeperKeeper.count.Goals as goal

pub returns-clause-count : goal.returns-clause-count
returns-clause-count g c =
    let old = state g.D.Store c.args.self.now.conn in
    let new = state g.D.Store c.count.new.conn in
    let stays : IsTrue g.D.Lasting.lasts → HasCleanDisk new × IsTrue new.is_open =
    λ lasts. let is_open = g.met.D.Lasting.stays_open c.count.new.conn.store lasts in (open_is_clean _ _ (g.met.D.Store.shut_if_dirty c.count.new.conn.store) is_open, is_open) in
    answered_if_ok c.count.result c.answered.result _ _ _ c.answered.ensures.value c.count.ensures.count (λ n. lasting_counts g.D.Lasting.lasts old new c.args.node n stays)

pub returns-clause-kept : goal.returns-clause-kept
returns-clause-kept g c =
    let old = state g.D.Store c.args.self.now.conn in
    let new = state g.D.Store c.count.new.conn in
    let stays : IsTrue g.D.Lasting.lasts → HasCleanDisk new × IsTrue new.is_open =
    λ lasts. let is_open = g.met.D.Lasting.stays_open c.count.new.conn.store lasts in (open_is_clean _ _ (g.met.D.Store.shut_if_dirty c.count.new.conn.store) is_open, is_open) in
    lasting_keeps g.D.Lasting.lasts old new stays c.count.ensures.kept
