use Rattle.std.proofs.Common.{sym, ◌∙◌, ap}
use Rattle.std.specs.Prelude.{is_some}
use Rattle.dx_maps.proofs.Tables.{get_key, one_written}
use Rattle.dx_maps.proofs.table.insert.Goals as goal

pub returns-in-Ok-clause-ok : goal.returns-in-Ok-clause-ok
returns-in-Ok-clause-ok g c =
    one_written g.K.Ord.cmp g.met.K.Ord.total g.met.K.MapKey.exact c.args.table.now.entries c.insert.new.self.entries c.args.key c.args.value c.in-Ok.ensures.updates.0

-- a key that has a value is not refused
pub returns-clause-had : goal.returns-clause-had
returns-clause-had g c had = sym (ap is_some (get_key g.K.Ord.cmp g.met.K.Ord.total c.args.table.now.entries c.args.key ∙ c.in-Err.ensures.absent)) ∙ had
