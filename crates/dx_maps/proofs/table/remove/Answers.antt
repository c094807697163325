use Rattle.std.proofs.Common.{sym, ◌∙◌}
use Rattle.dx_maps.proofs.Tables.{get_key, one_removed}
use Rattle.dx_maps.proofs.table.remove.Goals as goal

pub returns-clause-had : goal.returns-clause-had
returns-clause-had g c = c.remove.ensures.value ∙ sym (get_key g.K.Ord.cmp g.met.K.Ord.total c.args.table.now.entries c.args.key)

pub returns-clause-removed : goal.returns-clause-removed
returns-clause-removed g c =
    one_removed g.K.Ord.cmp g.met.K.Ord.total g.met.K.MapKey.exact c.args.table.now.entries c.remove.new.self.entries c.args.key c.remove.ensures.updates.0
