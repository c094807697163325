use Rattle.std.proofs.Common.{sym, ◌∙◌}
use Rattle.dx_maps.proofs.Tables.{len_in_order}
use Rattle.dx_maps.proofs.table.len.Goals as goal

pub returns-clause-count : goal.returns-clause-count
returns-clause-count g c = c.len.ensures.len ∙ sym (len_in_order g.K.Ord.cmp g.met.K.Ord.total g.met.K.MapKey.exact c.args.table.now.entries c.len.ensures.ordered)
