use Rattle.std.proofs.Common.{sym, ◌∙◌}
use Rattle.dx_maps.proofs.Tables.{get_key}
use Rattle.dx_maps.proofs.table.get_copy.Goals as goal

pub returns : goal.returns
returns g c = c.copied.ensures ∙ c.get.ensures.value ∙ sym (get_key g.K.Ord.cmp g.met.K.Ord.total c.args.table.now.entries c.args.key)
