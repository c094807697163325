use Rattle.std.proofs.Common.{sym, ◌∙◌, ap}
use Rattle.std.specs.Prelude.{is_some}
use Rattle.dx_maps.proofs.Tables.{get_key}
use Rattle.dx_maps.proofs.table.contains.Goals as goal

pub returns : goal.returns
returns g c = c.contains_key.ensures ∙ ap is_some (sym (get_key g.K.Ord.cmp g.met.K.Ord.total c.args.table.now.entries c.args.key))
