use Rattle.std.proofs.Common.{sym, ◌∙◌, ap}
use Rattle.std.specs.Prelude.{find, option_map}
use Rattle.dx_maps.proofs.Tables.{entries_in_order}
use Rattle.dx_maps.proofs.search.first_key.Goals as goal

pub loop-key-init : goal.loop-key-init
loop-key-init g c = record {
  can = tt;
  ends = tt;
  rest = ap (λ es. option_map (λ e. e.0) (find (λ e. g.T.EntryTest.passes c.args.test.now e.0 e.1) es))
      (entries_in_order g.K.Ord.cmp g.met.K.Ord.total g.met.K.MapKey.exact c.args.table.now.entries c.iter-key-items.ensures.ordered
      ∙ sym (c.into_iter-key-iterator.ensures.into_iter_gives ∙ c.iter-key-items.ensures.rest));
}
