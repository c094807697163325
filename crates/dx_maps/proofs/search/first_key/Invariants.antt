use Rattle.std.proofs.Common.{◌≡◌}
use Rattle.std.specs.Prelude.{find, option_map}
use Rattle.dx_maps.specs.Tables.{map_of, first_passing}
use Rattle.dx_maps.proofs.search.first_key.Given as goal

abbrev pub invariant-loop-key : goal.invariant-loop-key
invariant-loop-key g l = record {
  can : (goal.iterator-loop-key g).can_next l.key-iterator;
  ends : (goal.iterator-loop-key g).is_finite l.key-iterator;
  rest : first_passing (g.T.EntryTest.passes l.test) (map_of g.K.Ord.cmp l.table) ≡ option_map (λ e. e.0) (find (λ e. g.T.EntryTest.passes l.test e.0 e.1) l.key-iterator);
}
