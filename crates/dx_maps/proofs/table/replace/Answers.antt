use Rattle.std.proofs.Common.{sym, ◌∙◌, ap}
use Rattle.std.specs.Prelude.{is_some}
use Rattle.std.proofs.lemmas.Bool.{false≢true}
use Rattle.dx_maps.proofs.Tables.{get_key, one_written}
use Rattle.dx_maps.proofs.table.replace.Goals as goal

pub returns-clause-had : goal.returns-clause-had
returns-clause-had g c = get_key g.K.Ord.cmp g.met.K.Ord.total c.args.table.now.entries c.args.key ∙ sym c.in-Ok-Some.ensures.old ∙ c.in-Ok-Some.field-0-is

pub returns-clause-set : goal.returns-clause-set
returns-clause-set g c =
    one_written g.K.Ord.cmp g.met.K.Ord.total g.met.K.MapKey.exact c.args.table.now.entries c.insert.new.self.entries c.args.key c.args.value c.in-Ok-Some.ensures.updates.0

-- the key has a value
pub unreachable-requires : goal.unreachable-requires
unreachable-requires g c = false≢true (sym (ap is_some (get_key g.K.Ord.cmp g.met.K.Ord.total c.args.table.now.entries c.args.key ∙ sym c.in-Ok-None.ensures.old ∙ c.in-Ok-None.field-0-is)) ∙ c.requires)

pub unreachable-requires-in-Err : goal.unreachable-requires-in-Err
unreachable-requires-in-Err g c = false≢true (sym (ap is_some (get_key g.K.Ord.cmp g.met.K.Ord.total c.args.table.now.entries c.args.key ∙ c.in-Err.ensures.absent)) ∙ c.requires)
