use Rattle.std.proofs.Common.{sym, ◌∙◌}
use Rattle.dx_match.proofs.Groups.{placed_here, placed_there}
use Rattle.dx_match.proofs.closing.placed_after.Goals as goal

pub returns-then-is_same_id : goal.returns-then-is_same_id
returns-then-is_same_id c = λ placed e. placed_here placed c.args.op.now c.in-Place.o c.args.id.now c.in-Place.is (sym c.is_same_id.ensures ∙ c.if-is_same_id.true)

pub returns-else-is_same_id : goal.returns-else-is_same_id
returns-else-is_same_id c = λ placed e. placed_there placed c.args.op.now c.in-Place.o c.args.id.now c.args.found c.in-Place.is (sym c.is_same_id.ensures ∙ c.if-is_same_id.false) e
