use Rattle.std.proofs.Common.{◌≢◌, ◌∙◌, subst}
use Rattle.dx_match.specs.Sweeps.{offsets_seen}
use Rattle.dx_match.proofs.Offsets.{passed_over, ended_by}
use Rattle.dx_match.proofs.offsetting.note_code.Goals as goal

pub returns-then-code-number-clause-ok : goal.returns-then-code-number-clause-ok
returns-then-code-number-clause-ok c = λ s offset. passed_over c.args.code offset (offsets_seen s c.args.offsets.now) (c.if-code-number.true ∙ c.number.ensures)

pub returns-clause-ok : goal.returns-clause-ok
returns-clause-ok c = λ s offset. ended_by c.args.code offset (offsets_seen s c.args.offsets.now) (subst (λ n. c.args.code ≢ n) c.number.ensures c.if-code-number.false)
