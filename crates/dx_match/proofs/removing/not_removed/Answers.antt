use Rattle.dx_match.proofs.Refusals.{fails}
use Rattle.dx_match.proofs.removing.not_removed.Goals as goal

pub returns-in-Code : goal.returns-in-Code
returns-in-Code c = λ step h. fails step c.args.fault c.in-Code.fill c.in-Code.code c.in-Code.is h
