use Rattle.dx_num.proofs.Exact.{parts_ceiling}
use Rattle.dx_num.proofs.laws.parts_are_ceiling.Goals as goal

pub returns : goal.returns
returns c = parts_ceiling
