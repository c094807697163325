use Rattle.dx_num.proofs.Exact.{scaling_up}
use Rattle.dx_num.proofs.laws.scaling_up_is_exact.Goals as goal

pub returns : goal.returns
returns c = scaling_up
