use Rattle.dx_num.proofs.Exact.{scaling_down}
use Rattle.dx_num.proofs.laws.scaling_down_is_floor.Goals as goal

pub returns : goal.returns
returns c = scaling_down
