use Rattle.dx_num.proofs.Exact.{clamp_nearest}
use Rattle.dx_num.proofs.laws.clamp_is_nearest.Goals as goal

pub returns : goal.returns
returns c = clamp_nearest
