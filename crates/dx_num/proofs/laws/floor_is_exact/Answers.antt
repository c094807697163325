use Rattle.dx_num.proofs.Exact.{floor_exact}
use Rattle.dx_num.proofs.laws.floor_is_exact.Goals as goal

pub returns : goal.returns
returns c = floor_exact
