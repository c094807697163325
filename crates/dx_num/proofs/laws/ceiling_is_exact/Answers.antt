use Rattle.dx_num.proofs.Exact.{ceiling_exact}
use Rattle.dx_num.proofs.laws.ceiling_is_exact.Goals as goal

pub returns : goal.returns
returns c = ceiling_exact
