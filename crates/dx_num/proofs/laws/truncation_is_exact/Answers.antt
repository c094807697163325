use Rattle.dx_num.proofs.Exact.{truncation_exact}
use Rattle.dx_num.proofs.laws.truncation_is_exact.Goals as goal

pub returns : goal.returns
returns c = truncation_exact
