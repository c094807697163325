use Rattle.dx_cluster.proofs.Keeping.{folds_go_on}
use Rattle.dx_cluster.proofs.laws.folds_go_on.Goals as goal

pub returns : goal.returns
returns c = folds_go_on
