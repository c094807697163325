use Rattle.dx_cluster.proofs.Keeping.{folds_stay_good}
use Rattle.dx_cluster.proofs.laws.folds_stay_good.Goals as goal

pub returns : goal.returns
returns c = folds_stay_good
