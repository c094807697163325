use Rattle.dx_cluster.proofs.Keeping.{proposals_are_good}
use Rattle.dx_cluster.proofs.laws.proposals_are_good.Goals as goal

pub returns : goal.returns
returns c = proposals_are_good
