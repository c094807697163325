use Rattle.dx_cluster.proofs.Resuming.{next_run_goes_on}
use Rattle.dx_cluster.proofs.laws.next_run_goes_on.Goals as goal

pub returns : goal.returns
returns c = next_run_goes_on
