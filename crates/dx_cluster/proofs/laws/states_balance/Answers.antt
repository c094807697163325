use Rattle.dx_cluster.proofs.Keeping.{states_balance}
use Rattle.dx_cluster.proofs.laws.states_balance.Goals as goal

pub returns : goal.returns
returns c = states_balance
