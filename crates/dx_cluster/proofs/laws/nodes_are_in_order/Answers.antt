use Rattle.dx_cluster.proofs.Keeping.{nodes_are_in_order}
use Rattle.dx_cluster.proofs.laws.nodes_are_in_order.Goals as goal

pub returns : goal.returns
returns c = nodes_are_in_order
