use Rattle.dx_cluster.proofs.Above.{rows_are_above}
use Rattle.dx_cluster.proofs.laws.rows_are_above.Goals as goal

pub returns : goal.returns
returns c = rows_are_above
