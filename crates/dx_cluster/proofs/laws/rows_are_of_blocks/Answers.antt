use Rattle.dx_cluster.proofs.Rowed.{rows_are_of_blocks}
use Rattle.dx_cluster.proofs.laws.rows_are_of_blocks.Goals as goal

pub returns : goal.returns
returns c = rows_are_of_blocks
