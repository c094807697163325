use Rattle.dx_cluster.proofs.Owning.{own_snapshots_stay}
use Rattle.dx_cluster.proofs.laws.own_snapshots_stay.Goals as goal

pub returns : goal.returns
returns c = own_snapshots_stay
