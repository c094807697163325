use Rattle.dx_cluster.proofs.Keeping.{placings_stop_by_risk}
use Rattle.dx_cluster.proofs.laws.placings_stop_by_risk.Goals as goal

pub returns : goal.returns
returns c = placings_stop_by_risk
