use Rattle.dx_cluster.proofs.Agreeing.{committed_replies_agree}
use Rattle.dx_cluster.proofs.laws.committed_replies_agree.Goals as goal

pub returns : goal.returns
returns c = committed_replies_agree
