use Rattle.dx_cluster.proofs.Keeping.{only_commits_count}
use Rattle.dx_cluster.proofs.laws.only_commits_count.Goals as goal

pub returns : goal.returns
returns c = only_commits_count
