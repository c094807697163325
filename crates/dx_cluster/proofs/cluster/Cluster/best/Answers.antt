use Rattle.dx_cluster.specs.Acts.{tell_best}
use Rattle.dx_cluster.proofs.Worlds.{has_told}
use Rattle.dx_cluster.proofs.cluster.Cluster.best.Goals as goal

pub returns : goal.returns
returns c = λ w st. has_told c.args.self.now w c.args.node (tell_best c.args.market) c.index.result.now c.tell_best.result st c.requires c.index.ensures c.tell_best.ensures (λ p h. h)
