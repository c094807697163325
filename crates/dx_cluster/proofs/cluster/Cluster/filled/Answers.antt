use Rattle.dx_cluster.specs.Acts.{tell_filled}
use Rattle.dx_cluster.proofs.Worlds.{has_told}
use Rattle.dx_cluster.proofs.cluster.Cluster.filled.Goals as goal

pub returns : goal.returns
returns c = λ w st. has_told c.args.self.now w c.args.node (tell_filled c.args.id.now) c.index.result.now c.tell_filled.result st c.requires c.index.ensures c.tell_filled.ensures (λ p h. h)
