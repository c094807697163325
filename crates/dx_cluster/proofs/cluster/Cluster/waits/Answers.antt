use Rattle.dx_cluster.specs.Acts.{tell_waits}
use Rattle.dx_cluster.proofs.Worlds.{has_told}
use Rattle.dx_cluster.proofs.cluster.Cluster.waits.Goals as goal

pub returns : goal.returns
returns c = λ w st. has_told c.args.self.now w c.args.node (tell_waits c.args.id.now) c.index.result.now c.tell_waits.result st c.requires c.index.ensures c.tell_waits.ensures (λ p h. h)
