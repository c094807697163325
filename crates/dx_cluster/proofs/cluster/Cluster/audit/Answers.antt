use Rattle.dx_cluster.specs.Acts.{tell_audit}
use Rattle.dx_cluster.proofs.Worlds.{has_told}
use Rattle.dx_cluster.proofs.cluster.Cluster.audit.Goals as goal

pub returns : goal.returns
returns c = λ w st. has_told c.args.self.now w c.args.node tell_audit c.index.result.now c.tell_audit.result st c.requires c.index.ensures c.tell_audit.ensures (λ p h. h)
