use Rattle.dx_cluster.specs.Acts.{tell_speculative}
use Rattle.dx_cluster.proofs.Worlds.{has_told}
use Rattle.dx_cluster.proofs.cluster.Cluster.speculative.Goals as goal

pub returns : goal.returns
returns c = λ w st. has_told c.args.self.now w c.args.node (tell_speculative c.args.who) c.index.result.now c.tell_speculative.result st c.requires c.index.ensures c.tell_speculative.ensures (λ p h. h)
