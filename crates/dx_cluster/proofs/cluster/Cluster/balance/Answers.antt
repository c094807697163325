use Rattle.dx_cluster.specs.Acts.{tell_balance}
use Rattle.dx_cluster.proofs.Worlds.{has_told}
use Rattle.dx_cluster.proofs.cluster.Cluster.balance.Goals as goal

pub returns : goal.returns
returns c = λ w st. has_told c.args.self.now w c.args.node (tell_balance c.args.who) c.index.result.now c.tell_balance.result st c.requires c.index.ensures c.tell_balance.ensures (λ p h. h)
