use Rattle.std.proofs.lemmas.Result.{IfOk-weaker}
use Rattle.dx_cluster.specs.Acts.{tell_digest}
use Rattle.dx_cluster.proofs.Worlds.{has_told}
use Rattle.dx_cluster.proofs.cluster.Cluster.digest.Goals as goal

pub returns : goal.returns
returns c =
    IfOk-weaker c.tell_digest.result _ _ (λ answer acts w st.
    has_told c.args.self.now w c.args.node tell_digest c.index.result.now answer st c.requires c.index.ensures acts (λ p h. h))
    c.tell_digest.ensures
