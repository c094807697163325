use Rattle.std.proofs.Common.{refl}
use Rattle.std.proofs.lemmas.Result.{IfOk-weaker}
use Rattle.dx_cluster.specs.Acts.{pool_message}
use Rattle.dx_cluster.proofs.Idling.{pooling_idle}
use Rattle.dx_cluster.proofs.Worlds.{idle_at, has_acted}
use Rattle.dx_cluster.proofs.cluster.Cluster.message.Goals as goal

pub pool_message-requires : goal.pool_message-requires
pool_message-requires c = record { idle = idle_at c.args.self.now c.args.node c.index_mut.result.now c.requires.stands c.requires.there c.index_mut.ensures.value }

pub returns-clause-done : goal.returns-clause-done
returns-clause-done c =
    IfOk-weaker c.pool_message.result _ _ (λ answer acts w st.
    has_acted c.args.self.now _ w c.args.node (pool_message c.args.msg.now) c.index_mut.result.now c.pool_message.new.node answer st c.requires.there c.index_mut.ensures.value acts (pooling_idle c.args.msg.now) refl refl)
    c.pool_message.ensures
