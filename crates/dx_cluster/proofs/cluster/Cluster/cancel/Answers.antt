use Rattle.std.proofs.Common.{refl}
use Rattle.std.proofs.lemmas.Result.{IfOk-weaker}
use Rattle.dx_cluster.specs.Acts.{cancel_order}
use Rattle.dx_cluster.proofs.Idling.{cancelling_idle}
use Rattle.dx_cluster.proofs.Worlds.{idle_at, has_acted}
use Rattle.dx_cluster.proofs.cluster.Cluster.cancel.Goals as goal

pub cancel_order-requires : goal.cancel_order-requires
cancel_order-requires c = record { idle = idle_at c.args.self.now c.args.node c.index_mut.result.now c.requires.stands c.requires.there c.index_mut.ensures.value }

pub returns-clause-done : goal.returns-clause-done
returns-clause-done c =
    IfOk-weaker c.cancel_order.result _ _ (λ answer acts w st.
    has_acted c.args.self.now _ w c.args.node (cancel_order c.args.id.now c.args.until) c.index_mut.result.now c.cancel_order.new.node answer st c.requires.there c.index_mut.ensures.value acts (cancelling_idle c.args.id.now c.args.until) refl refl)
    c.cancel_order.ensures
