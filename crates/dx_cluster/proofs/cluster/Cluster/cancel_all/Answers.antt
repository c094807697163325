use Rattle.std.proofs.Common.{refl}
use Rattle.std.proofs.lemmas.Result.{IfOk-weaker}
use Rattle.dx_cluster.specs.Acts.{cancel_orders}
use Rattle.dx_cluster.proofs.Idling.{all_cancelling_idle}
use Rattle.dx_cluster.proofs.Worlds.{idle_at, has_acted}
use Rattle.dx_cluster.proofs.cluster.Cluster.cancel_all.Goals as goal

pub cancel_orders-requires : goal.cancel_orders-requires
cancel_orders-requires c = record { idle = idle_at c.args.self.now c.args.node c.index_mut.result.now c.requires.stands c.requires.there c.index_mut.ensures.value }

pub returns-clause-done : goal.returns-clause-done
returns-clause-done c =
    IfOk-weaker c.cancel_orders.result _ _ (λ answer acts w st.
    has_acted c.args.self.now _ w c.args.node (cancel_orders c.args.who) c.index_mut.result.now c.cancel_orders.new.node answer st c.requires.there c.index_mut.ensures.value acts (all_cancelling_idle c.args.who) refl refl)
    c.cancel_orders.ensures
