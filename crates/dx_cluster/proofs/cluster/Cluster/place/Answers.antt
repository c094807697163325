use Rattle.std.proofs.Common.{refl}
use Rattle.std.proofs.lemmas.Result.{IfOk-weaker}
use Rattle.dx_cluster.specs.Acts.{place_order}
use Rattle.dx_cluster.proofs.Idling.{placing_idle}
use Rattle.dx_cluster.proofs.Worlds.{idle_at, has_acted}
use Rattle.dx_cluster.proofs.cluster.Cluster.place.Goals as goal

pub place_order-requires : goal.place_order-requires
place_order-requires c = record { idle = idle_at c.args.self.now c.args.node c.index_mut.result.now c.requires.stands c.requires.there c.index_mut.ensures.value }

pub returns-clause-done : goal.returns-clause-done
returns-clause-done c =
    IfOk-weaker c.place_order.result _ _ (λ answer acts w st.
    has_acted c.args.self.now _ w c.args.node (place_order c.args.order.now) c.index_mut.result.now c.place_order.new.node answer st c.requires.there c.index_mut.ensures.value acts (placing_idle c.args.order.now) refl refl)
    c.place_order.ensures
