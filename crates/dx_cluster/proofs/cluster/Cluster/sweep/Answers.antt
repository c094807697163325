use Rattle.std.proofs.Common.{refl}
use Rattle.std.proofs.lemmas.Result.{IfOk-weaker}
use Rattle.dx_cluster.specs.Acts.{sweep_account}
use Rattle.dx_cluster.proofs.Idling.{sweeping_idle}
use Rattle.dx_cluster.proofs.Worlds.{idle_at, has_acted}
use Rattle.dx_cluster.proofs.cluster.Cluster.sweep.Goals as goal

pub sweep_account-requires : goal.sweep_account-requires
sweep_account-requires c = record { idle = idle_at c.args.self.now c.args.node c.index_mut.result.now c.requires.stands c.requires.there c.index_mut.ensures.value }

pub returns-clause-done : goal.returns-clause-done
returns-clause-done c =
    IfOk-weaker c.sweep_account.result _ _ (λ answer acts w st.
    has_acted c.args.self.now _ w c.args.node (sweep_account c.args.who) c.index_mut.result.now c.sweep_account.new.node answer st c.requires.there c.index_mut.ensures.value acts (sweeping_idle c.args.who) refl refl)
    c.sweep_account.ensures
