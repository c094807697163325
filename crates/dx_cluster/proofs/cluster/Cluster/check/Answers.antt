use Rattle.std.proofs.Common.{refl}
use Rattle.std.proofs.lemmas.Result.{IfOk-weaker}
use Rattle.dx_cluster.specs.Acts.{check_slot}
use Rattle.dx_cluster.proofs.Worlds.{idle_at, slot_empty, slot_acted}
use Rattle.dx_cluster.proofs.cluster.Cluster.check.Goals as goal

pub returns-in_default-clause-done : goal.returns-in_default-clause-done
returns-in_default-clause-done c = λ w st. slot_empty c.args.self.now _ w c.args.node c.args.slot check_slot st c.requires.there c.in_default.ensures (λ p. refl) refl refl

pub check_block-requires : goal.check_block-requires
check_block-requires c = record { idle = idle_at c.args.self.now c.args.node c.index_mut.result.now c.requires.stands c.requires.there c.index_mut.ensures.value }

pub returns-clause-done : goal.returns-clause-done
returns-clause-done c =
    IfOk-weaker c.check_block.result _ _ (λ answer acts w st.
    slot_acted c.args.self.now _ w c.args.node c.args.slot check_slot c.in-Some.block.now c.index_mut.result.now c.check_block.new.node answer st c.requires.there c.in-Some.ensures c.index_mut.ensures.value acts (λ p h. h) refl refl)
    c.check_block.ensures
