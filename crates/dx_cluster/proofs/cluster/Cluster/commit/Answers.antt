use Rattle.std.proofs.Common.{refl, Some}
use Rattle.dx_cluster.specs.Acts.{commit_slot}
use Rattle.dx_cluster.proofs.Idling.{committing_idle}
use Rattle.dx_cluster.proofs.Kept.{with_rows, commit_kept, empty_kept, commit_ended, both_done, stands_done, both_err, on_ok, commit_fits}
use Rattle.dx_cluster.proofs.Worlds.{idle_at, slot_empty, slot_acted}
use Rattle.dx_cluster.proofs.cluster.Cluster.commit.Goals as goal

pub returns-in_default-clause-done : goal.returns-in_default-clause-done
returns-in_default-clause-done g c = λ w st h. (
  with_rows _ _ _ _ (slot_empty c.args.self.now _ w c.args.node c.args.slot commit_slot st c.requires.there c.in_default.ensures (λ p. refl) refl refl),
  empty_kept c.args.self.now w c.args.node c.args.slot _ st c.requires.there c.in_default.ensures h,
)

pub returns-in_default-clause-stands : goal.returns-in_default-clause-stands
returns-in_default-clause-stands g c =
    let st = c.requires.stands.1 in
    (c.requires.stands.0, record { nodes = st.nodes; slots = st.slots; idle = st.idle })

pub commit_block-requires : goal.commit_block-requires
commit_block-requires g c = record { idle = idle_at c.args.self.now c.args.node c.index_mut.result.now c.requires.stands c.requires.there c.index_mut.ensures.value }

pub returns-clause-done : goal.returns-clause-done
returns-clause-done g c =
    both_done c.commit_block.result _ _ _ (λ answer acts kept w st h. (
      with_rows _ _ _ _
          (slot_acted c.args.self.now _ w c.args.node c.args.slot commit_slot c.in-Some.block.now c.index_mut.result.now c.commit_block.new.node answer st c.requires.there c.in-Some.ensures c.index_mut.ensures.value acts (committing_idle (Some c.in-Some.block.now)) refl refl),
      commit_kept c.args.self.now w c.args.node c.args.slot c.in-Some.block.now c.index_mut.result.now (g.K.Keeper.rows c.args.keeper.now) _ st c.requires.there c.in-Some.ensures c.index_mut.ensures.value kept h,
    ))
    c.commit_block.ensures.done c.commit_block.ensures.kept

pub returns-clause-stands : goal.returns-clause-stands
returns-clause-stands g c =
    stands_done c.commit_block.result _ _ (λ answer acts. (_, (slot_acted c.args.self.now _ c.requires.stands.0 c.args.node c.args.slot commit_slot c.in-Some.block.now c.index_mut.result.now c.commit_block.new.node answer c.requires.stands.1 c.requires.there c.in-Some.ensures c.index_mut.ensures.value acts (committing_idle (Some c.in-Some.block.now)) refl refl).stands))
    c.commit_block.ensures.done

pub returns-clause-breaks : goal.returns-clause-breaks
returns-clause-breaks g c =
    both_err c.commit_block.result _ _ _ (λ fault outside either w st h.
    commit_ended c.args.self.now w c.args.node c.args.slot c.in-Some.block.now c.index_mut.result.now (g.K.Keeper.rows c.args.keeper.now) _ fault st c.requires.there c.in-Some.ensures c.index_mut.ensures.value outside either h)
    c.commit_block.ensures.outside c.commit_block.ensures.either

pub returns-clause-fits : goal.returns-clause-fits
returns-clause-fits g c =
    on_ok c.commit_block.result _ _ (λ kept w st.
    commit_fits c.args.self.now w c.args.node c.args.slot c.in-Some.block.now c.index_mut.result.now (g.K.Keeper.rows c.args.keeper.now) _ st c.requires.there c.in-Some.ensures c.index_mut.ensures.value kept)
    c.commit_block.ensures.kept
