use Rattle.std.proofs.Common.{refl}
use Rattle.dx_cluster.proofs.Worlds.{idle_at, has_proposed, has_not_proposed}
use Rattle.dx_cluster.proofs.cluster.Cluster.propose.Goals as goal

pub propose-requires : goal.propose-requires
propose-requires c = record { idle = idle_at c.args.self.now c.args.node c.index.result.now c.requires.stands c.requires.there c.index.ensures }

pub returns-in_ok-fill-in-Ok-clause-done : goal.returns-in_ok-fill-in-Ok-clause-done
returns-in_ok-fill-in-Ok-clause-done c =
    λ w st. has_proposed c.args.self.now _ w c.args.node c.args.slot c.args.time c.index.result.now c.in-Ok.proposal c.proposed-answer.result st c.requires.there c.index.ensures c.in-Ok.ensures.ok c.proposed-answer.ensures refl c.in_ok-fill-in-Ok.ensures.ok

pub returns-in-Err-clause-done : goal.returns-in-Err-clause-done
returns-in-Err-clause-done c =
    has_not_proposed c.args.self.now c.args.node c.args.slot c.args.time c.index.result.now c.refusal.result c.refused_or_memory.result c.requires.there c.index.ensures (λ p st. rw c.refusal.ensures (c.in-Err.ensures.refused p st)) c.refused_or_memory.ensures
