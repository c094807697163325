use Rattle.std.proofs.Common.{ap, sym, ◌∙◌}
use Rattle.dx_node_spec.specs.Taking.{within_limits}
use Rattle.dx_match.proofs.Turns.{if_ok}
use Rattle.dx_match.proofs.closing.close.Goals as goal

pub returns-clause-ok : goal.returns-clause-ok
returns-clause-ok c =
    λ s. if_ok _ _ c.end.result (λ t e. ap (within_limits c.args.queue.now) (sym (c.in_ok-close_group.ensures.ok s)) ∙ e) (c.end.ensures.ok s)

pub returns-clause-full : goal.returns-clause-full
returns-clause-full c = λ s e. ap (within_limits c.args.queue.now) (sym (c.in_ok-close_group.ensures.ok s)) ∙ c.end.ensures.full s e
