use Rattle.std.proofs.Common.{◌∙◌}
use Rattle.dx_accounts.proofs.Settled.{then_ok}
use Rattle.dx_match.proofs.Groups.{closed_already, closes}
use Rattle.dx_match.proofs.closing.close_group.Goals as goal

pub returns-then-is_empty-clause-ok : goal.returns-then-is_empty-clause-ok
returns-then-is_empty-clause-ok c = λ s. closed_already c.args.queue.now c.args.taker.now s c.args.taking.now c.if-is_empty.ensures

pub returns-clause-ok : goal.returns-clause-ok
returns-clause-ok c =
    λ s.
    then_ok _ _ c.add_group.result
    (λ e. closes c.args.queue.now c.add_group.new.ops c.args.taker.now s c.args.taking.now c.replace-group.result c.as_slice.result.now c.replace-group.new.dest
    c.if-is_empty.ensures c.replace-group.ensures.value c.as_slice.ensures (c.replace-group.ensures.after ∙ c.new.ensures) e)
    c.add_group.ensures
