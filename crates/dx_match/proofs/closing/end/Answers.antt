use Rattle.std.proofs.Common.{◌∙◌}
use Rattle.dx_match.proofs.Groups.{ends_within, ends_beyond}
use Rattle.dx_match.proofs.closing.end.Goals as goal

pub returns-then-has_too_many-clause-full : goal.returns-then-has_too_many-clause-full
returns-then-has_too_many-clause-full c =
    λ s e.
    ends_beyond c.args.queue.now c.as_slice.result.now c.as_slice-2.result.now s c.args.taking c.has_too_many.result
    c.has_too_many.ensures c.if-has_too_many.true (c.as_slice.ensures ∙ c.ops.ensures.list) c.as_slice-2.ensures

pub returns-clause-ok : goal.returns-clause-ok
returns-clause-ok c =
    λ s.
    ends_within c.args.queue.now c.as_slice.result.now c.as_slice-2.result.now s c.args.taking c.has_too_many.result c.requires
    c.has_too_many.ensures c.if-has_too_many.false (c.as_slice.ensures ∙ c.ops.ensures.list) c.as_slice-2.ensures
