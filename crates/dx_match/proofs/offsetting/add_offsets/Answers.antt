use Rattle.std.proofs.Common.{rules}
use Rattle.dx_match.proofs.Offsets.{no_offsets, offsets_pushed}
use Rattle.dx_match.proofs.offsetting.add_offsets.Goals as goal

pub returns-then-is_empty-clause-ok : goal.returns-then-is_empty-clause-ok
returns-then-is_empty-clause-ok c = λ s t. no_offsets c.args.who c.args.market s t c.args.taking.now c.args.offsets c.if-is_empty.ensures

pub returns-clause-ok : goal.returns-clause-ok
returns-clause-ok c =
    λ s t.
    offsets_pushed c.args.who c.args.market s t c.args.taking.now c.args.offsets c.push.new.self _ c.push.result c.if-is_empty.ensures
    (search rules) c.push.ensures
