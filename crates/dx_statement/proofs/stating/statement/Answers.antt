use Rattle.std.proofs.Common.{ap, ◌∙◌}
use Rattle.dx_spec.specs.State.{State}
use Rattle.dx_lines.specs.Lines.{block_lines}
use Rattle.dx_statement.proofs.Whole.{stated}
use Rattle.dx_statement.proofs.stating.statement.Goals as goal

pub returns-clause-ok : goal.returns-clause-ok
returns-clause-ok g c =
    let s = g.L.Ledger.content c.args.l.now in
    let b = c.args.block.now in
    stated s (g.L.Ledger.content c.tell_block.new.l) (g.L.Ledger.content c.apply_block.new.l) b c.in_ok-apply_block.field-0.results c.in_ok-apply_block.field-0.triggered c.in_ok-lines.lines
    (c.in_ok-lines.ensures.same ∙ c.in_ok-check_block.ensures.same)
    (c.in_ok-lines.ensures.told ∙ ap (λ (x : State). block_lines x b) c.in_ok-check_block.ensures.same) c.in_ok-apply_block.ensures.ok
