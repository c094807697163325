use Rattle.std.proofs.Common.{arith, ◌∙◌}
use Rattle.dx_text.proofs.Outputs.{appends_piece}
use Rattle.dx_text.proofs.output.write_whole.Goals as goal

pub pieces-preserved : goal.pieces-preserved
pieces-preserved g c = record {
  within = omega (arith, c.in_ok-count.ensures.bound, c.split_at.ensures.back_len);
  written = appends_piece _ _ _ c.args.bytes.now c.split_at.result.1.now c.pieces.at c.in_ok-count.count c.pieces.invariant.written c.in_ok-count.ensures.bytes c.split_at.ensures.back;
  spared = c.in_ok-count.ensures.good (λ _. omega arith) ∙ c.pieces.invariant.spared;
}
