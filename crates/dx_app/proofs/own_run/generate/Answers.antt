use Rattle.std.proofs.Common.{◌≡◌, ◌∷◌, ◌∙◌, Some, length, ap, subst, arith, rules}
use Rattle.std.specs.Io.KnownBytes.{Appends}
use Rattle.dx_text.specs.Output.{AppendsFront}
use Rattle.dx_app.specs.Transcript.{generated, generate_told}
use Rattle.dx_app.proofs.Generated.{writes_more, writes_part}
use Rattle.dx_app.proofs.Runs.{says_at_fault}
use Rattle.dx_app.proofs.own_run.generate.Goals as goal

pub returns-in-Err-clause-said : goal.returns-in-Err-clause-said
returns-in-Err-clause-said g c = λ rows.
    let next : c.lines.lines ≡ c.in-Some.line ∷ c.next_line.new.self = search rules in
    let before = g.W.Sink.written c.lines.sink in
    let now = g.W.Sink.written c.write_text.new.sink in
    let front : AppendsFront before now c.in-Some.line = subst (λ xs. AppendsFront before now xs) c.as_slice.ensures c.in-Err.ensures.written.0 in
    says_at_fault (g.W.Sink.written c.args.sink.now) now (Some rows) (generate_told c.args.seed c.args.events rows) c.in-Err.status c.in-Err.ensures.written.1
    (writes_part (generated c.args.seed c.args.events) (g.W.Sink.written c.args.sink.now) before c.lines.lines c.lines.invariant.writes now c.in-Some.line c.next_line.new.self next front)

pub lines-preserved : goal.lines-preserved
lines-preserved g c =
    let next : c.lines.lines ≡ c.in-Some.line ∷ c.next_line.new.self = search rules in
    let one_less : length c.lines.lines ≡ length (c.in-Some.line ∷ c.next_line.new.self) = ap length next in
    let before = g.W.Sink.written c.lines.sink in
    let now = g.W.Sink.written c.write_text.new.sink in
    let wrote : Appends before now c.in-Some.line = subst (λ xs. Appends before now xs) c.as_slice.ensures c.in-Ok-write_text.ensures.written in
    record {
      writes = writes_more (generated c.args.seed c.args.events) (g.W.Sink.written c.args.sink.now) before c.lines.lines c.lines.invariant.writes now c.in-Some.line
          c.next_line.new.self next wrote;
      left = omega (arith, one_less, c.lines.invariant.left);
      later = omega (arith, c.lines.invariant.later, c.write_text.ensures.later);
      spared = c.in-Ok-write_text.ensures.good ∙ c.lines.invariant.spared;
    }
