use Rattle.std.proofs.Common.{◌≡◌, ◌-◌, ◌⊎◌, [], ◌++◌, vec_len, false}
use Rattle.dx_text.specs.Lines.{has_newline, TakesPieces}
use Rattle.dx_text.specs.Reading.{IsNear}
use Rattle.dx_text.proofs.lines.LineReader.next_line.Given as goal

-- a piece of a line, with no newline, is taken off the front
abbrev pub invariant-pieces : goal.invariant-pieces
invariant-pieces g l = record {
  taken : TakesPieces l.fn.self l.self l.line.items (g.S.Source.left l.fn.source) (g.S.Source.left l.source);
  unbroken : has_newline l.line.items ≡ false;
  near : (l.line.items ≡ []) ⊎ IsNear (l.line.items ++ l.self);
  spared : g.S.Source.faults l.source ≡ g.S.Source.faults l.fn.source;
}

abbrev pub decreases-pieces : goal.decreases-pieces
decreases-pieces g l = 1048577 - vec_len l.line
