use Rattle.std.proofs.Common.{inr, arith, ◌∙◌}
use Rattle.dx_text.proofs.Newlines.{cuts_end, cuts_line, cuts_long, cuts_over_long, more_pieces, unbroken_more}
use Rattle.dx_text.proofs.Near.{pieces_near, stopped_near, stopped_in_line, more_near, over_near}
use Rattle.dx_text.proofs.lines.LineReader.next_line.Goals as goal

pub returns-then-not-branch-clause-cut : goal.returns-then-not-branch-clause-cut
returns-then-not-branch-clause-cut g c =
    let none = rw c.if-not-branch.true at c.in_ok-has_more.ensures.more in
    cuts_end _ _ _ _ _ _ _ _ c.pieces.invariant.taken c.in_ok-has_more.ensures.on c.pieces.invariant.unbroken none.0 none.1 c.ending.ensures

pub returns-then-len-le-LONGEST_LINE-clause-cut : goal.returns-then-len-le-LONGEST_LINE-clause-cut
returns-then-len-le-LONGEST_LINE-clause-cut g c =
    let piece = rw c.if-branch.true at c.in_ok-take.ensures in
    cuts_line _ _ _ _ _ _ _ _ _ c.pieces.invariant.taken c.in_ok-has_more.ensures.on c.pieces.invariant.unbroken piece (omega arith)

pub returns-else-len-le-LONGEST_LINE-clause-cut : goal.returns-else-len-le-LONGEST_LINE-clause-cut
returns-else-len-le-LONGEST_LINE-clause-cut g c =
    let piece = rw c.if-branch.true at c.in_ok-take.ensures in
    cuts_long _ _ _ _ _ _ _ _ _ c.pieces.invariant.taken c.in_ok-has_more.ensures.on c.pieces.invariant.unbroken piece (omega arith)

pub pieces-preserved : goal.pieces-preserved
pieces-preserved g c =
    let piece = rw c.if-branch.false at c.in_ok-take.ensures in
    record {
      taken = more_pieces _ _ _ _ _ _ _ _ _ c.pieces.invariant.taken c.in_ok-has_more.ensures.on piece;
      unbroken = unbroken_more _ _ _ _ c.pieces.invariant.unbroken piece;
      near = inr (more_near _ _ _ _ c.pieces.invariant.unbroken (omega arith) c.in_ok-has_more.ensures.few piece);
      spared = c.in_ok-has_more.ensures.good ∙ c.pieces.invariant.spared;
    }

pub returns-clause-cut : goal.returns-clause-cut
returns-clause-cut g c = cuts_over_long _ _ _ _ _ c.pieces.invariant.taken c.pieces.invariant.unbroken (omega arith)

pub returns-then-not-branch-clause-near : goal.returns-then-not-branch-clause-near
returns-then-not-branch-clause-near g c = pieces_near _ _ _ _ _ _ _ c.pieces.invariant.taken c.in_ok-has_more.ensures.on c.pieces.invariant.unbroken (omega arith) c.in_ok-has_more.ensures.few

pub returns-then-len-le-LONGEST_LINE-clause-near : goal.returns-then-len-le-LONGEST_LINE-clause-near
returns-then-len-le-LONGEST_LINE-clause-near g c = pieces_near _ _ _ _ _ _ _ c.pieces.invariant.taken c.in_ok-has_more.ensures.on c.pieces.invariant.unbroken (omega arith) c.in_ok-has_more.ensures.few

pub returns-else-len-le-LONGEST_LINE-clause-near : goal.returns-else-len-le-LONGEST_LINE-clause-near
returns-else-len-le-LONGEST_LINE-clause-near g c = pieces_near _ _ _ _ _ _ _ c.pieces.invariant.taken c.in_ok-has_more.ensures.on c.pieces.invariant.unbroken (omega arith) c.in_ok-has_more.ensures.few

pub returns-in_err-take-clause-near : goal.returns-in_err-take-clause-near
returns-in_err-take-clause-near g c = pieces_near _ _ _ _ _ _ _ c.pieces.invariant.taken c.in_ok-has_more.ensures.on c.pieces.invariant.unbroken (omega arith) c.in_ok-has_more.ensures.few

pub returns-in_err-has_more-clause-near : goal.returns-in_err-has_more-clause-near
returns-in_err-has_more-clause-near g c = stopped_near _ _ _ _ _ _ c.pieces.invariant.taken c.in_err-has_more.ensures.empty c.in_err-has_more.ensures.kept c.pieces.invariant.unbroken (omega arith)

pub returns-in_err-has_more-clause-in_line : goal.returns-in_err-has_more-clause-in_line
returns-in_err-has_more-clause-in_line g c = λ _. stopped_in_line _ _ _ _ _ _ c.pieces.invariant.taken c.in_err-has_more.ensures.empty c.in_err-has_more.ensures.kept c.pieces.invariant.unbroken

pub returns-clause-near : goal.returns-clause-near
returns-clause-near g c = over_near _ _ _ _ _ c.pieces.invariant.taken c.pieces.invariant.near (omega arith)
