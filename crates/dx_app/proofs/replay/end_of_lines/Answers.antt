use Rattle.dx_types.specs.declared.status.Status.TheVariants as ends
use Rattle.std.proofs.Common.{Some, inl, refl}
use Rattle.std.specs.FinMap.{empty}
use Rattle.dx_app.proofs.Runs.{run_at_fault, over_ends, none_over}
use Rattle.dx_app.proofs.Kept.{says_last, silent_last}
use Rattle.dx_app.proofs.Prompt.{stops}
use Rattle.dx_text.proofs.Near.{read_near, failed_near, failed_in_line}
use Rattle.dx_app.proofs.Spared.{no_fault, spared_write, spared_streams}
use Rattle.dx_app.proofs.replay.end_of_lines.Goals as goal

pub returns-in-Err-clause-said : goal.returns-in-Err-clause-said
returns-in-Err-clause-said g c = λ w. run_at_fault _ _ _ _ _ (inl refl)

pub returns-then-more-clause-said : goal.returns-then-more-clause-said
returns-then-more-clause-said g c = λ w.
    let some = rw c.if-more.true at c.in-Ok.ensures.more in
    over_ends _ _ _ _ _ _ w c.end_long.result c.in-Ok.ensures.on some c.end_long.ensures.said

pub returns-clause-said : goal.returns-clause-said
returns-clause-said g c = λ w.
    let none = rw c.if-more.false at c.in-Ok.ensures.more in
    none_over _ _ _ _ _ w c.in-Ok.ensures.on none.0 none.1

pub returns-in-Err-clause-last : goal.returns-in-Err-clause-last
returns-in-Err-clause-last g c = silent_last _

pub returns-then-more-clause-last : goal.returns-then-more-clause-last
returns-then-more-clause-last g c = says_last _ _ (Some empty) ends.Long empty c.end_long.result (c.end_long.ensures.said empty)

pub returns-clause-last : goal.returns-clause-last
returns-clause-last g c = silent_last _

pub returns-in-Err-clause-near : goal.returns-in-Err-clause-near
returns-in-Err-clause-near g c = failed_near _ _ _ c.in-Err.ensures.empty c.in-Err.ensures.kept

pub returns-in-Err-clause-stops : goal.returns-in-Err-clause-stops
returns-in-Err-clause-stops g c = λ _. stops _ _ _ _ (failed_in_line _ _ _ c.in-Err.ensures.empty c.in-Err.ensures.kept)

pub returns-then-more-clause-near : goal.returns-then-more-clause-near
returns-then-more-clause-near g c = read_near _ _ _ _ c.in-Ok.ensures.on c.in-Ok.ensures.few

pub returns-clause-near : goal.returns-clause-near
returns-clause-near g c = read_near _ _ _ _ c.in-Ok.ensures.on c.in-Ok.ensures.few

pub returns-in-Err-clause-spared : goal.returns-in-Err-clause-spared
returns-in-Err-clause-spared g c = λ plain. absurd (no_fault ends.ReadFault ends.ReadFault refl refl plain)

pub returns-then-more-clause-spared : goal.returns-then-more-clause-spared
returns-then-more-clause-spared g c = λ plain. spared_streams _ _ _ _ c.in-Ok.ensures.good (spared_write _ _ c.end_long.result c.end_long.ensures.spared plain)

pub returns-clause-spared : goal.returns-clause-spared
returns-clause-spared g c = λ _. spared_streams _ _ _ _ c.in-Ok.ensures.good refl
