use Rattle.std.proofs.lemmas.Result.{on_ok_weaker, MatchResult-weaker}
use Rattle.dx_app.proofs.Runs.{run_at_fault, reading_fails, line_goes_on, line_ends, broken_ends, end_ends}
use Rattle.dx_app.proofs.Kept.{says_last, silent_last, stops_here, line_stops}
use Rattle.dx_types.specs.declared.status.Status.TheVariants as ends
use Rattle.std.proofs.Common.{Some, ap, Err, refl}
use Rattle.dx_app.proofs.Prompt.{read_failed, stops}
use Rattle.dx_app.proofs.Spared.{reading_failed, spared_behind, spared_writes, spared_read}
use Rattle.dx_app.proofs.replay.next_reply.Goals as goal

pub returns-in-Err-clause-ended : goal.returns-in-Err-clause-ended
returns-in-Err-clause-ended g c = λ w st. run_at_fault _ _ _ _ c.end_reading.result (reading_fails c.in-Err.error c.end_reading.result c.end_reading.ensures)

pub returns-in-Err-clause-kept : goal.returns-in-Err-clause-kept
returns-in-Err-clause-kept g c = λ w st. stops_here w c.args.number _ _ _ _ _ st.1.told (silent_last _)

pub returns-in-Line-clause-goes_on : goal.returns-in-Line-clause-goes_on
returns-in-Line-clause-goes_on g c =
    let cuts = rw (c.in-Line.is, ← c.as_slice.ensures.value) at c.in-Ok.ensures.cut in
    on_ok_weaker c.answer_line.result (λ f w st. line_goes_on _ _ _ _ _ _ _ _ _ w c.args.number cuts c.requires.number (f w st)) c.answer_line.ensures.answered

pub returns-in-Line-clause-ended : goal.returns-in-Line-clause-ended
returns-in-Line-clause-ended g c =
    let cuts = rw (c.in-Line.is, ← c.as_slice.ensures.value) at c.in-Ok.ensures.cut in
    MatchResult-weaker c.answer_line.result c.answer_line.ensures.ended (λ _ _. tt) (λ s f w st. line_ends _ _ _ _ _ _ _ _ w c.args.number s cuts c.requires.number (f w st))

pub returns-in-Line-clause-kept : goal.returns-in-Line-clause-kept
returns-in-Line-clause-kept g c =
    let cuts = rw (c.in-Line.is, ← c.as_slice.ensures.value) at c.in-Ok.ensures.cut in
    MatchResult-weaker c.answer_line.result c.answer_line.ensures.kept (λ _ _. tt) (λ s f w st. line_stops _ _ _ _ _ _ _ _ w c.args.number cuts c.requires.number (f w st))

pub returns-in-Broken-clause-ended : goal.returns-in-Broken-clause-ended
returns-in-Broken-clause-ended g c = λ w st.
    let cuts = rw c.in-Broken.is at c.in-Ok.ensures.cut in
    broken_ends _ _ _ _ _ _ _ _ w c.args.number c.end_badly.result cuts c.requires.number st.1.told c.end_badly.ensures.said

pub returns-in-Broken-clause-kept : goal.returns-in-Broken-clause-kept
returns-in-Broken-clause-kept g c = λ w st. stops_here w c.args.number _ _ _ _ _ st.1.told (says_last _ _ (Some w.rows) (ends.BadLine c.args.number 0) w.rows c.end_badly.result (c.end_badly.ensures.said w.rows))

pub returns-in-End-clause-ended : goal.returns-in-End-clause-ended
returns-in-End-clause-ended g c = λ w st.
    let cuts = rw c.in-End.is at c.in-Ok.ensures.cut in
    end_ends _ _ _ _ _ _ _ w c.args.number cuts st.1.told

pub returns-in-End-clause-kept : goal.returns-in-End-clause-kept
returns-in-End-clause-kept g c = λ w st. stops_here w c.args.number _ _ _ _ _ st.1.told (silent_last _)

pub returns-in-Err-clause-stops : goal.returns-in-Err-clause-stops
returns-in-Err-clause-stops g c = λ e. stops _ _ _ _ (c.in-Err.ensures.in_line (ap Err (read_failed c.in-Err.error c.end_reading.result c.end_reading.ensures e)))

pub returns-in-Err-clause-spared : goal.returns-in-Err-clause-spared
returns-in-Err-clause-spared g c = λ plain. absurd (reading_failed c.in-Err.error c.end_reading.result c.end_reading.ensures plain)

pub returns-in-Line-clause-good : goal.returns-in-Line-clause-good
returns-in-Line-clause-good g c = on_ok_weaker c.answer_line.result (λ b. spared_read _ _ _ _ _ _ c.in-Ok.ensures.good b) c.answer_line.ensures.good

pub returns-in-Line-clause-spared : goal.returns-in-Line-clause-spared
returns-in-Line-clause-spared g c = MatchResult-weaker c.answer_line.result c.answer_line.ensures.spared (λ _ _. tt) (λ s f plain. spared_read _ _ _ _ _ _ c.in-Ok.ensures.good (f plain))

pub returns-in-Broken-clause-spared : goal.returns-in-Broken-clause-spared
returns-in-Broken-clause-spared g c = λ plain. spared_read _ _ _ _ _ _ c.in-Ok.ensures.good (spared_writes _ _ _ c.end_badly.result c.end_badly.ensures.spared plain)

pub returns-in-End-clause-spared : goal.returns-in-End-clause-spared
returns-in-End-clause-spared g c = λ _. spared_read _ _ _ _ _ _ c.in-Ok.ensures.good (spared_behind _ _ _ _ refl refl)
