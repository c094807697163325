use Rattle.dx_types.specs.declared.status.Status.TheVariants as ends
use Rattle.std.proofs.Common.{Some, ap, Err, refl}
use Rattle.std.specs.FinMap.{empty}
use Rattle.dx_app.proofs.Runs.{run_at_fault, reading_fails}
use Rattle.dx_app.proofs.Opening.{broken_opening, no_opening, opens, opening_ends}
use Rattle.dx_app.proofs.Kept.{says_last, silent_last, fault_last}
use Rattle.dx_app.proofs.Prompt.{read_failed, stops}
use Rattle.dx_app.proofs.Spared.{reading_failed, spared_write, spared_streams}
use Rattle.dx_app.proofs.program.open.Goals as goal

pub returns-in-Err-clause-ended : goal.returns-in-Err-clause-ended
returns-in-Err-clause-ended g c = λ rows. run_at_fault _ _ _ _ c.end_reading.result (reading_fails c.in-Err.error c.end_reading.result c.end_reading.ensures)

pub returns-in-Err-clause-last : goal.returns-in-Err-clause-last
returns-in-Err-clause-last g c = silent_last _

pub returns-in-Broken-clause-ended : goal.returns-in-Broken-clause-ended
returns-in-Broken-clause-ended g c = λ rows.
    let cuts = rw c.in-Broken.is at c.in-Ok.ensures.cut in
    broken_opening _ _ _ _ _ _ _ rows c.end_badly.result c.requires cuts c.end_badly.ensures.said

pub returns-in-Broken-clause-last : goal.returns-in-Broken-clause-last
returns-in-Broken-clause-last g c = says_last _ _ (Some empty) (ends.BadLine 1 0) empty c.end_badly.result (c.end_badly.ensures.said empty)

pub returns-in-End-clause-ended : goal.returns-in-End-clause-ended
returns-in-End-clause-ended g c = λ rows.
    let cuts = rw c.in-End.is at c.in-Ok.ensures.cut in
    no_opening _ _ _ _ _ _ _ rows c.end_badly-in-End.result c.requires cuts c.end_badly-in-End.ensures.said

pub returns-in-End-clause-last : goal.returns-in-End-clause-last
returns-in-End-clause-last g c = says_last _ _ (Some empty) (ends.BadLine 1 0) empty c.end_badly-in-End.result (c.end_badly-in-End.ensures.said empty)

pub returns-in-Ok-read_genesis-clause-opened : goal.returns-in-Ok-read_genesis-clause-opened
returns-in-Ok-read_genesis-clause-opened g c =
    let cuts = rw (c.in-Line.is, ← c.as_slice.ensures.value) at c.in-Ok.ensures.cut in
    opens _ _ _ _ _ c.in-Ok-read_genesis.first c.requires cuts c.in-Ok-read_genesis.ensures.read

pub returns-in-Ok-read_genesis-clause-last : goal.returns-in-Ok-read_genesis-clause-last
returns-in-Ok-read_genesis-clause-last g c = silent_last _

pub returns-clause-ended : goal.returns-clause-ended
returns-clause-ended g c = λ rows.
    let cuts = rw (c.in-Line.is, ← c.as_slice.ensures.value) at c.in-Ok.ensures.cut in
    opening_ends _ _ _ _ _ _ _ rows c.in-Err-read_genesis.fault c.end_at_line.result c.requires cuts c.in-Err-read_genesis.ensures.read c.end_at_line.ensures.said

pub returns-clause-last : goal.returns-clause-last
returns-clause-last g c = fault_last _ _ empty 1 c.in-Err-read_genesis.fault c.end_at_line.result c.end_at_line.ensures.said

pub returns-in-Err-clause-stops : goal.returns-in-Err-clause-stops
returns-in-Err-clause-stops g c = λ e. stops _ _ _ _ (c.in-Err.ensures.in_line (ap Err (read_failed c.in-Err.error c.end_reading.result c.end_reading.ensures e)))

pub returns-in-Err-clause-spared : goal.returns-in-Err-clause-spared
returns-in-Err-clause-spared g c = λ plain. absurd (reading_failed c.in-Err.error c.end_reading.result c.end_reading.ensures plain)

pub returns-in-Broken-clause-spared : goal.returns-in-Broken-clause-spared
returns-in-Broken-clause-spared g c = λ plain. spared_streams _ _ _ _ c.in-Ok.ensures.good (spared_write _ _ c.end_badly.result c.end_badly.ensures.spared plain)

pub returns-in-End-clause-spared : goal.returns-in-End-clause-spared
returns-in-End-clause-spared g c = λ plain. spared_streams _ _ _ _ c.in-Ok.ensures.good (spared_write _ _ c.end_badly-in-End.result c.end_badly-in-End.ensures.spared plain)

pub returns-in-Ok-read_genesis-clause-quiet : goal.returns-in-Ok-read_genesis-clause-quiet
returns-in-Ok-read_genesis-clause-quiet g c = spared_streams _ _ _ _ c.in-Ok.ensures.good refl

pub returns-clause-spared : goal.returns-clause-spared
returns-clause-spared g c = λ plain. spared_streams _ _ _ _ c.in-Ok.ensures.good (spared_write _ _ c.end_at_line.result c.end_at_line.ensures.spared plain)
