use Rattle.std.proofs.Common.{[], inr, ap, Err}
use Rattle.dx_app.proofs.Runs.{run_then, run_kept}
use Rattle.dx_app.proofs.Opening.{opened_world, unopened_ends, unopened_keeps, greeting_ends, greeting_keeps, greeted}
use Rattle.dx_app.proofs.Kept.{unserved_last, executes_none, executes_alone, executes_then}
use Rattle.dx_app.proofs.Counts.{caused_unopened, caused_opened, caused_greeting, caused_opening}
use Rattle.dx_app.proofs.Prompt.{last_some, front_some, no_further, no_further_first, replies_out, replies_out_first, behind_later, whole_later}
use Rattle.dx_app.proofs.Spared.{write_failed, unserved_spared, spared_kept, spared_unopened, spared_opened}
use Rattle.dx_app.proofs.program.answer_all.Goals as goal

pub returns-in-Err-clause-said : goal.returns-in-Err-clause-said
returns-in-Err-clause-said g c = λ rows told. run_kept _ _ _ _ _ rows c.in-Err.status told (c.in-Err.ensures.ended rows)

pub returns-in-Err-clause-kept : goal.returns-in-Err-clause-kept
returns-in-Err-clause-kept g c = λ rows told. inr (executes_none rows _ _ _ _ told c.in-Err.ensures.last)

pub returns-in-Err-clause-no_further : goal.returns-in-Err-clause-no_further
returns-in-Err-clause-no_further g c = λ rows told. no_further_first rows _ _ _ _ _ c.new-reader.ensures c.in-Err.ensures.near (last_some _ _ c.in-Err.ensures.last)

pub returns-in-Err-clause-prompt : goal.returns-in-Err-clause-prompt
returns-in-Err-clause-prompt g c = λ e rows told. replies_out_first rows _ _ _ _ _ c.new-reader.ensures (c.in-Err.ensures.stops e)

-- the nodes are not started
pub returns-in-Err-open-clause-said : goal.returns-in-Err-open-clause-said
returns-in-Err-open-clause-said g c = λ rows told.
    let ends = rw c.in-Ok.ensures.silent at c.end_unserved.ensures.said in
    unopened_ends rows c.in-Ok.first _ _ _ _ _ c.in-Ok.ensures.opened _ c.in-Err-open.fault c.end_unserved.result (c.in-Err-open.ensures.refused rows told) ends

pub returns-in-Err-open-clause-kept : goal.returns-in-Err-open-clause-kept
returns-in-Err-open-clause-kept g c = λ rows told.
    let ends = rw c.in-Ok.ensures.silent at c.end_unserved.ensures.said in
    unopened_keeps rows c.in-Ok.first _ _ _ _ _ c.in-Ok.ensures.opened _ c.in-Err-open.fault c.end_unserved.result (c.in-Err-open.ensures.refused rows told) ends

pub returns-in-Err-open-clause-no_further : goal.returns-in-Err-open-clause-no_further
returns-in-Err-open-clause-no_further g c = λ rows told.
    let ends = rw c.in-Ok.ensures.silent at c.end_unserved.ensures.said in
    no_further_first rows _ _ _ _ _ c.new-reader.ensures c.in-Ok.ensures.near (last_some _ _ (unserved_last _ _ rows c.in-Err-open.fault c.end_unserved.result ends))

-- the reply to the first line is not written
pub returns-in-Err-greet-clause-said : goal.returns-in-Err-greet-clause-said
returns-in-Err-greet-clause-said g c = λ rows told.
    let w = opened_world _ _ _ (c.in-Ok-open.ensures.opened rows told) in
    let written = c.in-Err-greet.ensures.written w.0 w.2.0 in
    let front = rw c.in-Ok.ensures.silent at written in
    greeting_ends rows c.in-Ok.first _ _ _ _ _ c.in-Ok.ensures.opened w.0 w.1 _ c.in-Err-greet.status front.0 front.1

pub returns-in-Err-greet-clause-kept : goal.returns-in-Err-greet-clause-kept
returns-in-Err-greet-clause-kept g c = λ rows told.
    let w = opened_world _ _ _ (c.in-Ok-open.ensures.opened rows told) in
    let written = c.in-Err-greet.ensures.written w.0 w.2.0 in
    let front = rw c.in-Ok.ensures.silent at written in
    greeting_keeps rows c.in-Ok.first _ _ _ _ _ c.in-Ok.ensures.opened w.0 w.1 _ w.2.1.told front.0

pub returns-in-Err-greet-clause-no_further : goal.returns-in-Err-greet-clause-no_further
returns-in-Err-greet-clause-no_further g c = λ rows told.
    let w = opened_world _ _ _ (c.in-Ok-open.ensures.opened rows told) in
    let written = c.in-Err-greet.ensures.written w.0 w.2.0 in
    let front = rw c.in-Ok.ensures.silent at written in
    no_further_first rows _ _ _ _ _ c.new-reader.ensures c.in-Ok.ensures.near (front_some _ _ _ front.0)

pub replay_lines-requires : goal.replay_lines-requires
replay_lines-requires g c = c.in-Ok-open.ensures.stands

pub returns-clause-said : goal.returns-clause-said
returns-clause-said g c = λ rows told.
    let w = opened_world _ _ _ (c.in-Ok-open.ensures.opened rows told) in
    let written = c.in-Ok-greet.ensures.written w.0 w.2.0 in
    let all = rw c.in-Ok.ensures.silent at written in
    run_then _ _ _ _ _ _ _ _ _ _ _ 2 c.replay_lines.result (greeted rows c.in-Ok.first _ _ _ _ _ c.in-Ok.ensures.opened w.0 w.1 _ _ w.2 all) (λ v sv. c.replay_lines.ensures.said v sv)

pub returns-clause-kept : goal.returns-clause-kept
returns-clause-kept g c = λ rows told.
    let w = opened_world _ _ _ (c.in-Ok-open.ensures.opened rows told) in
    let written = c.in-Ok-greet.ensures.written w.0 w.2.0 in
    let all = rw c.in-Ok.ensures.silent at written in
    inr (executes_alone rows [] _ _ _ _ (executes_then _ [] _ _ _ _ _ _ _ _ _ 2 (greeted rows c.in-Ok.first _ _ _ _ _ c.in-Ok.ensures.opened w.0 w.1 _ _ w.2 all) (λ v sv. c.replay_lines.ensures.kept v sv)))

pub returns-clause-no_further : goal.returns-clause-no_further
returns-clause-no_further g c = λ rows told.
    let w = opened_world _ _ _ (c.in-Ok-open.ensures.opened rows told) in
    let written = c.in-Ok-greet.ensures.written w.0 w.2.0 in
    let all = rw c.in-Ok.ensures.silent at written in
    no_further rows _ _ _ _ (behind_later _ _ _ _ _ _ _ _ _ _ _ 2 (greeted rows c.in-Ok.first _ _ _ _ _ c.in-Ok.ensures.opened w.0 w.1 _ _ w.2 all) (λ v sv. c.replay_lines.ensures.no_further v sv))

pub returns-clause-prompt : goal.returns-clause-prompt
returns-clause-prompt g c = λ e rows told.
    let w = opened_world _ _ _ (c.in-Ok-open.ensures.opened rows told) in
    let written = c.in-Ok-greet.ensures.written w.0 w.2.0 in
    let all = rw c.in-Ok.ensures.silent at written in
    replies_out rows _ _ _ _ (whole_later _ _ _ _ _ _ _ _ _ _ _ 2 (greeted rows c.in-Ok.first _ _ _ _ _ c.in-Ok.ensures.opened w.0 w.1 _ _ w.2 all) (λ v sv. c.replay_lines.ensures.prompt e v sv))

pub returns-in-Err-clause-caused : goal.returns-in-Err-clause-caused
returns-in-Err-clause-caused g c = caused_opening _ _ _ _ _ c.in-Err.status c.in-Err.ensures.caused

pub returns-in-Err-open-clause-caused : goal.returns-in-Err-open-clause-caused
returns-in-Err-open-clause-caused g c = caused_unopened _ _ _ _ _ _ _ c.in-Err-open.fault c.end_unserved.result c.in-Ok.ensures.write_count (λ e. c.in-Err-open.ensures.failed (ap Err e)) c.end_unserved.ensures.caused

pub returns-in-Err-greet-clause-caused : goal.returns-in-Err-greet-clause-caused
returns-in-Err-greet-clause-caused g c = caused_greeting _ _ _ _ _ _ _ c.in-Err-greet.status c.in-Ok.ensures.write_count c.in-Err-greet.ensures.caused

pub returns-clause-caused : goal.returns-clause-caused
returns-clause-caused g c =
    caused_opened _ _ _ _ _ _ _ _ _ _ c.replay_lines.result c.in-Ok.ensures.read_count c.in-Ok.ensures.write_count c.in-Ok-open.ensures.later c.in-Ok-greet.ensures.later c.replay_lines.ensures.caused

pub returns-in-Err-clause-spared : goal.returns-in-Err-clause-spared
returns-in-Err-clause-spared g c = λ plain. spared_kept _ _ _ _ _ (c.in-Err.ensures.spared plain)

pub returns-in-Err-open-clause-spared : goal.returns-in-Err-open-clause-spared
returns-in-Err-open-clause-spared g c = λ plain. spared_unopened _ _ _ _ _ _ _ c.in-Ok.ensures.quiet (unserved_spared _ _ _ _ _ _ c.in-Err-open.fault c.end_unserved.result c.in-Err-open.ensures.still c.end_unserved.ensures.spared c.end_unserved.ensures.said plain)

pub returns-in-Err-greet-clause-spared : goal.returns-in-Err-greet-clause-spared
returns-in-Err-greet-clause-spared g c = λ plain. absurd (write_failed c.in-Err-greet.status c.in-Err-greet.ensures.fails plain)

pub returns-clause-spared : goal.returns-clause-spared
returns-clause-spared g c = λ plain. spared_opened _ _ _ _ _ _ _ _ _ _ c.in-Ok.ensures.quiet c.in-Ok-open.ensures.good c.in-Ok-greet.ensures.quiet (c.replay_lines.ensures.spared plain)
