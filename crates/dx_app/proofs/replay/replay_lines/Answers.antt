use Rattle.std.proofs.Common.{◌≡◌, arith}
use Rattle.dx_text.proofs.Outputs.{consumes_nothing}
use Rattle.dx_app.proofs.Runs.{run_then, run_kept, goes_on_then, goes_on_first}
use Rattle.dx_app.proofs.Kept.{executes_then, stops_here}
use Rattle.dx_app.proofs.Counts.{later_then, later_streams, caused_then, caused_by_streams}
use Rattle.dx_app.proofs.Prompt.{run_some, last_some, behind_here, whole_here}
use Rattle.dx_app.proofs.Spared.{spared_first, spared_then, spared_at_end}
use Rattle.dx_app.proofs.replay.replay_lines.Goals as goal

pub lines-init : goal.lines-init
lines-init g c = record {
  stands = c.requires;
  goes_on = λ w st. goes_on_first _ _ _ _ _ w 2 (consumes_nothing _) st;
  later = record { read_count = omega arith; write_count = omega arith; keep_count = omega arith };
  still = spared_first _ _ _;
}

pub lines-preserved : goal.lines-preserved
lines-preserved g c = record {
  stands = c.in-Ok.ensures.stands;
  goes_on = λ w st. goes_on_then _ _ _ _ _ _ _ _ _ _ _ _ _ _ c.lines.number _ (c.lines.invariant.goes_on w st) (λ v sv. c.in-Ok.ensures.goes_on v sv);
  later = later_then _ _ _ _ _ _ _ _ _ c.lines.invariant.later c.in-Ok.ensures.later;
  still = spared_then _ _ _ _ _ _ _ _ _ c.lines.invariant.still c.in-Ok.ensures.good;
}

pub returns-in-Err-clause-said : goal.returns-in-Err-clause-said
returns-in-Err-clause-said g c = λ w st. run_then _ _ _ _ _ _ _ _ _ _ _ c.lines.number c.in-Err.status (c.lines.invariant.goes_on w st) (λ v sv. c.in-Err.ensures.ended v sv)

pub returns-in-Err-clause-kept : goal.returns-in-Err-clause-kept
returns-in-Err-clause-kept g c = λ w st. executes_then _ _ _ _ _ _ _ _ _ _ _ c.lines.number (c.lines.invariant.goes_on w st) (λ v sv. c.in-Err.ensures.kept v sv)

pub returns-clause-said : goal.returns-clause-said
returns-clause-said g c = λ w st.
    let last : c.lines.number ≡ 1000001 = omega arith in
    let gone = rw last at c.lines.invariant.goes_on w st in
    run_then _ _ _ _ _ _ _ _ _ _ _ 1000001 c.end_of_lines.result gone (λ v sv. run_kept _ _ _ _ _ v.rows c.end_of_lines.result sv.1.told (c.end_of_lines.ensures.said v))

pub returns-clause-kept : goal.returns-clause-kept
returns-clause-kept g c = λ w st. executes_then _ _ _ _ _ _ _ _ _ _ _ c.lines.number (c.lines.invariant.goes_on w st) (λ v sv. stops_here v c.lines.number _ _ _ _ _ sv.1.told c.end_of_lines.ensures.last)

pub returns-in-Err-clause-no_further : goal.returns-in-Err-clause-no_further
returns-in-Err-clause-no_further g c = λ w st.
    let gone = c.lines.invariant.goes_on w st in
    behind_here _ _ _ _ _ _ _ _ _ _ _ c.lines.number gone c.in-Err.ensures.near (run_some _ _ _ _ _ c.in-Err.status (c.in-Err.ensures.ended gone.world gone.holds))

pub returns-in-Err-clause-prompt : goal.returns-in-Err-clause-prompt
returns-in-Err-clause-prompt g c = λ e w st. whole_here _ _ _ _ _ _ _ _ _ _ _ c.lines.number (c.lines.invariant.goes_on w st) (c.in-Err.ensures.stops e)

pub returns-clause-no_further : goal.returns-clause-no_further
returns-clause-no_further g c = λ w st.
    behind_here _ _ _ _ _ _ _ _ _ _ _ c.lines.number (c.lines.invariant.goes_on w st) c.end_of_lines.ensures.near (last_some _ _ c.end_of_lines.ensures.last)

pub returns-clause-prompt : goal.returns-clause-prompt
returns-clause-prompt g c = λ e w st. whole_here _ _ _ _ _ _ _ _ _ _ _ c.lines.number (c.lines.invariant.goes_on w st) (c.end_of_lines.ensures.stops e)

pub returns-in-Err-clause-later : goal.returns-in-Err-clause-later
returns-in-Err-clause-later g c = later_then _ _ _ _ _ _ _ _ _ c.lines.invariant.later c.in-Err.ensures.later

pub returns-in-Err-clause-caused : goal.returns-in-Err-clause-caused
returns-in-Err-clause-caused g c = caused_then _ _ _ _ _ _ _ _ _ c.in-Err.status c.lines.invariant.later c.in-Err.ensures.caused

pub returns-clause-later : goal.returns-clause-later
returns-clause-later g c = later_streams _ _ _ _ _ _ _ _ c.lines.invariant.later c.end_of_lines.ensures.read_count c.end_of_lines.ensures.write_count

pub returns-clause-caused : goal.returns-clause-caused
returns-clause-caused g c = caused_by_streams _ _ _ _ _ _ _ _ c.end_of_lines.result c.lines.invariant.later c.end_of_lines.ensures.caused

pub returns-in-Err-clause-spared : goal.returns-in-Err-clause-spared
returns-in-Err-clause-spared g c = λ plain. spared_then _ _ _ _ _ _ _ _ _ c.lines.invariant.still (c.in-Err.ensures.spared plain)

pub returns-clause-spared : goal.returns-clause-spared
returns-clause-spared g c = λ plain. spared_at_end _ _ _ _ _ _ _ _ c.lines.invariant.still (c.end_of_lines.ensures.spared plain)
