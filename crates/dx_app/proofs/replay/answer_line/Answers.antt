use Rattle.std.proofs.Common.{◌∙◌, inl, ap, Err}
use Rattle.std.proofs.lemmas.Result.{on_ok_weaker, MatchResult-weaker}
use Rattle.dx_cluster.proofs.Worlds.{node_count}
use Rattle.dx_app.proofs.Counts.{caused_behind}
use Rattle.dx_text.proofs.Outputs.{nothing_front}
use Rattle.dx_app.proofs.Kept.{fault_last, unserved_stops, unreplied_stops, reply_stops}
use Rattle.dx_app.proofs.Runs.{fault_ends, unserved_ends, reply_ends, is_answered}
use Rattle.dx_app.proofs.Spared.{write_failed, spared_behind, spared_writes, unserved_spared}
use Rattle.dx_app.proofs.replay.answer_line.Goals as goal

pub returns-in-Err-clause-ended : goal.returns-in-Err-clause-ended
returns-in-Err-clause-ended g c = λ w st next.
    fault_ends _ _ _ w c.count.result c.args.number c.args.line.now c.in-Err.fault c.end_at_line.result next (node_count c.args.cluster.now w c.count.result st.0 c.count.ensures) st.1.told c.in-Err.ensures.read c.end_at_line.ensures.said

pub returns-in-Err-clause-kept : goal.returns-in-Err-clause-kept
returns-in-Err-clause-kept g c = λ w st. inl (st.1.told, fault_last _ _ w.rows c.args.number c.in-Err.fault c.end_at_line.result c.end_at_line.ensures.said)

pub returns-in-Err-serve-clause-ended : goal.returns-in-Err-serve-clause-ended
returns-in-Err-serve-clause-ended g c = λ w st next.
    unserved_ends _ _ _ w c.count.result c.args.number c.args.line.now c.in-Ok.event c.in-Err-serve.fault c.end_unserved.result next (node_count c.args.cluster.now w c.count.result st.0 c.count.ensures) c.in-Ok.ensures.read
    (c.in-Err-serve.ensures.breaks w st.0 st.1) c.end_unserved.ensures.said

pub returns-in-Err-serve-clause-kept : goal.returns-in-Err-serve-clause-kept
returns-in-Err-serve-clause-kept g c = λ w st.
    unserved_stops _ _ _ w c.count.result c.args.number c.args.line.now c.in-Ok.event (node_count c.args.cluster.now w c.count.result st.0 c.count.ensures) c.in-Ok.ensures.read
    c.in-Err-serve.fault c.end_unserved.result (c.in-Err-serve.ensures.breaks w st.0 st.1) c.end_unserved.ensures.said

pub returns-in-Err-serve-clause-caused : goal.returns-in-Err-serve-clause-caused
returns-in-Err-serve-clause-caused g c = caused_behind _ _ _ _ c.in-Err-serve.fault c.end_unserved.result (λ e. c.in-Err-serve.ensures.failed (ap Err e)) c.end_unserved.ensures.caused

pub returns-in_default-clause-kept : goal.returns-in_default-clause-kept
returns-in_default-clause-kept g c = λ w st.
    unreplied_stops _ _ _ w c.count.result c.args.number c.args.line.now c.in-Ok.event (node_count c.args.cluster.now w c.count.result st.0 c.count.ensures) c.in-Ok.ensures.read
    c.serve.new.self c.in-Ok-serve.answer (c.in-Ok-serve.ensures.done w st.0 st.1) (nothing_front _)

pub returns-clause-answered : goal.returns-clause-answered
returns-clause-answered g c =
    MatchResult-weaker c.write_text.result c.write_text.ensures.written (λ _ all w st.
    is_answered _ _ _ w c.count.result c.args.number c.args.line.now c.as_slice.result.now c.in-Ok.event c.serve.new.self c.in-Ok-serve.answer
    (node_count c.args.cluster.now w c.count.result st.0 c.count.ensures) c.in-Ok.ensures.read (c.in-Ok-serve.ensures.done w st.0 st.1) (c.as_slice.ensures ∙ c.in-Ok-reply.ensures) all) (λ _ _. tt)

pub returns-clause-ended : goal.returns-clause-ended
returns-clause-ended g c =
    MatchResult-weaker c.write_text.result c.write_text.ensures.written (λ _ _. tt) (λ s front w st next.
    reply_ends _ _ _ w c.count.result c.args.number c.args.line.now c.as_slice.result.now c.in-Ok.event c.serve.new.self c.in-Ok-serve.answer s next
    (node_count c.args.cluster.now w c.count.result st.0 c.count.ensures) c.in-Ok.ensures.read (c.in-Ok-serve.ensures.done w st.0 st.1) (c.as_slice.ensures ∙ c.in-Ok-reply.ensures) front.0 front.1)

pub returns-clause-kept : goal.returns-clause-kept
returns-clause-kept g c =
    MatchResult-weaker c.write_text.result c.write_text.ensures.written (λ _ _. tt) (λ s front w st.
    reply_stops _ _ _ w c.count.result c.args.number c.args.line.now c.in-Ok.event (node_count c.args.cluster.now w c.count.result st.0 c.count.ensures) c.in-Ok.ensures.read
    c.serve.new.self c.in-Ok-serve.answer c.as_slice.result.now (c.in-Ok-serve.ensures.done w st.0 st.1) (c.as_slice.ensures ∙ c.in-Ok-reply.ensures) front.0)

pub returns-in-Err-clause-spared : goal.returns-in-Err-clause-spared
returns-in-Err-clause-spared g c = λ plain. spared_writes _ _ _ c.end_at_line.result c.end_at_line.ensures.spared plain

pub returns-in-Err-serve-clause-spared : goal.returns-in-Err-serve-clause-spared
returns-in-Err-serve-clause-spared g c = λ plain. unserved_spared _ _ _ _ _ _ c.in-Err-serve.fault c.end_unserved.result c.in-Err-serve.ensures.still c.end_unserved.ensures.spared c.end_unserved.ensures.said plain

pub returns-clause-good : goal.returns-clause-good
returns-clause-good g c = on_ok_weaker c.write_text.result (λ e. spared_behind _ _ _ _ c.in-Ok-serve.ensures.good e) c.write_text.ensures.good

pub returns-clause-spared : goal.returns-clause-spared
returns-clause-spared g c = MatchResult-weaker c.write_text.result c.write_text.ensures.written (λ _ _. tt) (λ s front plain. absurd (write_failed s front.1 plain))
