use Rattle.std.proofs.Common.{inr, refl}
use Rattle.dx_app.proofs.Asked.{job_is, asked_job, unasked_run, unasked_last, asked_run}
use Rattle.dx_app.proofs.Kept.{executes_none}
use Rattle.dx_app.proofs.Prompt.{last_some, unread}
use Rattle.dx_app.proofs.Spared.{spared_unread}
use Rattle.dx_app.proofs.program.obey.Goals as goal

pub returns-in-Err-clause-said : goal.returns-in-Err-clause-said
returns-in-Err-clause-said g c = λ rows told. unasked_run rows _ _ _ _ c.end_unasked.result _ c.in-Err.fault c.in-Err.ensures.usage told c.end_unasked.ensures.said

pub returns-in-Err-clause-kept : goal.returns-in-Err-clause-kept
returns-in-Err-clause-kept g c = λ ask rows told. inr (executes_none rows _ _ _ _ told (unasked_last _ _ rows c.in-Err.fault c.end_unasked.result c.end_unasked.ensures.said))

pub returns-in-Err-clause-no_further : goal.returns-in-Err-clause-no_further
returns-in-Err-clause-no_further g c = λ rows told. unread rows _ _ _ (last_some _ _ (unasked_last _ _ rows c.in-Err.fault c.end_unasked.result c.end_unasked.ensures.said))

pub returns-in-Ok-clause-said : goal.returns-in-Ok-clause-said
returns-in-Ok-clause-said g c = λ rows told. asked_run rows _ _ _ _ c.do_job.result _ c.in-Ok.asked c.in-Ok.ensures.read (c.do_job.ensures.said rows told)

pub returns-in-Ok-clause-kept : goal.returns-in-Ok-clause-kept
returns-in-Ok-clause-kept g c = λ ask. c.do_job.ensures.kept (job_is _ c.in-Ok.asked _ c.in-Ok.ensures.read ask)

pub returns-in-Ok-clause-keeper_spared : goal.returns-in-Ok-clause-keeper_spared
returns-in-Ok-clause-keeper_spared g c = λ other. c.do_job.ensures.keeper_spared (λ e. other (asked_job _ c.in-Ok.asked _ c.in-Ok.ensures.read e))

pub returns-in-Ok-clause-source_spared : goal.returns-in-Ok-clause-source_spared
returns-in-Ok-clause-source_spared g c = λ other. c.do_job.ensures.source_spared (λ e. other (asked_job _ c.in-Ok.asked _ c.in-Ok.ensures.read e))

pub returns-in-Ok-clause-done : goal.returns-in-Ok-clause-done
returns-in-Ok-clause-done g c = λ e ask. c.do_job.ensures.done e (job_is _ c.in-Ok.asked _ c.in-Ok.ensures.read ask)

pub returns-in-Err-clause-spared : goal.returns-in-Err-clause-spared
returns-in-Err-clause-spared g c = λ plain. spared_unread _ _ _ _ c.end_unasked.result c.end_unasked.ensures.spared plain

pub returns-in-Err-clause-own : goal.returns-in-Err-clause-own
returns-in-Err-clause-own g c = λ other rows. unasked_run rows _ _ _ _ c.end_unasked.result _ c.in-Err.fault c.in-Err.ensures.usage refl c.end_unasked.ensures.said

pub returns-in-Ok-clause-own : goal.returns-in-Ok-clause-own
returns-in-Ok-clause-own g c = λ other rows. asked_run rows _ _ _ _ c.do_job.result _ c.in-Ok.asked c.in-Ok.ensures.read (c.do_job.ensures.own (λ e. other (asked_job _ c.in-Ok.asked _ c.in-Ok.ensures.read e)) rows)
