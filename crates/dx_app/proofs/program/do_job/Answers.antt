use Rattle.std.proofs.Common.{Some, refl}
use Rattle.dx_app.specs.Transcript.{self_told, generate_told}
use Rattle.dx_app.proofs.Asked.{replay_run, self_run, generate_run}
use Rattle.dx_app.proofs.Prompt.{says_some, unread}
use Rattle.dx_app.proofs.Spared.{spared_unread}
use Rattle.dx_app.proofs.program.do_job.Goals as goal

pub returns-in-Replay-clause-said : goal.returns-in-Replay-clause-said
returns-in-Replay-clause-said g c = λ rows told. replay_run rows _ _ _ _ c.answer_all.result c.args.words c.in-Replay.is (c.answer_all.ensures.said rows told)

pub returns-in-SelfRun-clause-said : goal.returns-in-SelfRun-clause-said
returns-in-SelfRun-clause-said g c = λ rows told. self_run rows _ _ _ _ c.self_run.result c.args.words c.in-SelfRun.is told c.self_run.ensures.said

pub returns-in-SelfRun-clause-no_further : goal.returns-in-SelfRun-clause-no_further
returns-in-SelfRun-clause-no_further g c = λ rows told. unread rows _ _ _ (says_some _ _ (Some rows) (self_told c.args.words.seed c.args.words.events rows) c.self_run.result (c.self_run.ensures.said rows))

pub returns-in-Generate-clause-said : goal.returns-in-Generate-clause-said
returns-in-Generate-clause-said g c = λ rows told. generate_run rows _ _ _ _ c.generate.result c.args.words c.in-Generate.is told c.generate.ensures.said

pub returns-in-Generate-clause-no_further : goal.returns-in-Generate-clause-no_further
returns-in-Generate-clause-no_further g c = λ rows told. unread rows _ _ _ (says_some _ _ (Some rows) (generate_told c.args.words.seed c.args.words.events rows) c.generate.result (c.generate.ensures.said rows))

pub returns-in-SelfRun-clause-spared : goal.returns-in-SelfRun-clause-spared
returns-in-SelfRun-clause-spared g c = λ plain. spared_unread _ _ _ _ c.self_run.result c.self_run.ensures.spared plain

pub returns-in-Generate-clause-spared : goal.returns-in-Generate-clause-spared
returns-in-Generate-clause-spared g c = λ plain. spared_unread _ _ _ _ c.generate.result c.generate.ensures.spared plain

pub returns-in-Replay-clause-own : goal.returns-in-Replay-clause-own
returns-in-Replay-clause-own g c = λ other rows. absurd (other c.in-Replay.is)

pub returns-in-SelfRun-clause-own : goal.returns-in-SelfRun-clause-own
returns-in-SelfRun-clause-own g c = λ other rows. self_run rows _ _ _ _ c.self_run.result c.args.words c.in-SelfRun.is refl c.self_run.ensures.said

pub returns-in-Generate-clause-own : goal.returns-in-Generate-clause-own
returns-in-Generate-clause-own g c = λ other rows. generate_run rows _ _ _ _ c.generate.result c.args.words c.in-Generate.is refl c.generate.ensures.said
