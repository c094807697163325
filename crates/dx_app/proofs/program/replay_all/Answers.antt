use Rattle.dx_app.proofs.Caused.{lines_good, lines_bad, lines_long, lines_kept_bad, lines_kept_other, lines_no_usage, lines_whole}
use Rattle.dx_app.proofs.program.replay_all.Goals as goal

pub returns-clause-good : goal.returns-clause-good
returns-clause-good g c = λ rows told. lines_good rows _ _ _ _ c.answer_all.result (c.answer_all.ensures.said rows told)

pub returns-clause-bad_line : goal.returns-clause-bad_line
returns-clause-bad_line g c = λ rows told line field. lines_bad rows _ _ _ _ c.answer_all.result (c.answer_all.ensures.said rows told) line field

pub returns-clause-long : goal.returns-clause-long
returns-clause-long g c = λ rows told. lines_long rows _ _ _ _ c.answer_all.result (c.answer_all.ensures.said rows told)

pub returns-clause-kept_bad : goal.returns-clause-kept_bad
returns-clause-kept_bad g c = λ rows told node height. lines_kept_bad rows _ _ _ _ c.answer_all.result (c.answer_all.ensures.said rows told) node height

pub returns-clause-kept_other : goal.returns-clause-kept_other
returns-clause-kept_other g c = λ rows told node theirs ours. lines_kept_other rows _ _ _ _ c.answer_all.result (c.answer_all.ensures.said rows told) node theirs ours

pub returns-clause-usage : goal.returns-clause-usage
returns-clause-usage g c = λ rows told. lines_no_usage rows _ _ _ _ c.answer_all.result (c.answer_all.ensures.said rows told)

pub returns-clause-complete : goal.returns-clause-complete
returns-clause-complete g c = λ rows told. lines_whole rows _ _ _ _ c.answer_all.result (c.answer_all.ensures.said rows told) _ _ _ c.answer_all.ensures.caused.read_fault c.answer_all.ensures.caused.write_fault c.answer_all.ensures.caused.keep_fault
