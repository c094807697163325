use Rattle.dx_app.proofs.Caused.{run_good, run_bad, run_long, run_kept_bad, run_kept_other, run_usage, run_whole}
use Rattle.std.specs.FinMap.{empty}
use Rattle.dx_app.proofs.program.run.Goals as goal

pub returns-clause-good : goal.returns-clause-good
returns-clause-good g c = λ rows told. run_good _ rows _ _ _ _ c.obey.result (c.obey.ensures.said rows told)

pub returns-clause-bad_line : goal.returns-clause-bad_line
returns-clause-bad_line g c = λ rows told line field. run_bad _ rows _ _ _ _ c.obey.result (c.obey.ensures.said rows told) line field

pub returns-clause-long : goal.returns-clause-long
returns-clause-long g c = λ rows told. run_long _ rows _ _ _ _ c.obey.result (c.obey.ensures.said rows told)

pub returns-clause-kept_bad : goal.returns-clause-kept_bad
returns-clause-kept_bad g c = λ rows told node height. run_kept_bad _ rows _ _ _ _ c.obey.result (c.obey.ensures.said rows told) node height

pub returns-clause-kept_other : goal.returns-clause-kept_other
returns-clause-kept_other g c = λ rows told node theirs ours. run_kept_other _ rows _ _ _ _ c.obey.result (c.obey.ensures.said rows told) node theirs ours

pub returns-clause-usage : goal.returns-clause-usage
returns-clause-usage g c = λ rows told. run_usage _ rows _ _ _ _ c.obey.result (c.obey.ensures.said rows told)

pub returns-clause-complete : goal.returns-clause-complete
returns-clause-complete g c = λ rows told. run_whole _ rows _ _ _ _ c.obey.result (c.obey.ensures.said rows told) _ _ _ c.obey.ensures.caused.read_fault c.obey.ensures.caused.write_fault c.obey.ensures.caused.keep_fault

pub returns-clause-own_good : goal.returns-clause-own_good
returns-clause-own_good g c = λ other rows. run_good _ rows _ _ _ _ c.obey.result (c.obey.ensures.own other rows)

pub returns-clause-own_usage : goal.returns-clause-own_usage
returns-clause-own_usage g c = λ other. run_usage _ empty _ _ _ _ c.obey.result (c.obey.ensures.own other empty)

pub returns-clause-own_whole : goal.returns-clause-own_whole
returns-clause-own_whole g c = λ other rows. run_whole _ rows _ _ _ _ c.obey.result (c.obey.ensures.own other rows) _ _ _ c.obey.ensures.caused.read_fault c.obey.ensures.caused.write_fault c.obey.ensures.caused.keep_fault
