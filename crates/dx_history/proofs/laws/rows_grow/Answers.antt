use Rattle.dx_history.proofs.Growing.{grown, apart_from}
use Rattle.dx_history.proofs.laws.rows_grow.Goals as goal

pub returns-clause-grown : goal.returns-clause-grown
returns-clause-grown c = grown

pub returns-clause-apart : goal.returns-clause-apart
returns-clause-apart c = apart_from
