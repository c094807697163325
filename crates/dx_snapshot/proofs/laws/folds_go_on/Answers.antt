use Rattle.dx_spec.specs.State.{genesis_state}
use Rattle.dx_spec.proofs.Folds.{fold_on}
use Rattle.dx_snapshot.proofs.laws.folds_go_on.Goals as goal

pub returns : goal.returns
returns c = λ g first later s e. fold_on (genesis_state g) first later s e
