use Rattle.dx_scenario.proofs.Rereading.{changes_are_read}
use Rattle.dx_scenario.proofs.changes.changes_are_read.Goals as goal

pub returns : goal.returns
returns c = changes_are_read
