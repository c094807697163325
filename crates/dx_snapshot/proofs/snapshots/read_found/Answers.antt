use Rattle.dx_snapshot.proofs.Sealing.{state_of_row}
use Rattle.dx_snapshot.proofs.snapshots.read_found.Goals as goal

pub returns-in-Ok-clause-state : goal.returns-in-Ok-clause-state
returns-in-Ok-clause-state c = state_of_row c.args.g.now c.args.height _ c.in-Ok.s c.in-Ok.ensures.read
