use Rattle.dx_queue.proofs.Indexes.{holds_ok, noted}
use Rattle.dx_queue.proofs.places.note.Goals as goal

pub returns-clause-agrees : goal.returns-clause-agrees
returns-clause-agrees c =
    noted c.args.placed.now.entries c.insert.new.self.entries c.args.order c.of.result c.of.ensures (holds_ok _ _ _ c.unwrap-before.ensures c.insert.ensures.updates).0
