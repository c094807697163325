use Rattle.dx_queue.proofs.Indexes.{none_kept}
use Rattle.dx_queue.proofs.queue.Queue.new.Goals as goal

pub invariant_of-result : goal.invariant_of-result
invariant_of-result c = none_kept _ _ _ c.new.ensures c.new-2.ensures.empty c.new-3.ensures.empty
