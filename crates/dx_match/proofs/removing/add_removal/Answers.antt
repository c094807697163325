use Rattle.dx_match.proofs.Groups.{removal_pushed}
use Rattle.dx_match.proofs.removing.add_removal.Goals as goal

pub returns-clause-ok : goal.returns-clause-ok
returns-clause-ok c = λ s t. removal_pushed c.args.queue.now c.args.taker.now c.args.id.now s t c.args.taking.now c.close_group.new.taking c.push.new.self c.push.result (c.in_ok-close_group.ensures.ok s) c.push.ensures
