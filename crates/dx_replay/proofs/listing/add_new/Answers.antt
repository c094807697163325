use Rattle.dx_replay.proofs.Turns.{named_already, named_anew}
use Rattle.dx_replay.proofs.listing.add_new.Goals as goal

pub returns-then-is_listed : goal.returns-then-is_listed
returns-then-is_listed c = named_already c.args.list.now c.as_slice.result.now c.args.found c.in-Some.order c.is_listed.result c.in-Some.is c.is_listed.ensures c.if-is_listed.true c.as_slice.ensures

pub returns : goal.returns
returns c =
    named_anew c.args.list.now c.as_slice.result.now c.push.new.self c.args.found c.in-Some.order c.is_listed.result c.push.result c.in-Some.is c.is_listed.ensures c.if-is_listed.false c.as_slice.ensures c.push.ensures
