use Rattle.dx_match.specs.Takers.{takers_of}
use Rattle.dx_match.proofs.Groups.{group_pushed}
use Rattle.dx_match.proofs.closing.add_group.Goals as goal

pub returns : goal.returns
returns c =
    group_pushed c.args.queue.now c.args.ops.now c.add_places.new.ops c.add_taker.new.ops c.push.new.self c.args.taker.now c.operation.result c.args.group.now c.in_ok-fills.fills c.push.result
    (c.in_ok-add_places.ensures (takers_of c.args.taker.now)) c.in_ok-add_taker.ensures c.in_ok-fills.ensures c.operation.ensures c.push.ensures
