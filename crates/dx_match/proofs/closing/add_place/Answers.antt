use Rattle.dx_match.proofs.Groups.{place_pushed, place_not_short, place_held}
use Rattle.dx_match.proofs.closing.add_place.Goals as goal

pub returns-then-not-is_short_term : goal.returns-then-not-is_short_term
returns-then-not-is_short_term c = place_not_short c.args.queue.now c.args.ops.now c.args.order.now c.is_short_term.result c.is_short_term.ensures c.if-not-is_short_term.true

pub returns-then-is_placed : goal.returns-then-is_placed
returns-then-is_placed c = place_held c.args.queue.now c.args.ops.now c.as_slice.result.now c.args.order.now c.is_placed.result c.is_placed.ensures c.if-is_placed.true c.as_slice.ensures

pub returns : goal.returns
returns c =
    place_pushed c.args.queue.now c.args.ops.now c.as_slice.result.now c.push.new.self c.args.order.now c.is_short_term.result c.is_placed.result c.push.result
    c.is_short_term.ensures c.if-not-is_short_term.false c.is_placed.ensures c.if-is_placed.false c.as_slice.ensures c.push.ensures
