use Rattle.std.proofs.Common.{rules, ◌≡◌, ◌++◌, false}
use Rattle.dx_spec.specs.Blocks.{has_too_many_ops}
use Rattle.dx_queue.proofs.Indexes.{more_kept}
use Rattle.dx_queue.proofs.queue.Queue.push.Goals as goal

pub invariant_of-self-2 : goal.invariant_of-self-2
invariant_of-self-2 c =
    let within : has_too_many_ops (c.self.inside.ops ++ c.as_slice-more.result.now) ≡ false = search rules in
    let joined : c.append.new.ops ≡ c.self.inside.ops ++ c.as_slice-more.result.now = search rules in
    more_kept _ _ _ _ _ _ _ _ _ c.self.invariant within c.make_room.ensures.placed c.make_room.ensures.named joined c.note_orders.ensures c.note_mentions.ensures
