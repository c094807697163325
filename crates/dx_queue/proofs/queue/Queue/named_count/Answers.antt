use Rattle.std.proofs.Common.{List, length, ap, ◌∙◌}
use Rattle.std.proofs.lemmas.List.{length-map}
use Rattle.dx_types.specs.declared.Op.{Op}
use Rattle.dx_node_spec.specs.Queue.{named_by}
use Rattle.dx_queue.specs.Keys.{key_to}
use Rattle.dx_queue.proofs.queue.Queue.named_count.Goals as goal

pub returns : goal.returns
returns c =
    c.len.ensures.len ∙ ap length c.self.invariant.mentions ∙ length-map (named_by c.self.inside.ops) key_to ∙ ap (λ (ops : List Op). length (named_by ops)) c.self.view_is
