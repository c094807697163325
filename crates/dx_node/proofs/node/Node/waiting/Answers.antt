use Rattle.std.specs.FinMap.{get}
use Rattle.dx_node.proofs.Plain.{told}
use Rattle.dx_node.proofs.node.Node.waiting.Goals as goal

pub returns : goal.returns
returns c = λ p st. told (λ h. get h.committed.waiting c.args.id.now) _ c.args.self.now p c.committed_waiting.result c.self.view_is c.committed_waiting.ensures st
