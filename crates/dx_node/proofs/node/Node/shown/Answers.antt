use Rattle.std.proofs.Common.{◌≡◌}
use Rattle.std.specs.Prelude.{IfOk, List}
use Rattle.dx_types.specs.declared.Shown.{Shown}
use Rattle.dx_node_spec.specs.Reads.{book_in}
use Rattle.dx_node.specs.Held.{Held}
use Rattle.dx_node.proofs.Plain.{at_plain}
use Rattle.dx_node.proofs.node.Node.shown.Goals as goal

pub returns : goal.returns
returns c = λ p st. at_plain (λ (h : Held). IfOk c.shown_orders.result (λ (list : List Shown). list ≡ book_in h.speculative h.book)) _ c.args.self.now p c.self.view_is st c.shown_orders.ensures
