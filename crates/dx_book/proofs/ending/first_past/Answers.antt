use Rattle.std.proofs.Common.{false, ◌∙◌}
use Rattle.dx_book.specs.Expiries.{is_over}
use Rattle.dx_book.specs.Standing.{items_in}
use Rattle.dx_book.proofs.Expired.{order_there}
use Rattle.dx_book.proofs.ending.first_past.Goals as goal

pub returns : goal.returns
returns c = c.order_at.ensures ∙ order_there (is_over false c.args.time) (items_in c.args.parts.now) c.args.parts.now c.first_over.result c.requires c.first_over.ensures
