use Rattle.std.proofs.Common.{◌≡◌, ◌+◌, ◌≤◌, ◌<◌, Some, length, arith, sym, ap, ◌∙◌, subst}
use Rattle.std.specs.Prelude.{IsSome}
use Rattle.dx_arena.specs.Nodes.{node_at}
use Rattle.dx_book.specs.Standing.{items_in}
use Rattle.dx_book.proofs.Looking.{node_there, order_here, none_there}
use Rattle.dx_book.proofs.reading.order_at.Goals as goal

pub look-requires : goal.look-requires
look-requires c =
    let w : c.args.place < length c.args.parts.now.arrivals.items = omega arith in
    subst (λ k. IsSome (node_at c.args.parts.now.arena k)) (sym c.key_at.ensures) (node_there (items_in c.args.parts.now) c.args.parts.now c.args.place 0 c.requires w)

pub returns-then-place-len : goal.returns-then-place-len
returns-then-place-len c =
    let w : c.args.place < length c.args.parts.now.arrivals.items = omega arith in
    sym (order_here (items_in c.args.parts.now) c.args.parts.now c.args.place 0 c.look.result c.requires w (ap (node_at c.args.parts.now.arena) (sym c.key_at.ensures) ∙ c.look.ensures))

pub returns : goal.returns
returns c =
    let w : length c.args.parts.now.arrivals.items ≤ c.args.place = omega arith in
    sym (none_there (items_in c.args.parts.now) c.args.parts.now c.args.place c.requires w)
