-- The stages of a taking.
use Rattle.std.specs.Prelude.{ℕ, Bool, not, ◌||◌, ◌==◌, if◌then◌else◌, List, Result, filter}
use Rattle.dx_types.specs.declared.Order.{Order}
use Rattle.dx_types.specs.declared.Op.{Op}
use Rattle.dx_spec.specs.State.{State, is_same_account}
use Rattle.dx_spec.specs.Orders.{crosses}
use Rattle.dx_node_spec.specs.Book.{left, without, side_of}
use Rattle.dx_node_spec.specs.Taking.{Taken, leaves, closed_match, after_try, closes_nothing, ended, looked_again, try_maker}

-- the order takes no more: its taking is over, it is stopped, or it has nothing left
abbrev pub is_over : Order → Taken → Bool
is_over o t = t.over || not (t.stop == 0) || left t.state o == 0

-- what a tried fill of the order leads to
unfoldable pub tried : List Op → Order → Order → ℕ → Taken → Result State ℕ → Taken
tried queue o maker amount t step =
    after_try (closed_match queue o) (λ code. record t { stop = code }) maker amount t step

-- the order takes a maker
unfoldable pub take_maker : List Op → Order → Taken → Order → Taken
take_maker queue o t maker =
    if is_same_account maker.id.who o.id.who then leaves maker.id t
    else if closes_nothing t.state o then ended t
    else looked_again o maker (try_maker queue o t maker)

-- the side of the book that the order looks at, the best price first, and then the earliest
unfoldable pub opposite : List Order → Order → List Order
opposite book o = side_of book o.id.market (not o.buy)

-- of these the makers that the order crosses; its own id stands aside
unfoldable pub takable : Order → List Order → List Order
takable o orders = filter (crosses o) (without orders o.id)
