-- Whose fills a group has, and the operations of a group.
use Rattle.std.specs.Prelude.{List, [], ◌∷◌, ◌++◌}
use Rattle.dx_types.specs.declared.OrderId.{OrderId}
use Rattle.dx_types.specs.declared.Order.{Order}
use Rattle.dx_types.specs.declared.Fill.{Fill}
use Rattle.dx_types.specs.declared.Op.{Op}
use Rattle.dx_types.specs.declared.Op.TheVariants.{Match, Liquidate, Remove}
use Rattle.dx_spec.specs.State.{State}
use Rattle.dx_node_spec.specs.Queue.{placed_by, places}
use Rattle.dx_node_spec.specs.Taking.{Taken, Filled, fills_of, makers_in, closed}
use Rattle.dx_match.specs.declared.taken.Taker.{Taker}
use Rattle.dx_match.specs.declared.taken.Taker.TheVariants.{Placed, Liquidated}

-- the orders that are placed behind the makers
abbrev pub takers_of : Taker → List Order
takers_of (Placed o) = o ∷ []
takers_of (Liquidated who market) = []

-- the operation that has the fills
abbrev pub op_of : Taker → List Fill → Op
op_of (Placed o) = Match o.id
op_of (Liquidated who market) = Liquidate who market

-- the taker's group closed
abbrev pub closed_for : List Op → Taker → Taken → Taken
closed_for queue taker = closed queue (takers_of taker) (op_of taker)

-- a taking with the removal of an order behind the group that it closes, in the state after it
abbrev pub with_removal : List Op → Taker → OrderId → State → Taken → Taken
with_removal queue taker id s t =
    let u = closed_for queue taker t in
    record u { state = s; ops = u.ops ++ Remove id ∷ [] }

-- operations with those of a group of fills behind them
unfoldable pub with_group : List Op → Taker → List Op → List Filled → List Op
with_group queue taker ops group =
    ops ++ places (placed_by (queue ++ ops)) (makers_in group ++ takers_of taker) ++ op_of taker (fills_of group) ∷ []
