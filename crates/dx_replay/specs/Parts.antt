-- The list to place again, by the parts of a node.
use Rattle.std.specs.Prelude.{ℕ, if◌then◌else◌, List, Option, Some, None}
use Rattle.std.specs.Option.{option_or}
use Rattle.std.specs.FinMap.{get}
use Rattle.dx_types.specs.declared.OrderId.{OrderId}
use Rattle.dx_types.specs.declared.Order.{Order}
use Rattle.dx_types.specs.declared.Op.{Op}
use Rattle.dx_types.specs.declared.Msg.{Msg}
use Rattle.dx_spec.specs.State.{State, is_short_term}
use Rattle.dx_node_spec.specs.Book.{resting}
use Rattle.dx_node_spec.specs.Queue.{placed_by}
use Rattle.dx_node_spec.specs.Commits.{holds_as_is, placed_by_message, placed_by_messages}

-- the order of an id that a queue mentions: a short-term one as it rests, else as it was placed last; any other as the
-- state has it
abbrev pub again_of : List Op → List Order → State → OrderId → Option Order
again_of queue book after id =
    if is_short_term id then option_or (resting book id) (get (placed_by queue) id)
    else get after.stateful id

-- the order, if there is one and the state has it as it is
abbrev pub if_held : State → Option Order → Option Order
if_held after None = None
if_held after (Some o) = if holds_as_is after o then Some o else None

-- the order that a message placed, where its result is good and the state has the order as it is
abbrev pub newly : State → Msg → ℕ → Option Order
newly after m code = if_held after (placed_by_message (m, code))

-- the orders of all messages that are such
unfoldable pub new_orders : State → List Msg → List ℕ → List Order
new_orders after msgs results = placed_by_messages after msgs results
