-- What changed from one list to the next.
use Rattle.std.specs.Prelude.{Bool, not, ◌&&◌, ◌==◌, if◌then◌else◌, List, ◌∷◌, ◌++◌, Option, Some, None, filter, map, filter_map}
use Rattle.std.specs.Option.{option_map_or}
use Rattle.dx_spec.specs.Orders.{is_same_order}
use Rattle.dx_types.specs.declared.Shown.{Shown}
use Rattle.dx_feed.specs.declared.Change.{Change}
use Rattle.dx_feed.specs.declared.Change.TheVariants.{Clear, Gone, Left, Add}
use Rattle.dx_feed.specs.Lists.{shown_of, holds, new_ones}

-- each order that the new list does not hold as it is has gone
abbrev pub gone_from : List Shown → List Shown → List Change
gone_from old now = map (λ s. Gone s.order.id) (filter (λ s. not (holds now s.order)) old)

-- what is left now of an order, where it is the same order and another amount
abbrev pub left_now : Shown → Shown → Option Change
left_now s n = if is_same_order n.order s.order && not (n.left == s.left) then Some (Left s.order.id n.left) else None

-- the same of what the new list shows under its id
abbrev pub left_in : List Shown → Shown → Option Change
left_in now s = option_map_or (left_now s) (shown_of now s.order.id) None

-- each order that both lists hold as it is, of which another amount is left
abbrev pub left_of : List Shown → List Shown → List Change
left_of old now = filter_map (left_in now) old

-- each order of a list is added
abbrev pub all_added : List Shown → List Change
all_added list = map Add list

-- the changes from one list to the next; where it was cleared, the whole list anew
unfoldable pub changes : Bool → List Shown → List Shown → List Change
changes cleared old now =
    if cleared then Clear ∷ all_added now
    else (gone_from old now ++ left_of old now ++ all_added (new_ones old now))
