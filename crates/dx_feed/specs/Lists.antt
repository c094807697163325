-- A list of resting orders, each with what is left of it, and when it may follow another one.
use Rattle.std.specs.Prelude.{◌≡◌, Bool, false, not, List, [], ◌∷◌, ◌++◌, Option, None, find, filter, map}
use Rattle.std.specs.Option.{option_map_or}
use Rattle.dx_types.specs.declared.OrderId.{OrderId}
use Rattle.dx_types.specs.declared.Order.{Order}
use Rattle.dx_spec.specs.Orders.{is_same_id, is_same_order}
use Rattle.dx_types.specs.declared.Shown.{Shown}

-- what the list shows under an id
abbrev pub shown_of : List Shown → OrderId → Option Shown
shown_of list id = find (λ s. is_same_id s.order.id id) list

-- no id is named twice
abbrev pub NamesOnce : List Shown → Type 0
NamesOnce [] = Unit {0}
NamesOnce (s ∷ list) = (shown_of list s.order.id ≡ None) × NamesOnce list

-- the list holds the order as it is, whatever is left of it
abbrev pub holds : List Shown → Order → Bool
holds list o = option_map_or (λ s. is_same_order s.order o) (shown_of list o.id) false

-- the orders, without what is left of them
abbrev pub orders : List Shown → List Order
orders list = map (λ s. s.order) list

-- what the old list shows of orders that the new one holds as they are
abbrev pub still_held : List Shown → List Shown → List Shown
still_held old now = filter (λ s. holds now s.order) old

-- what the new list shows of orders that the old one does not hold as they are
abbrev pub new_ones : List Shown → List Shown → List Shown
new_ones old now = filter (λ s. not (holds old s.order)) now

-- the orders that both lists hold as they are keep their order, and stand in the new list before all its others
abbrev pub KeepsOrder : List Shown → List Shown → Type 0
KeepsOrder old now = orders now ≡ orders (still_held old now) ++ orders (new_ones old now)

-- a lawful successor of the list
pub record MayFollow (cleared : Bool) (old now : List Shown) : Type 0 where
  pub once : NamesOnce now
  pub in_order : cleared ≡ false → KeepsOrder old now
