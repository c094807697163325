-- How a list follows changes.
use Rattle.std.specs.Prelude.{ℕ, Bool, false, not, if◌then◌else◌, List, [], ◌∷◌, ◌++◌, Result, Ok, Err, filter, map, is_none, is_some}
use Rattle.dx_types.specs.declared.OrderId.{OrderId}
use Rattle.dx_spec.specs.Step.{◌>>=◌, ◌>>◌, refuse}
use Rattle.dx_spec.specs.Orders.{is_same_id}
use Rattle.dx_types.specs.declared.Shown.{Shown}
use Rattle.dx_feed.specs.declared.Change.{Change}
use Rattle.dx_feed.specs.declared.Change.TheVariants.{Clear, Gone, Left, Add}
use Rattle.dx_feed.specs.Lists.{shown_of}

-- the list without the order of an id
abbrev pub without : List Shown → OrderId → List Shown
without list id = filter (λ s. not (is_same_id s.order.id id)) list

-- the same order with another amount left of it, where it has the id
abbrev pub left_under : OrderId → ℕ → Shown → Shown
left_under id left s = if is_same_id s.order.id id then record s { left = left } else s

-- the list with another amount left of the order of an id
abbrev pub with_left : List Shown → OrderId → ℕ → List Shown
with_left list id left = map (left_under id left) list

-- the change is of an id that is not held
abbrev pub lacks : List Shown → Change → Bool
lacks list Clear = false
lacks list (Gone id) = is_none (shown_of list id)
lacks list (Left id left) = is_none (shown_of list id)
lacks list (Add s) = false

-- the change adds an order of an id that is held
abbrev pub repeats : List Shown → Change → Bool
repeats list Clear = false
repeats list (Gone id) = false
repeats list (Left id left) = false
repeats list (Add s) = is_some (shown_of list s.order.id)

-- the list after a change
abbrev pub list_after : List Shown → Change → List Shown
list_after list Clear = []
list_after list (Gone id) = without list id
list_after list (Left id left) = with_left list id left
list_after list (Add s) = list ++ s ∷ []

-- the number of the refusal of a change of an id that is not held
abbrev pub no_such : ℕ
no_such = 1

-- the number of the refusal of an order whose id is held
abbrev pub held : ℕ
held = 2

-- the list follows a change, or refuses it
abbrev pub follow : List Shown → Change → Result (List Shown) ℕ
follow list c = do
  refuse no_such (lacks list c)
  refuse held (repeats list c)
  Ok (list_after list c)

-- the list follows changes one after another
abbrev pub follow_all : List Change → List Shown → Result (List Shown) ℕ
follow_all [] list = Ok list
follow_all (c ∷ changes) list = follow list c >>= follow_all changes
