-- What holds of what is read.
use Rattle.std.specs.Prelude.{◌≡◌, ℕ, List, Ok}
use Rattle.dx_scenario.specs.declared.event.Event.{Event}
use Rattle.dx_scenario.specs.Events.{IsOf, event_of}

-- each event that a line says, in a scenario of any number of nodes, is of a node and a slot that are there
abbrev pub EventsAreServed : Type 0
EventsAreServed = (nodes : ℕ) (line : List ℕ) (event : Event) → event_of nodes line ≡ Ok event → IsOf nodes event
