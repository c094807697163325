-- The lists that a node shows one after the other.
use Rattle.std.specs.Prelude.{◌≡◌, Bool, false, IsErr}
use Rattle.dx_node_spec.specs.Node.{Node}
use Rattle.dx_node_spec.specs.Commits.{commit}
use Rattle.dx_speculation.specs.Faithful.{IsFaithful}
use Rattle.dx_speculation.specs.NodeEvents.{NodeEvent, Placing, Cancelling, CancellingAll, Pooling, Feeding, Sweeping, Committing, Replaying, after}
use Rattle.dx_feed.specs.Lists.{NamesOnce, MayFollow}
use Rattle.dx_node_spec.specs.Reads.{shown_by}

-- no good block is committed and no order is placed again, so that the list need not be told anew
abbrev pub TellsOnlyChanges : Node → NodeEvent → Type 0
TellsOnlyChanges p (Placing o) = Unit {0}
TellsOnlyChanges p (Cancelling id until) = Unit {0}
TellsOnlyChanges p (CancellingAll who) = Unit {0}
TellsOnlyChanges p (Pooling m) = Unit {0}
TellsOnlyChanges p (Feeding market price) = Unit {0}
TellsOnlyChanges p (Sweeping who) = Unit {0}
TellsOnlyChanges p (Committing b) = IsErr (commit p b)
TellsOnlyChanges p Replaying = ⊥

-- the list of a faithful node names no id twice
abbrev pub ListsNameOnce : Type 0
ListsNameOnce = (p : Node) → IsFaithful p → NamesOnce (shown_by p)

-- the list after an event may follow the one before, where it is told anew unless only its changes need be told
abbrev pub ListsMayFollow : Type 0
ListsMayFollow = (p : Node) (event : NodeEvent) (cleared : Bool) → IsFaithful p → (cleared ≡ false → TellsOnlyChanges p event)
    → MayFollow cleared (shown_by p) (shown_by (after p event))
