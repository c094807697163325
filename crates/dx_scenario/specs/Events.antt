-- What a line from the second on says.
use Rattle.std.specs.Prelude.{◌≡◌, ℕ, ◌<◌, ◌≤◌, List, Result, Ok, Err}
use Rattle.serde_json.specs.Data.{Data}
use Rattle.dx_spec.specs.Step.{◌>>=◌}
use Rattle.dx_scenario.specs.declared.event.Event.{Event}
use Rattle.dx_scenario.specs.declared.event.Event.TheVariants.{Place, Cancel, CancelAll, Message, Feed, Sweep, Restart, Propose, Handed, Show, Check, Commit, Balance, Spec, Filled, Best, Audit, Digest, Waits, Snap, Resume}
use Rattle.dx_print.specs.declared.words.Word.{Word}
use Rattle.dx_print.specs.declared.words.Word.TheVariants as words
use Rattle.dx_scenario.specs.Parts.{value_of, word_part, last_slot}
use Rattle.dx_scenario.specs.Behind.{lone_node, node_and_account, node_and_slot, place_event, cancel_event, message_event, feed_event, propose_event, handed_event, show_event, node_and_id, best_event, resume_event}

-- the word of an event
abbrev pub word_of : Event → Word
word_of (Place node order) = words.Place
word_of (Cancel node id until) = words.Cancel
word_of (CancelAll node who) = words.CancelAll
word_of (Message node msg) = words.Message
word_of (Feed node market price) = words.Feed
word_of (Sweep node who) = words.Sweep
word_of (Propose node slot time) = words.Propose
word_of (Handed slot block) = words.Block
word_of (Show slot) = words.Show
word_of (Check node slot) = words.Check
word_of (Commit node slot) = words.Commit
word_of (Balance node who) = words.Balance
word_of (Spec node who) = words.Spec
word_of (Filled node id) = words.Filled
word_of (Best node market) = words.Best
word_of (Audit node) = words.Audit
word_of (Digest node) = words.Digest
word_of (Restart node) = words.Restart
word_of (Waits node id) = words.Waits
word_of (Snap node) = words.Snap
word_of (Resume node height) = words.Resume

-- the event of a word and of the elements behind it; `genesis` is unknown on a later line
unfoldable pub event_behind : ℕ → Data → Word → Result Event ℕ
event_behind nodes d words.Genesis = Err 0
event_behind nodes d words.Place = place_event nodes d
event_behind nodes d words.Cancel = cancel_event nodes d
event_behind nodes d words.CancelAll = node_and_account nodes d >>= λ r. Ok (CancelAll r.0 r.1)
event_behind nodes d words.Message = message_event nodes d
event_behind nodes d words.Feed = feed_event nodes d
event_behind nodes d words.Sweep = node_and_account nodes d >>= λ r. Ok (Sweep r.0 r.1)
event_behind nodes d words.Propose = propose_event nodes d
event_behind nodes d words.Block = handed_event d
event_behind nodes d words.Show = show_event d
event_behind nodes d words.Check = node_and_slot nodes d >>= λ r. Ok (Check r.0 r.1)
event_behind nodes d words.Commit = node_and_slot nodes d >>= λ r. Ok (Commit r.0 r.1)
event_behind nodes d words.Balance = node_and_account nodes d >>= λ r. Ok (Balance r.0 r.1)
event_behind nodes d words.Spec = node_and_account nodes d >>= λ r. Ok (Spec r.0 r.1)
event_behind nodes d words.Filled = node_and_id nodes d >>= λ r. Ok (Filled r.0 r.1)
event_behind nodes d words.Best = best_event nodes d
event_behind nodes d words.Audit = lone_node nodes d >>= λ node. Ok (Audit node)
event_behind nodes d words.Digest = lone_node nodes d >>= λ node. Ok (Digest node)
event_behind nodes d words.Restart = lone_node nodes d >>= λ node. Ok (Restart node)
event_behind nodes d words.Waits = node_and_id nodes d >>= λ r. Ok (Waits r.0 r.1)
event_behind nodes d words.Snap = lone_node nodes d >>= λ node. Ok (Snap node)
event_behind nodes d words.Resume = resume_event nodes d

-- the event of a line, in a scenario of so many nodes, or the place of what is wrong
abbrev pub event_of : ℕ → List ℕ → Result Event ℕ
event_of nodes line = value_of line >>= λ d. word_part d >>= event_behind nodes d

-- the event's node is one of the nodes, its slot is one of the slots, and the id of a cancel is that of a short-term order
abbrev pub IsOf : ℕ → Event → Type 0
IsOf nodes (Place node order) = node < nodes
IsOf nodes (Cancel node id until) = (node < nodes) × (id.flags ≡ 0)
IsOf nodes (CancelAll node who) = node < nodes
IsOf nodes (Message node msg) = node < nodes
IsOf nodes (Feed node market price) = node < nodes
IsOf nodes (Sweep node who) = node < nodes
IsOf nodes (Restart node) = node < nodes
IsOf nodes (Propose node slot time) = (node < nodes) × (slot ≤ last_slot)
IsOf nodes (Handed slot block) = slot ≤ last_slot
IsOf nodes (Show slot) = slot ≤ last_slot
IsOf nodes (Check node slot) = (node < nodes) × (slot ≤ last_slot)
IsOf nodes (Commit node slot) = (node < nodes) × (slot ≤ last_slot)
IsOf nodes (Balance node who) = node < nodes
IsOf nodes (Spec node who) = node < nodes
IsOf nodes (Filled node id) = node < nodes
IsOf nodes (Best node market) = node < nodes
IsOf nodes (Audit node) = node < nodes
IsOf nodes (Digest node) = node < nodes
IsOf nodes (Waits node id) = node < nodes
IsOf nodes (Snap node) = node < nodes
IsOf nodes (Resume node height) = node < nodes
