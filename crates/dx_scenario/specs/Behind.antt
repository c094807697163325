-- What stands behind the word of a line.
use Rattle.std.specs.Prelude.{ℕ, Result, Ok}
use Rattle.serde_json.specs.Data.{Data}
use Rattle.dx_types.specs.declared.SubaccountId.{SubaccountId}
use Rattle.dx_types.specs.declared.OrderId.{OrderId}
use Rattle.dx_scenario.specs.declared.event.Event.{Event}
use Rattle.dx_scenario.specs.declared.event.Event.TheVariants.{Place, Cancel, Message, Feed, Propose, Handed, Show, Best, Filled, Resume}
use Rattle.dx_spec.specs.Step.{◌>>=◌, ◌>>◌}
use Rattle.dx_scenario.specs.Parts.{line_ends, line_u32, u64_part, node_part, slot_part}
use Rattle.dx_scenario.specs.Names.{subaccount_part, order_id_part, short_term_id_part}
use Rattle.dx_scenario.specs.Orders.{order_part}
use Rattle.dx_scenario.specs.Messages.{msg_part}
use Rattle.dx_scenario.specs.Blocks.{block_in}

-- behind `audit`, `digest`, `restart` and `snap`: node
unfoldable pub lone_node : ℕ → Data → Result ℕ ℕ
lone_node nodes d = do
  node ← node_part nodes d
  line_ends 2 d
  Ok node

-- behind `cancelall`, `sweep`, `balance` and `spec`: node and account
unfoldable pub node_and_account : ℕ → Data → Result (ℕ × SubaccountId) ℕ
node_and_account nodes d = do
  node ← node_part nodes d
  who ← subaccount_part 2 2 d
  line_ends 3 d
  Ok (node, who)

-- behind `check` and `commit`: node and slot
unfoldable pub node_and_slot : ℕ → Data → Result (ℕ × ℕ) ℕ
node_and_slot nodes d = do
  node ← node_part nodes d
  slot ← slot_part 2 d
  line_ends 3 d
  Ok (node, slot)

-- behind `place`: node and order
unfoldable pub place_event : ℕ → Data → Result Event ℕ
place_event nodes d = do
  node ← node_part nodes d
  order ← order_part 2 2 d
  line_ends 3 d
  Ok (Place node order)

-- behind `cancel`: node, a short-term order's id without its flags, and until
unfoldable pub cancel_event : ℕ → Data → Result Event ℕ
cancel_event nodes d = do
  node ← node_part nodes d
  id ← short_term_id_part 2 2 d
  until ← line_u32 3 d
  line_ends 4 d
  Ok (Cancel node id until)

-- behind `message`: node and message
unfoldable pub message_event : ℕ → Data → Result Event ℕ
message_event nodes d = do
  node ← node_part nodes d
  msg ← msg_part 2 2 d
  line_ends 3 d
  Ok (Message node msg)

-- behind `feed`: node, market and price
unfoldable pub feed_event : ℕ → Data → Result Event ℕ
feed_event nodes d = do
  node ← node_part nodes d
  market ← line_u32 2 d
  price ← u64_part 3 3 d
  line_ends 4 d
  Ok (Feed node market price)

-- behind `propose`: node, slot and time
unfoldable pub propose_event : ℕ → Data → Result Event ℕ
propose_event nodes d = do
  node ← node_part nodes d
  slot ← slot_part 2 d
  time ← line_u32 3 d
  line_ends 4 d
  Ok (Propose node slot time)

-- behind `block`: slot and block
unfoldable pub handed_event : Data → Result Event ℕ
handed_event d = do
  slot ← slot_part 1 d
  block ← block_in d
  line_ends 8 d
  Ok (Handed slot block)

-- behind `show`: slot
unfoldable pub show_event : Data → Result Event ℕ
show_event d = do
  slot ← slot_part 1 d
  line_ends 2 d
  Ok (Show slot)

-- behind `filled` and `waits`: node and order id
unfoldable pub node_and_id : ℕ → Data → Result (ℕ × OrderId) ℕ
node_and_id nodes d = do
  node ← node_part nodes d
  id ← order_id_part 2 2 d
  line_ends 3 d
  Ok (node, id)

-- behind `best`: node and market
unfoldable pub best_event : ℕ → Data → Result Event ℕ
best_event nodes d = do
  node ← node_part nodes d
  market ← line_u32 2 d
  line_ends 3 d
  Ok (Best node market)

-- behind `resume`: node and height
unfoldable pub resume_event : ℕ → Data → Result Event ℕ
resume_event nodes d = do
  node ← node_part nodes d
  height ← line_u32 2 d
  line_ends 3 d
  Ok (Resume node height)
