-- What a line of a feed says, and how it is written.
use Rattle.std.specs.Prelude.{◌≡◌, ℕ, ◌≤◌, Bool, if◌then◌else◌, List, ◌∷◌, Option, Some, None, option_and_then, Result, Ok, codes}
use Rattle.std.specs.Str.{bytes_eq}
use Rattle.serde_json.specs.Data.{Data, number, unsigned, string, array, Items, no_items, item}
use Rattle.serde_json.specs.Find.{as_str}
use Rattle.serde_json.specs.Written.{compact_text}
use Rattle.dx_types.specs.declared.OrderId.{OrderId}
use Rattle.dx_types.specs.declared.Order.{Order}
use Rattle.dx_spec.specs.Step.{◌>>=◌, ◌>>◌}
use Rattle.dx_spec.specs.Orders.{byte_of_kind}
use Rattle.dx_feed.specs.declared.Change.{Change}
use Rattle.dx_feed.specs.declared.Change.TheVariants.{Clear, Gone, Left, Add}
use Rattle.dx_scenario.specs.declared.changes.ChangeWord.{ChangeWord}
use Rattle.dx_scenario.specs.declared.changes.ChangeWord.TheVariants as words
use Rattle.dx_scenario.specs.Parts.{value_of, part, closed, nat_part, u64_part}
use Rattle.dx_scenario.specs.Names.{order_id_part}
use Rattle.dx_scenario.specs.Orders.{order_part}

-- the last node that a feed may be of
abbrev pub last_node : ℕ
last_node = 15

-- the word of a text
abbrev pub change_named : List ℕ → Option ChangeWord
change_named text =
    if bytes_eq text (codes "clear") then Some words.Clear
    else (if bytes_eq text (codes "gone") then Some words.Gone
    else (if bytes_eq text (codes "left") then Some words.Left
    else (if bytes_eq text (codes "add") then Some words.Add else None)))

-- behind `clear` and the node: nothing
unfoldable pub clear_in : Data → Result Change ℕ
clear_in d = do
  closed 0 2 d
  Ok Clear

-- behind `gone` and the node: an order's id
unfoldable pub gone_in : Data → Result Change ℕ
gone_in d = do
  id ← order_id_part 0 2 d
  closed 0 3 d
  Ok (Gone id)

-- behind `left` and the node: an order's id and what is left of it
unfoldable pub left_in : Data → Result Change ℕ
left_in d = do
  id ← order_id_part 0 2 d
  left ← u64_part 0 3 d
  closed 0 4 d
  Ok (Left id left)

-- behind `add` and the node: an order and what is left of it
unfoldable pub add_in : Data → Result Change ℕ
add_in d = do
  order ← order_part 0 2 d
  left ← u64_part 0 3 d
  closed 0 4 d
  Ok (Add (record { order = order; left = left }))

-- the change of a word
unfoldable pub change_behind : Data → ChangeWord → Result Change ℕ
change_behind d words.Clear = clear_in d
change_behind d words.Gone = gone_in d
change_behind d words.Left = left_in d
change_behind d words.Add = add_in d

-- the first element, a word
abbrev pub change_word : Data → Result ChangeWord ℕ
change_word d = part (λ v. option_and_then change_named (as_str v)) 0 0 d

-- the node and the change of a line's value
unfoldable pub change_in : Data → Result (ℕ × Change) ℕ
change_in d = do
  word ← change_word d
  node ← nat_part 0 last_node 0 1 d
  change ← change_behind d word
  Ok (node, change)

-- the node and the change of a line; whatever is wrong in it, the place is 0
abbrev pub change_of : List ℕ → Result (ℕ × Change) ℕ
change_of line = value_of line >>= change_in

-- a number before others
abbrev pub with_number : ℕ → Items → Items
with_number n items = item (number (unsigned n)) items

-- the five elements of an order's id, before others
abbrev pub id_items : OrderId → Items → Items
id_items id items =
    with_number id.who.owner (with_number id.who.number (with_number id.client (with_number id.flags (with_number id.market items))))

-- an order's id as a value
abbrev pub id_data : OrderId → Data
id_data id = array (id_items id no_items)

-- an order as a value: 1 buys and 0 sells
abbrev pub order_data : Order → Data
order_data o =
    array (id_items o.id (with_number (if o.buy then 1 else 0) (with_number o.size (with_number o.subticks
    (with_number o.until (with_number (byte_of_kind o.kind) no_items))))))

-- the word and the node of a line, before the rest
abbrev pub line_data : List ℕ → ℕ → Items → Data
line_data word node items = array (item (string word) (with_number node items))

-- the value of a line
abbrev pub change_data : ℕ → Change → Data
change_data node Clear = line_data (codes "clear") node no_items
change_data node (Gone id) = line_data (codes "gone") node (item (id_data id) no_items)
change_data node (Left id left) = line_data (codes "left") node (item (id_data id) (with_number left no_items))
change_data node (Add s) = line_data (codes "add") node (item (order_data s.order) (with_number s.left no_items))

-- the line of a change of a node, without its newline: compact JSON
unfoldable pub change_text : ℕ → Change → List ℕ
change_text node change = compact_text (change_data node change)

-- the numbers of an order's id are of 32 bits
pub record HasIdWidths (id : OrderId) : Type 0 where
  pub owner : id.who.owner ≤ 4_294_967_295
  pub number : id.who.number ≤ 4_294_967_295
  pub client : id.client ≤ 4_294_967_295
  pub flags : id.flags ≤ 4_294_967_295
  pub market : id.market ≤ 4_294_967_295

-- those of an order are of 32 bits, and its amounts of 64
pub record HasOrderWidths (o : Order) : Type 0 where
  pub id : HasIdWidths o.id
  pub size : o.size ≤ 18_446_744_073_709_551_615
  pub subticks : o.subticks ≤ 18_446_744_073_709_551_615
  pub until : o.until ≤ 4_294_967_295

-- and those of a change
abbrev pub HasWidths : Change → Type 0
HasWidths Clear = Unit {0}
HasWidths (Gone id) = HasIdWidths id
HasWidths (Left id left) = HasIdWidths id × (left ≤ 18_446_744_073_709_551_615)
HasWidths (Add s) = HasOrderWidths s.order × (s.left ≤ 18_446_744_073_709_551_615)

-- a line is read as a change of a node, where a feed may be of that node
abbrev pub IsReadAs : ℕ → Change → List ℕ → Type 0
IsReadAs node c line = node ≤ last_node → change_of line ≡ Ok (node, c)

-- the line of a change is read as that change of that node
abbrev pub ChangesAreRead : Type 0
ChangesAreRead = (node : ℕ) (c : Change) → node ≤ last_node → HasWidths c → change_of (change_text node c) ≡ Ok (node, c)
