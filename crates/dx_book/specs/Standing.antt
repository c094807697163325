-- What is kept of the parts of a book.
use Rattle.std.specs.Prelude.{ℕ, Bool, ◌≡◌, ◌+◌, ◌≤◌, T, false, if◌then◌else◌, ◌==◌, true, List, [], ◌∷◌, length, map, find, filter_map, Option, option_map, vec_capacity}
use Rattle.std.specs.declared.cmp.Ordering.{Ordering}
use Rattle.std.specs.FinMap.Entries as rows
use Rattle.dx_types.specs.Keys.{order_id_cmp, subaccount_cmp}
use Rattle.dx_types.specs.declared.SubaccountId.{SubaccountId}
use Rattle.dx_types.specs.declared.OrderId.{OrderId}
use Rattle.dx_types.specs.declared.Order.{Order}
use Rattle.dx_spec.specs.Orders.{is_same_id}
use Rattle.dx_node_spec.specs.Book.{HasOnePerId}
use Rattle.dx_arena.specs.Nodes.{Nodes, node_at}
use Rattle.dx_book.specs.Chains.{ends_of}
use Rattle.dx_book.specs.Arrivals.{IsNumbered}
use Rattle.dx_book.specs.Names.{level_cmp, expiry_cmp, level_of, expiry_of}
use Rattle.dx_book.specs.Held.{Held, Item, item_at, chain_of, node_in, most_held}
use Rattle.dx_book.specs.declared.ends.Ends.{Ends}
use Rattle.dx_book.specs.declared.names.Level.{Level}
use Rattle.dx_book.specs.declared.names.Expiry.{Expiry}
use Rattle.dx_book.specs.declared.parts.Parts.{Parts}

-- the orders of an arena under these keys
abbrev pub item_in : Nodes → ℕ → Option Item
item_in a key = option_map (λ n. record { key = key; order = n.order }) (node_at a key)

abbrev pub items_in : Parts → List Item
items_in p = filter_map (item_in p.arena) p.arrivals.items

abbrev pub orders_in : Parts → List Order
orders_in p = map (λ x. x.order) (items_in p)

-- whether a list of keys has one
abbrev pub has : ℕ → List ℕ → Bool
has key [] = false
has key (k ∷ ks) = if k == key then true else has key ks

-- no key stands twice
abbrev pub AreDistinct : List ℕ → Type 0
AreDistinct [] = Unit {0}
AreDistinct (k ∷ ks) = (has k ks ≡ false) × AreDistinct ks

-- the one with an id, if there is one
abbrev pub item_of : OrderId → List Item → Option Item
item_of id items = find (λ x. is_same_id x.order.id id) items

-- a table of the ends of chains has those of each name
abbrev pub HasEnds : {N : Type 0} → (N → N → Ordering) → (Order → N) → List Item → List (N × Ends) → Type 0
HasEnds {N} R name items table = (n : N) → rows.find R n table ≡ ends_of (chain_of R name n items)

-- all tables are by rising names
pub record AreSorted (p : Parts) : Type 0 where
  pub ids : T (rows.is_sorted order_id_cmp p.ids.items)
  pub levels : T (rows.is_sorted level_cmp p.levels.items)
  pub accounts : T (rows.is_sorted subaccount_cmp p.accounts.items)
  pub expiries : T (rows.is_sorted expiry_cmp p.expiries.items)

-- the parts have these orders, each with its key, and no others
pub record Stands (items : List Item) (p : Parts) : Type 0 where
  pub keys : p.arrivals.items ≡ map (λ x. x.key) items
  pub numbered : IsNumbered p.arrivals.items p.numbers.items p.next
  pub distinct : AreDistinct (map (λ x. x.key) items)
  pub one_per_id : HasOnePerId (map (λ x. x.order) items)
  pub nodes : (key : ℕ) → node_at p.arena key ≡ option_map (node_in items) (item_at key items)
  pub ids : (id : OrderId) → rows.find order_id_cmp id p.ids.items ≡ option_map (λ x. x.key) (item_of id items)
  pub levels : HasEnds level_cmp level_of items p.levels.items
  pub accounts : HasEnds subaccount_cmp (λ o. o.id.who) items p.accounts.items
  pub expiries : HasEnds expiry_cmp expiry_of items p.expiries.items
  pub sorted : AreSorted p

-- the parts have the orders that their keys name
abbrev pub IsBook : Parts → Type 0
IsBook p = Stands (items_in p) p

-- there is room for so many orders more
pub record HasRoom (spare : ℕ) (p : Parts) : Type 0 where
  pub arena : spare ≤ p.arena.spare
  pub arrivals : spare + length p.arrivals.items ≤ vec_capacity p.arrivals
  pub numbers : spare + length p.numbers.items ≤ vec_capacity p.numbers
  pub ids : spare + length p.ids.items ≤ vec_capacity p.ids
  pub levels : spare + length p.levels.items ≤ vec_capacity p.levels
  pub accounts : spare + length p.accounts.items ≤ vec_capacity p.accounts
  pub expiries : spare + length p.expiries.items ≤ vec_capacity p.expiries

-- the parts with more room have the same nodes and rows
pub record IsRoomier (p q : Parts) : Type 0 where
  pub slots : q.arena.slots ≡ p.arena.slots
  pub spare : p.arena.spare ≤ q.arena.spare
  pub arrivals : (q.arrivals.items ≡ p.arrivals.items) × (vec_capacity p.arrivals ≤ vec_capacity q.arrivals)
  pub numbers : (q.numbers.items ≡ p.numbers.items) × (vec_capacity p.numbers ≤ vec_capacity q.numbers)
  pub next : q.next ≡ p.next
  pub ids : (q.ids.items ≡ p.ids.items) × (vec_capacity p.ids ≤ vec_capacity q.ids)
  pub levels : (q.levels.items ≡ p.levels.items) × (vec_capacity p.levels ≤ vec_capacity q.levels)
  pub accounts : (q.accounts.items ≡ p.accounts.items) × (vec_capacity p.accounts ≤ vec_capacity q.accounts)
  pub expiries : (q.expiries.items ≡ p.expiries.items) × (vec_capacity p.expiries ≤ vec_capacity q.expiries)

-- what is kept of the fields
pub record IsKept (p : Parts) (spare : ℕ) : Type 0 where
  pub stands : IsBook p
  pub room : HasRoom spare p
  pub within : spare + length (items_in p) ≤ most_held

-- what contracts see
abbrev pub held_in : Parts → ℕ → Held
held_in p spare = record { orders = orders_in p; keys = map (λ x. x.key) (items_in p); spare = spare }
