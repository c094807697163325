-- Ids as keys that can be hashed, and what a queue keeps of its operations and their indexes.
use Rattle.std.specs.Prelude.{◌≡◌, Bool, false, ◌&&◌, ◌==◌, List, map, fold}
use Rattle.std.specs.Map.{lookup}
use Rattle.std.specs.FinMap.{get}
use Rattle.dx_types.specs.declared.OrderId.{OrderId}
use Rattle.dx_types.specs.declared.Order.{Order}
use Rattle.dx_types.specs.declared.Op.{Op}
use Rattle.dx_spec.specs.Operations.{Placed}
use Rattle.dx_spec.specs.Blocks.{has_too_many_ops}
use Rattle.dx_node_spec.specs.Queue.{placed_by, named_by}
use Rattle.indexmap.specs.IndexSet.{insert_key}
use Rattle.dx_queue.specs.declared.key.IdKey.{IdKey}

-- the key of an id
abbrev pub key_to : OrderId → IdKey
key_to id = record {
  owner = id.who.owner;
  number = id.who.number;
  client = id.client;
  flags = id.flags;
  market = id.market;
}

-- the id of a key
abbrev pub id_to : IdKey → OrderId
id_to k = record {
  who = record { owner = k.owner; number = k.number };
  client = k.client;
  flags = k.flags;
  market = k.market;
}

-- both are one key
abbrev pub is_same_key : IdKey → IdKey → Bool
is_same_key j k =
    j.owner == k.owner && (j.number == k.number && (j.client == k.client && (j.flags == k.flags && j.market == k.market)))

-- the keys after ids are noted, each if it is new
abbrev pub with_keys : List IdKey → List OrderId → List IdKey
with_keys keys ids = fold (insert_key is_same_key) keys (map key_to ids)

-- at the key of each id stands its order
abbrev pub Agrees : List (IdKey × Order) → Placed → Type 0
Agrees entries placed = (id : OrderId) → lookup (is_same_key (key_to id)) entries ≡ get placed id

-- a queue within its limits, whose indexes are those of its operations
pub record IsKept (ops : List Op) (entries : List (IdKey × Order)) (keys : List IdKey) : Type 0 where
  pub within : has_too_many_ops ops ≡ false
  pub places : Agrees entries (placed_by ops)
  pub mentions : keys ≡ map key_to (named_by ops)
