-- Ids as keys that can be hashed, and what a listing keeps beside its list.
use Rattle.std.specs.Prelude.{◌≡◌, ℕ, ◌<◌, Bool, ◌&&◌, ◌==◌, List, map, length, slice_get, slice_set}
use Rattle.std.specs.List.{remove}
use Rattle.std.specs.Option.{option_map_or}
use Rattle.dx_types.specs.declared.OrderId.{OrderId}
use Rattle.dx_types.specs.declared.Shown.{Shown}
use Rattle.dx_feed.specs.declared.key.IdKey.{IdKey}
use Rattle.dx_feed.specs.Lists.{shown_of, NamesOnce}
use Rattle.dx_feed.specs.Following.{without, with_left}

-- the key of an id
abbrev pub key_to : OrderId → IdKey
key_to id = record {
  owner = id.who.owner;
  number = id.who.number;
  client = id.client;
  flags = id.flags;
  market = id.market;
}

-- both are one key
abbrev pub is_same_key : IdKey → IdKey → Bool
is_same_key j k =
    j.owner == k.owner && (j.number == k.number && (j.client == k.client && (j.flags == k.flags && j.market == k.market)))

-- the key of a shown order
abbrev pub key_in : Shown → IdKey
key_in s = key_to s.order.id

-- the keys are those of the list, in its order, and no id is named twice
pub record IsKept (list : List Shown) (keys : List IdKey) : Type 0 where
  pub keys_are : keys ≡ map key_in list
  pub once : NamesOnce list

-- the list with another amount left of the order at a place
abbrev pub left_at : List Shown → ℕ → ℕ → List Shown
left_at list place left = option_map_or (λ s. slice_set list place (record s { left = left })) (slice_get list place) list

-- the order of an id stands at this place, and no other one has the id
pub record IsPlaceOf (list : List Shown) (id : OrderId) (place : ℕ) : Type 0 where
  pub within : place < length list
  pub shown : slice_get list place ≡ shown_of list id
  pub removed : remove list place ≡ without list id
  pub left_set : (left : ℕ) → left_at list place left ≡ with_left list id left
