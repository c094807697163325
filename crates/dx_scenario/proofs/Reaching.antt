-- An event's node is one of the nodes, its slot one of the slots, and the id of a cancel has no flags.
use Rattle.std.proofs.Common.{◌≡◌, ◌<◌, ◌≤◌, ℕ, suc, List, Bool, true, false, ◌&&◌, cond, refl, subst}
use Rattle.std.specs.Prelude.{Result, Ok, Err, IfOk, nat_le, nat_lt, option_and_then}
use Rattle.std.proofs.lemmas.Bool.{leb-true}
use Rattle.serde_json.specs.Data.{Data}
use Rattle.serde_json.specs.Find.{as_number, as_u64}
use Rattle.dx_spec.specs.Step.{◌>>=◌, ◌>>◌}
use Rattle.dx_print.specs.declared.words.Word.{Word}
use Rattle.dx_print.specs.declared.words.Word.TheVariants as words
use Rattle.dx_types.specs.declared.SubaccountId.{SubaccountId}
use Rattle.dx_types.specs.declared.OrderId.{OrderId}
use Rattle.dx_scenario.specs.declared.event.Event.{Event}
use Rattle.dx_scenario.specs.declared.event.Event.TheVariants.{Place, Cancel, CancelAll, Message, Feed, Sweep, Restart, Propose, Handed, Show, Check, Commit, Balance, Spec, Filled, Best, Audit, Digest, Waits, Snap, Resume}
use Rattle.dx_scenario.specs.declared.fault.LineFault.{LineFault}
use Rattle.dx_scenario.specs.Parts.{Reads, part, within, node_within, nat_part, node_part, slot_part, last_slot, value_part, closed, line_ends, u32_part, line_u32, u64_part, value_of, word_part}
use Rattle.dx_scenario.specs.Names.{subaccount_in, subaccount_part, order_id_part, short_term_id_of, short_term_id_part}
use Rattle.dx_scenario.specs.Orders.{order_part}
use Rattle.dx_scenario.specs.Messages.{msg_part}
use Rattle.dx_scenario.specs.Blocks.{block_in}
use Rattle.dx_scenario.specs.Behind.{lone_node, node_and_account, node_and_slot, place_event, cancel_event, message_event, feed_event, propose_event, handed_event, show_event, node_and_id, best_event, resume_event}
use Rattle.dx_scenario.specs.Events.{event_behind, event_of, IsOf}

module _ {A B : Type 0} (P : B → Type 0) where
  -- what a stage gives is so, if what follows each value that it gives is so
  stage_gives : (Q : A → Type 0) (r : Result A ℕ) (f : A → Result B ℕ) → IfOk r Q → ((x : A) → Q x → IfOk (f x) P) → IfOk (r >>= f) P
  stage_gives Q (Ok x) f q h = h x q
  stage_gives Q (Err e) f q h = tt

  any_stage : (r : Result A ℕ) (f : A → Result B ℕ) → ((x : A) → IfOk (f x) P) → IfOk (r >>= f) P
  any_stage (Ok x) f h = h x
  any_stage (Err e) f h = tt

ends_then : {B : Type 0} (P : B → Type 0) (r : Result (Unit {0}) ℕ) (x : B) → P x → IfOk (r >> Ok x) P
ends_then P (Ok _) x h = h
ends_then P (Err e) x h = tt

within_high : (low high place n : ℕ) → IfOk (within low high place n) (λ m. m ≤ high)
within_high low high place n = go (nat_le low n) (nat_le n high) refl where
  go : (a b : Bool) → nat_le n high ≡ b → IfOk (cond (a && b) (Ok n) (Err place)) (λ m. m ≤ high)
  go true true e = leb-true n high e
  go true false e = tt
  go false b e = tt

one_of : (nodes n : ℕ) → IfOk (node_within nodes n) (λ m. m < nodes)
one_of nodes n = go (nat_lt n nodes) refl where
  go : (b : Bool) → nat_lt n nodes ≡ b → IfOk {E = ℕ} (cond b (Ok n) (Err 1)) (λ m. m < nodes)
  go true e = leb-true (suc n) nodes e
  go false e = tt

part_high : (low high place i : ℕ) (d : Data) → IfOk (nat_part low high place i d) (λ m. m ≤ high)
part_high low high place i d = any_stage (λ m. m ≤ high) (part (λ v. option_and_then as_u64 (as_number v)) place i d) (within low high place) (within_high low high place)

slot_there : (i : ℕ) (d : Data) → IfOk (slot_part i d) (λ slot. slot ≤ last_slot)
slot_there i d = part_high 0 last_slot i i d

no_flags : (place : ℕ) (d : Data) → IfOk (short_term_id_of place d) (λ id. id.flags ≡ 0)
unfolding short_term_id_of
no_flags place d =
    let P : OrderId → Type 0 = λ id. id.flags ≡ 0 in
    any_stage P (subaccount_in place d) _ (λ who. any_stage P (u32_part place 2 d) _ (λ client. any_stage P (u32_part place 3 d) _ (λ market. ends_then P (closed place 4 d) (record { who = who; client = client; flags = 0; market = market }) refl)))

short_term_there : (place i : ℕ) (d : Data) → IfOk (short_term_id_part place i d) (λ id. id.flags ≡ 0)
short_term_there place i d = any_stage (λ (id : OrderId). id.flags ≡ 0) (value_part place i d) (short_term_id_of place) (no_flags place)

module _ (nodes : ℕ) (d : Data) where
  node_then : {B : Type 0} (P : B → Type 0) (f : ℕ → Result B ℕ) → ((node : ℕ) → node < nodes → IfOk (f node) P) → IfOk (node_part nodes d >>= f) P
  node_then P f h = stage_gives P (λ m. m < nodes) (node_part nodes d) f (any_stage (λ m. m < nodes) (u32_part 1 1 d) (node_within nodes) (one_of nodes)) h

  lone_there : IfOk (lone_node nodes d) (λ node. node < nodes)
  unfolding lone_node
  lone_there = node_then (λ node. node < nodes) _ (λ node h. ends_then (λ n. n < nodes) (line_ends 2 d) node h)

  account_there : IfOk (node_and_account nodes d) (λ r. r.0 < nodes)
  unfolding node_and_account
  account_there = node_then (λ (r : ℕ × SubaccountId). r.0 < nodes) _ (λ node h. any_stage (λ (r : ℕ × SubaccountId). r.0 < nodes) (subaccount_part 2 2 d) _ (λ who. ends_then (λ (r : ℕ × SubaccountId). r.0 < nodes) (line_ends 3 d) (node, who) h))

  both_there : IfOk (node_and_slot nodes d) (λ r. (r.0 < nodes) × (r.1 ≤ last_slot))
  unfolding node_and_slot
  both_there = node_then (λ (r : ℕ × ℕ). (r.0 < nodes) × (r.1 ≤ last_slot)) _ (λ node h. stage_gives (λ (r : ℕ × ℕ). (r.0 < nodes) × (r.1 ≤ last_slot)) (λ slot. slot ≤ last_slot) (slot_part 2 d) _ (slot_there 2 d)
      (λ slot k. ends_then (λ (r : ℕ × ℕ). (r.0 < nodes) × (r.1 ≤ last_slot)) (line_ends 3 d) (node, slot) (h, k)))

  place_there : IfOk (place_event nodes d) (IsOf nodes)
  unfolding place_event
  place_there = node_then (IsOf nodes) _ (λ node h. any_stage (IsOf nodes) (order_part 2 2 d) _ (λ order. ends_then (IsOf nodes) (line_ends 3 d) (Place node order) h))

  cancel_there : IfOk (cancel_event nodes d) (IsOf nodes)
  unfolding cancel_event
  cancel_there = node_then (IsOf nodes) _ (λ node h. stage_gives (IsOf nodes) (λ (id : OrderId). id.flags ≡ 0) (short_term_id_part 2 2 d) _ (short_term_there 2 2 d)
      (λ id k. any_stage (IsOf nodes) (line_u32 3 d) _ (λ until. ends_then (IsOf nodes) (line_ends 4 d) (Cancel node id until) (h, k))))

  message_there : IfOk (message_event nodes d) (IsOf nodes)
  unfolding message_event
  message_there = node_then (IsOf nodes) _ (λ node h. any_stage (IsOf nodes) (msg_part 2 2 d) _ (λ msg. ends_then (IsOf nodes) (line_ends 3 d) (Message node msg) h))

  feed_there : IfOk (feed_event nodes d) (IsOf nodes)
  unfolding feed_event
  feed_there = node_then (IsOf nodes) _ (λ node h. any_stage (IsOf nodes) (line_u32 2 d) _ (λ market. any_stage (IsOf nodes) (u64_part 3 3 d) _ (λ price. ends_then (IsOf nodes) (line_ends 4 d) (Feed node market price) h)))

  propose_there : IfOk (propose_event nodes d) (IsOf nodes)
  unfolding propose_event
  propose_there = node_then (IsOf nodes) _ (λ node h. stage_gives (IsOf nodes) (λ slot. slot ≤ last_slot) (slot_part 2 d) _ (slot_there 2 d)
      (λ slot k. any_stage (IsOf nodes) (line_u32 3 d) _ (λ time. ends_then (IsOf nodes) (line_ends 4 d) (Propose node slot time) (h, k))))

  handed_there : IfOk (handed_event d) (IsOf nodes)
  unfolding handed_event
  handed_there = stage_gives (IsOf nodes) (λ slot. slot ≤ last_slot) (slot_part 1 d) _ (slot_there 1 d) (λ slot k. any_stage (IsOf nodes) (block_in d) _ (λ block. ends_then (IsOf nodes) (line_ends 8 d) (Handed slot block) k))

  show_there : IfOk (show_event d) (IsOf nodes)
  unfolding show_event
  show_there = stage_gives (IsOf nodes) (λ slot. slot ≤ last_slot) (slot_part 1 d) _ (slot_there 1 d) (λ slot k. ends_then (IsOf nodes) (line_ends 2 d) (Show slot) k)

  id_there : IfOk (node_and_id nodes d) (λ r. r.0 < nodes)
  unfolding node_and_id
  id_there = node_then (λ (r : ℕ × OrderId). r.0 < nodes) _ (λ node h. any_stage (λ (r : ℕ × OrderId). r.0 < nodes) (order_id_part 2 2 d) _ (λ id. ends_then (λ (r : ℕ × OrderId). r.0 < nodes) (line_ends 3 d) (node, id) h))

  best_there : IfOk (best_event nodes d) (IsOf nodes)
  unfolding best_event
  best_there = node_then (IsOf nodes) _ (λ node h. any_stage (IsOf nodes) (line_u32 2 d) _ (λ market. ends_then (IsOf nodes) (line_ends 3 d) (Best node market) h))

  resume_there : IfOk (resume_event nodes d) (IsOf nodes)
  unfolding resume_event
  resume_there = node_then (IsOf nodes) _ (λ node h. any_stage (IsOf nodes) (line_u32 2 d) _ (λ height. ends_then (IsOf nodes) (line_ends 3 d) (Resume node height) h))

  lone_then : (f : ℕ → Event) → ((node : ℕ) → node < nodes → IsOf nodes (f node)) → IfOk (lone_node nodes d >>= λ node. Ok (f node)) (IsOf nodes)
  lone_then f h = stage_gives (IsOf nodes) (λ node. node < nodes) (lone_node nodes d) (λ node. Ok (f node)) lone_there h

  account_then : (f : ℕ → SubaccountId → Event) → ((node : ℕ) (who : SubaccountId) → node < nodes → IsOf nodes (f node who)) → IfOk (node_and_account nodes d >>= λ r. Ok (f r.0 r.1)) (IsOf nodes)
  account_then f h = stage_gives (IsOf nodes) (λ (r : ℕ × SubaccountId). r.0 < nodes) (node_and_account nodes d) (λ r. Ok (f r.0 r.1)) account_there (λ r k. h r.0 r.1 k)

  id_then : (f : ℕ → OrderId → Event) → ((node : ℕ) (id : OrderId) → node < nodes → IsOf nodes (f node id)) → IfOk (node_and_id nodes d >>= λ r. Ok (f r.0 r.1)) (IsOf nodes)
  id_then f h = stage_gives (IsOf nodes) (λ (r : ℕ × OrderId). r.0 < nodes) (node_and_id nodes d) (λ r. Ok (f r.0 r.1)) id_there (λ r k. h r.0 r.1 k)

  slot_then : (f : ℕ → ℕ → Event) → ((node slot : ℕ) → (node < nodes) × (slot ≤ last_slot) → IsOf nodes (f node slot)) → IfOk (node_and_slot nodes d >>= λ r. Ok (f r.0 r.1)) (IsOf nodes)
  slot_then f h = stage_gives (IsOf nodes) (λ (r : ℕ × ℕ). (r.0 < nodes) × (r.1 ≤ last_slot)) (node_and_slot nodes d) (λ r. Ok (f r.0 r.1)) both_there (λ r k. h r.0 r.1 k)

behind_there : (nodes : ℕ) (d : Data) (word : Word) → IfOk (event_behind nodes d word) (IsOf nodes)
unfolding event_behind
behind_there nodes d words.Genesis = tt
behind_there nodes d words.Place = place_there nodes d
behind_there nodes d words.Cancel = cancel_there nodes d
behind_there nodes d words.CancelAll = account_then nodes d CancelAll (λ node who h. h)
behind_there nodes d words.Message = message_there nodes d
behind_there nodes d words.Feed = feed_there nodes d
behind_there nodes d words.Sweep = account_then nodes d Sweep (λ node who h. h)
behind_there nodes d words.Propose = propose_there nodes d
behind_there nodes d words.Block = handed_there nodes d
behind_there nodes d words.Show = show_there nodes d
behind_there nodes d words.Check = slot_then nodes d Check (λ node slot h. h)
behind_there nodes d words.Commit = slot_then nodes d Commit (λ node slot h. h)
behind_there nodes d words.Balance = account_then nodes d Balance (λ node who h. h)
behind_there nodes d words.Spec = account_then nodes d Spec (λ node who h. h)
behind_there nodes d words.Filled = id_then nodes d Filled (λ node id h. h)
behind_there nodes d words.Best = best_there nodes d
behind_there nodes d words.Audit = lone_then nodes d Audit (λ node h. h)
behind_there nodes d words.Digest = lone_then nodes d Digest (λ node h. h)
behind_there nodes d words.Restart = lone_then nodes d Restart (λ node h. h)
behind_there nodes d words.Waits = id_then nodes d Waits (λ node id h. h)
behind_there nodes d words.Snap = lone_then nodes d Snap (λ node h. h)
behind_there nodes d words.Resume = resume_there nodes d

-- the event of a line
pub event_there : (nodes : ℕ) (line : List ℕ) → IfOk (event_of nodes line) (IsOf nodes)
event_there nodes line = any_stage (IsOf nodes) (value_of line) _ (λ d. any_stage (IsOf nodes) (word_part d) _ (behind_there nodes d))

-- what a reading gives is so
read_so : (P : Event → Type 0) (r : Result Event ℕ) (x : Event) → r ≡ Ok x → IfOk r P → P x
read_so P r x e h = subst (λ (s : Result Event ℕ). IfOk s P) e h

-- an event that a line says
pub read_there : (nodes : ℕ) (line : List ℕ) (event : Event) → event_of nodes line ≡ Ok event → IsOf nodes event
read_there nodes line event e = read_so (IsOf nodes) (event_of nodes line) event e (event_there nodes line)

-- an event that was read behind its word
pub behind_read : (nodes : ℕ) (d : Data) (word : Word) (result : Result Event LineFault) → Reads result (event_behind nodes d word) → IfOk result (IsOf nodes)
behind_read nodes d word (Ok event) e = read_so (IsOf nodes) (event_behind nodes d word) event e (behind_there nodes d word)
behind_read nodes d word (Err fault) e = tt
