-- What one node does at an event, and its answer.
use Rattle.std.specs.Prelude.{ℕ, Bool, if◌then◌else◌, List, [], ◌∷◌, Option, Some, None, Result, Ok, Err}
use Rattle.dx_types.specs.declared.SubaccountId.{SubaccountId}
use Rattle.dx_types.specs.declared.OrderId.{OrderId}
use Rattle.dx_types.specs.declared.Order.{Order}
use Rattle.dx_types.specs.declared.Msg.{Msg}
use Rattle.dx_types.specs.declared.Waiting.{Waiting}
use Rattle.dx_types.specs.declared.Account.{Account}
use Rattle.dx_types.specs.declared.Block.{Block}
use Rattle.dx_types.specs.declared.Bad.{Bad}
use Rattle.dx_spec.specs.Blocks.{Applied, block_step}
use Rattle.dx_spec.specs.Audits.{audit}
use Rattle.dx_node_spec.specs.Refusals.{unknown_market}
use Rattle.dx_node_spec.specs.Node.{Node, committed}
use Rattle.dx_node_spec.specs.Placing.{Outcome, AllFilled, Rested, Dropped, Stopped, Refusal, refusal, place}
use Rattle.dx_node_spec.specs.Events.{fed, pooled, cancel, cancel_all, sweep}
use Rattle.dx_node_spec.specs.Commits.{commit, restarted, placed_again}
use Rattle.dx_node_spec.specs.Reads as tells
use Rattle.dx_codec.specs.Blocks.{block_bytes}
use Rattle.dx_node.specs.Restarts.{committed_digest}
use Rattle.dx_print.specs.declared.answer.Answer.{Answer}
use Rattle.dx_print.specs.declared.answer.Answer.TheVariants as answers

-- how many blocks are committed
abbrev pub height_of : Node → ℕ
height_of p = (committed p).clock.height

-- an event is refused
abbrev pub refused : Refusal → Answer
refused r = answers.Refused r.number r.value

-- what became of an order
abbrev pub outcome_answer : Outcome → Answer
outcome_answer AllFilled = answers.Filled
outcome_answer (Rested filled) = answers.Rested filled
outcome_answer (Dropped filled) = answers.Dropped filled
outcome_answer (Stopped filled code) = answers.Stopped filled code

-- the node after a placing and what became of the order, or the refusal, which changes nothing
abbrev pub place_answer : Node → Result (Node × Outcome) Refusal → Node × Answer
place_answer p (Ok r) = (r.0, outcome_answer r.1)
place_answer p (Err cause) = (p, refused cause)

-- a node takes an order
abbrev pub place_order : Order → Node → Node × Answer
place_order o p = place_answer p (place p o)

-- the node after a cancel, and 1 where a resting order left for it, else 0; or the refusal, which changes nothing
abbrev pub cancel_answer : Node → Result (Node × Bool) Refusal → Node × Answer
cancel_answer p (Ok r) = (r.0, answers.Done (Some (if r.1 then 1 else 0)))
cancel_answer p (Err cause) = (p, refused cause)

-- a node cancels a short-term order
abbrev pub cancel_order : OrderId → ℕ → Node → Node × Answer
cancel_order id until p = cancel_answer p (cancel p id until)

-- the node after the cancels, and how many there were; or the refusal, which changes nothing
abbrev pub cancel_all_answer : Node → Result (Node × ℕ) Refusal → Node × Answer
cancel_all_answer p (Ok r) = (r.0, answers.Done (Some r.1))
cancel_all_answer p (Err cause) = (p, refused cause)

-- a node cancels the resting short-term orders of an account
abbrev pub cancel_orders : SubaccountId → Node → Node × Answer
cancel_orders who p = cancel_all_answer p (cancel_all p who)

-- the node after it is done, or the refusal, which changes nothing
abbrev pub done_answer : Node → Result Node Refusal → Node × Answer
done_answer p (Ok q) = (q, answers.Done None)
done_answer p (Err cause) = (p, refused cause)

-- a node is fed a price
abbrev pub feed_price : ℕ → ℕ → Node → Node × Answer
feed_price market price p = done_answer p (fed p market price)

-- a node gets a message into its pool
abbrev pub pool_message : Msg → Node → Node × Answer
pool_message m p = done_answer p (pooled p m)

-- the node after a sweep, and how many fills and offsets it made; or the refusal, which changes nothing
abbrev pub sweep_answer : Node → Result (Node × ℕ × ℕ) Refusal → Node × Answer
sweep_answer p (Ok r) = (r.0, answers.Swept r.1 r.2)
sweep_answer p (Err cause) = (p, refused cause)

-- a node liquidates and deleverages an account
abbrev pub sweep_account : SubaccountId → Node → Node × Answer
sweep_account who p = sweep_answer p (sweep p who)

-- whether a block is good, or its first bad part
abbrev pub check_answer : Result Applied Bad → Answer
check_answer (Ok r) = answers.Good []
check_answer (Err bad) = answers.Bad bad

-- the same of the block of a slot
abbrev pub slot_answer : Option Block → Node → Answer
slot_answer None p = answers.Empty
slot_answer (Some b) p = check_answer (block_step (committed p) b)

-- a node tests the block of a slot, and stays as it was
abbrev pub check_slot : Option Block → Node → Node × Answer
check_slot o p = (p, slot_answer o p)

-- the height and the results of a good block, behind which the node places its orders again; or its first bad part, which changes nothing
abbrev pub commit_answer : Node → Block → Result (Node × List ℕ) Bad → Node × Answer
commit_answer p b (Ok r) = (placed_again r.0, answers.Good (b.height ∷ r.1))
commit_answer p b (Err bad) = (p, answers.Bad bad)

-- a node commits the block of a slot
abbrev pub commit_slot : Option Block → Node → Node × Answer
commit_slot None p = (p, answers.Empty)
commit_slot (Some b) p = commit_answer p b (commit p b)

-- the account with the committed height
abbrev pub balance_answer : ℕ → Option Account → Answer
balance_answer height None = answers.Absent
balance_answer height (Some a) = answers.Balance height a

-- a node tells an account's committed balance
abbrev pub tell_balance : SubaccountId → Node → Node × Answer
tell_balance who p = (p, balance_answer (height_of p) (tells.committed_account p who))

-- a node tells an account's balance after its queue
abbrev pub tell_speculative : SubaccountId → Node → Node × Answer
tell_speculative who p = (p, balance_answer (height_of p) (tells.speculative_account p who))

-- a node tells how much of an order is filled: committed, and with its queue
abbrev pub tell_filled : OrderId → Node → Node × Answer
tell_filled id p = (p, answers.Amounts (tells.filled_amounts p id).0 (tells.filled_amounts p id).1)

-- the side of the trigger on which prices meet it, and the trigger, of an order that waits
abbrev pub waits_answer : Option Waiting → Answer
waits_answer None = answers.Absent
waits_answer (Some w) = answers.Waits w.above w.trigger

-- a node tells for which trigger an order waits in its committed state
abbrev pub tell_waits : OrderId → Node → Node × Answer
tell_waits id p = (p, waits_answer (tells.committed_waiting p id))

-- the best orders of a known market
abbrev pub best_answer : Option (List ℕ) → Answer
best_answer None = refused (refusal unknown_market)
best_answer (Some levels) = answers.Best levels

-- a node tells the best orders of a market
abbrev pub tell_best : ℕ → Node → Node × Answer
tell_best market p = (p, best_answer (tells.best_prices p market))

-- a node tells the numbers of its committed state
abbrev pub tell_audit : Node → Node × Answer
tell_audit p = (p, answers.Audit (audit (committed p)))

-- the bytes of the block of a slot
abbrev pub show_slot : Option Block → Answer
show_slot None = answers.Empty
show_slot (Some b) = answers.Bytes (block_bytes b)

-- a node tells the digest of its committed state
abbrev pub tell_digest : Node → Node × Answer
tell_digest p = (p, answers.Digest (height_of p) (committed_digest p))

-- a node that starts anew from these blocks, and places its stateful orders again
abbrev pub started : Node → List Block → Node
started p blocks = placed_again (restarted p blocks)
