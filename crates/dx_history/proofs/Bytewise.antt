-- The bytes of a block are bytes.
use Rattle.std.proofs.Common.{◌≡◌, ℕ, zero, suc, ◌<◌, ◌%◌, Bool, true, false, cond, ◌&&◌, nat_lt, ℤ, List, [], ◌∷◌, ◌++◌, length, get_or, refl, ap, ◌∙◌, arith}
use Rattle.std.specs.List.{flat_map, list_all}
use Rattle.std.specs.Int.{w32, w64, to_be_bytes}
use Rattle.std.proofs.lemmas.Bool.Decides.{nat_tests}
use Rattle.std.proofs.lemmas.List.Folds.{list_all-append}
use Rattle.dx_types.specs.declared.SubaccountId.{SubaccountId}
use Rattle.dx_types.specs.declared.OrderId.{OrderId}
use Rattle.dx_types.specs.declared.Order.{Order}
use Rattle.dx_types.specs.declared.Waiting.{Waiting}
use Rattle.dx_types.specs.declared.Kind.{Kind}
use Rattle.dx_types.specs.declared.Kind.TheVariants.{Gtc, Ioc, PostOnly, ReduceIoc}
use Rattle.dx_types.specs.declared.Op.{Op}
use Rattle.dx_types.specs.declared.Op.TheVariants.{Place, Match, Liquidate, Delever, Remove}
use Rattle.dx_types.specs.declared.Msg.{Msg}
use Rattle.dx_types.specs.declared.Msg.TheVariants.{Deposit, Withdraw, Transfer, PlaceStateful, CancelStateful, PlaceConditional}
use Rattle.dx_types.specs.declared.Block.{Block}
use Rattle.dx_spec.specs.Orders.{byte_of_kind, order_bytes}
use Rattle.dx_codec.specs.Bytes.{u32_bytes, u64_bytes, i32_bytes, account_id_bytes, order_id_bytes, list_bytes}
use Rattle.dx_codec.specs.Blocks.{waiting_bytes, fill_bytes, offset_bytes, op_bytes, is_first_op, msg_bytes, is_first_msg, vote_bytes, price_bytes, block_form, block_bytes}
use Rattle.dx_codec.proofs.Formats.{IsBytes}
use Rattle.dx_history.specs.Rows.{are_bytes}

-- numbers that are bytes by the test
pub record AllBytes (bytes : List ℕ) : Type 0 where
  pub test : are_bytes bytes ≡ true

small : (n : ℕ) → nat_lt (n % 256) 256 ≡ true
small n = grind (arith, nat_tests)

and_true : (a b : Bool) → a ≡ true → b ≡ true → (a && b) ≡ true
and_true a b e f = ap (λ x. x && b) e ∙ f

pub behind : {xs ys : List ℕ} → AllBytes xs → AllBytes ys → AllBytes (xs ++ ys)
behind {xs} {ys} h i = record { test = list_all-append (λ n. nat_lt n 256) xs ys ∙ and_true (are_bytes xs) (are_bytes ys) h.test i.test }

-- a rest of a division, before other bytes
pub digit : (n : ℕ) (bytes : List ℕ) → AllBytes bytes → AllBytes (n % 256 ∷ bytes)
digit n bytes h = record { test = and_true (nat_lt (n % 256) 256) (are_bytes bytes) (small n) h.test }

pub none : AllBytes []
none = record { test = refl }

pub four : (n : ℕ) → AllBytes (to_be_bytes w32 n)
four n = digit _ _ (digit _ _ (digit _ _ (digit _ _ none)))

pub eight : (n : ℕ) → AllBytes (to_be_bytes w64 n)
eight n = digit _ _ (digit _ _ (digit _ _ (digit _ _ (digit _ _ (digit _ _ (digit _ _ (digit _ _ none)))))))

pub u32_are : (n : ℕ) → AllBytes (u32_bytes n)
unfolding u32_bytes
u32_are n = four n

pub u64_are : (n : ℕ) → AllBytes (u64_bytes n)
unfolding u64_bytes
u64_are n = eight n

pub i32_are : (z : ℤ) → AllBytes (i32_bytes z)
unfolding i32_bytes
i32_are z = four _

pub account_id_are : (a : SubaccountId) → AllBytes (account_id_bytes a)
unfolding account_id_bytes
account_id_are a = behind (four a.owner) (four a.number)

pub order_id_are : (id : OrderId) → AllBytes (order_id_bytes id)
unfolding order_id_bytes
order_id_are id = behind (behind (behind (behind (four id.who.owner) (four id.who.number)) (four id.client)) (four id.flags)) (four id.market)

side_is : (buy : Bool) → AllBytes ((cond buy 1 0) ∷ [])
side_is true = record { test = refl }
side_is false = record { test = refl }

kind_is : (kind : Kind) → AllBytes (byte_of_kind kind ∷ [])
kind_is Gtc = record { test = refl }
kind_is Ioc = record { test = refl }
kind_is PostOnly = record { test = refl }
kind_is ReduceIoc = record { test = refl }

pub order_are : (o : Order) → AllBytes (order_bytes o)
unfolding order_bytes
order_are o =
    behind (behind (behind (behind (behind
    (behind (behind (behind (behind (four o.id.who.owner) (four o.id.who.number)) (four o.id.client)) (four o.id.flags)) (four o.id.market))
    (side_is o.buy)) (eight o.size)) (eight o.subticks)) (four o.until)) (kind_is o.kind)

pub each_are : {X : Type 0} (bytes : X → List ℕ) (xs : List X) → ((x : X) → AllBytes (bytes x)) → AllBytes (flat_map bytes xs)
each_are bytes [] f = none
each_are bytes (x ∷ xs) f = behind (f x) (each_are bytes xs f)

pub list_are : {X : Type 0} (bytes : X → List ℕ) (xs : List X) → ((x : X) → AllBytes (bytes x)) → AllBytes (list_bytes bytes xs)
list_are bytes xs f = behind (u32_are (length xs)) (each_are bytes xs f)

pub one_is : (n : ℕ) → nat_lt n 256 ≡ true → AllBytes (n ∷ [])
one_is n e = record { test = and_true (nat_lt n 256) true e refl }

op_are : (op : Op) → AllBytes (op_bytes op)
unfolding op_bytes
op_are (Place order) = behind (one_is 1 refl) (order_are order)
op_are (Match taker fills) = behind (behind (one_is 2 refl) (order_id_are taker)) (list_are fill_bytes fills (λ f. behind (order_id_are f.maker) (u64_are f.amount)))
op_are (Liquidate who market fills) =
    behind (behind (behind (one_is 3 refl) (account_id_are who)) (u32_are market)) (list_are fill_bytes fills (λ f. behind (order_id_are f.maker) (u64_are f.amount)))
op_are (Delever who market offsets) =
    behind (behind (behind (one_is 4 refl) (account_id_are who)) (u32_are market)) (list_are offset_bytes offsets (λ o. behind (account_id_are o.who) (u64_are o.amount)))
op_are (Remove id) = behind (one_is 5 refl) (order_id_are id)

pub waiting_are : (w : Waiting) → AllBytes (waiting_bytes w)
unfolding waiting_bytes
waiting_are w = behind (behind (order_are w.order) (side_is w.above)) (u64_are w.trigger)

msg_are : (msg : Msg) → AllBytes (msg_bytes msg)
unfolding msg_bytes
msg_are (Deposit who amount) = behind (behind (one_is 1 refl) (account_id_are who)) (u64_are amount)
msg_are (Withdraw who amount) = behind (behind (one_is 2 refl) (account_id_are who)) (u64_are amount)
msg_are (Transfer from to amount) = behind (behind (behind (one_is 3 refl) (account_id_are from)) (account_id_are to)) (u64_are amount)
msg_are (PlaceStateful order) = behind (one_is 4 refl) (order_are order)
msg_are (CancelStateful id) = behind (one_is 5 refl) (order_id_are id)
msg_are (PlaceConditional order above trigger) = behind (one_is 6 refl) (waiting_are _)

form_by : (first : Bool) → AllBytes (cond first 1 2 ∷ [])
form_by true = one_is 1 refl
form_by false = one_is 2 refl

form_is : (b : Block) → AllBytes (block_form b ∷ [])
unfolding block_form
form_is b = form_by (list_all is_first_op b.ops && list_all is_first_msg b.msgs)

-- those of a block are
pub block_are : (b : Block) → AllBytes (block_bytes b)
unfolding block_bytes
block_are b =
    behind (behind (behind (behind (behind (behind (form_is b) (u32_are b.height)) (u32_are b.time))
    (list_are op_bytes b.ops op_are)) (list_are msg_bytes b.msgs msg_are))
    (list_are vote_bytes b.votes (λ v. behind (u32_are v.market) (i32_are v.premium)))) (list_are price_bytes b.prices (λ p. behind (u32_are p.market) (u64_are p.price)))

-- ---- what the test says

pub tested : (bytes : List ℕ) → IsBytes bytes → are_bytes bytes ≡ true
tested [] h = refl
tested (n ∷ bytes) h = and_true (nat_lt n 256) (are_bytes bytes) (below n (h 0)) (tested bytes (λ i. h (suc i)))
  where
    below : (n : ℕ) → n < 256 → nat_lt n 256 ≡ true
    below n lt = grind (arith, nat_tests)

pub known : (bytes : List ℕ) → are_bytes bytes ≡ true → IsBytes bytes
known [] e i = nothing i
  where
    nothing : (i : ℕ) → get_or {A = ℕ} [] i 0 < 256
    nothing zero = omega arith
    nothing (suc i) = omega arith
known (n ∷ bytes) e zero = let k = parts (nat_lt n 256) (are_bytes bytes) e in below n k.0
  where
    parts : (a b : Bool) → (a && b) ≡ true → (a ≡ true) × (b ≡ true)
    parts true b e = (refl, e)
    parts false b e = absurd (cc)

    below : (n : ℕ) → nat_lt n 256 ≡ true → n < 256
    below n lt = grind (arith, nat_tests)
known (n ∷ bytes) e (suc i) = known bytes (rest (nat_lt n 256) (are_bytes bytes) e) i
  where
    rest : (a b : Bool) → (a && b) ≡ true → b ≡ true
    rest true b e = e
    rest false b e = absurd (cc)
