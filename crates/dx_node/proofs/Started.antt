-- The blocks of a node's rows, read one after another.
use Rattle.std.proofs.Common.{◌≡◌, ℕ, suc, ◌+◌, ◌-◌, ◌<◌, ◌≤◌, List, [], ◌∷◌, Option, Some, None, Result, Ok, Err, refl, sym, ap, subst, ◌∙◌, arith}
use Rattle.std.specs.Prelude.{Bool, false, cond, ◌==◌, IfSome, IfErr, ok_or, option_map}
use Rattle.std.specs.FinMap.{get}
use Rattle.std.proofs.lemmas.Bool.Decides.{nat_tests}
use Rattle.dx_types.specs.declared.Genesis.{Genesis}
use Rattle.dx_types.specs.declared.Block.{Block}
use Rattle.dx_types.specs.declared.OrderId.{OrderId}
use Rattle.dx_types.specs.declared.Bad.{Bad}
use Rattle.dx_spec.specs.Step.{◌>>=◌}
use Rattle.dx_spec.specs.State.{State, genesis_state}
use Rattle.dx_spec.specs.Blocks.{Applied, block_step, fold_from}
use Rattle.dx_io.specs.Causes.{Rose}
use Rattle.dx_io.specs.declared.row_key.RowKey.{RowKey}
use Rattle.dx_io.specs.Rows.{Rows, SameRows, FindsRow, CountsRows, row_count}
use Rattle.dx_operations.specs.declared.faults.BlockFault.{BlockFault}
use Rattle.dx_operations.specs.declared.faults.BlockFault.TheVariants as blocks
use Rattle.dx_operations.specs.Faults.{Refuses}
use Rattle.dx_history.specs.declared.fault.HistoryFault.{HistoryFault}
use Rattle.dx_history.specs.declared.fault.HistoryFault.TheVariants as rows
use Rattle.dx_history.specs.Rows.{place_of, block_at, Tells}
use Rattle.dx_history.specs.Chains.{Unkept, BadAt, OtherGenesis, behind, after_good, good_on, kept_from, first_fault, first_of, kept}
use Rattle.dx_node.specs.declared.faults.RestartFault.{RestartFault}
use Rattle.dx_node.specs.declared.faults.RestartFault.TheVariants as restarts
use Rattle.dx_node.specs.Faults.{row_fault, fold_fault}
use Rattle.dx_codec.specs.Genesis.{digest_of}
use Rattle.dx_node.specs.Starts.{IsUnkept, Adds, LeadsFrom, Begins, IsChainOf, AreCounted, OnlyReads}

-- known rows stay known where a call only reads
pub same_known : (a b : Option Rows) → SameRows a b → (rows : Rows) → a ≡ Some rows → b ≡ Some rows
same_known None b h rows e = absurd (cc)
same_known (Some r) None h rows e = absurd h
same_known (Some r) (Some q) h rows e = ap Some h ∙ e

-- and stay along two calls
pub same_along : (a b c : Option Rows) → SameRows a b → SameRows b c → SameRows a c
same_along None b c h k = tt
same_along (Some r) None c h k = absurd h
same_along (Some r) (Some q) None h k = absurd k
same_along (Some r) (Some q) (Some p) h k = k ∙ h

-- what is said of them holds of those before the call
pub said_before : (P : Rows → Type 0) (a b : Option Rows) → SameRows a b → IfSome b P → IfSome a P
said_before P None b h k = tt
said_before P (Some r) None h k = absurd h
said_before P (Some r) (Some q) h k = subst P h k

-- a count that rose from a later one on rose
pub rose_before : (a b c : ℕ) → a ≤ b → Rose b c → Rose a c
rose_before a b c h k = grind (arith, h, k)

-- two calls that only read
pub read_on : {A B : Type 0} (a b c : Option Rows) (x y z : ℕ) (first : Result A RestartFault) (second : Result B RestartFault)
    → OnlyReads a b x y first → OnlyReads b c y z second → OnlyReads a c x z second
read_on a b c x y z first second h k =
    let i = h.later in
    let j = k.later in
    record {
      same = same_along a b c h.same k.same;
      later = omega (arith, i, j);
      failed = λ e. rose_before x y z i (k.failed e);
    }

-- a block of the rows that is good goes before what is told of those above it
kept_more : (r : Rows) (node height more : ℕ) (s t : State) (b : Block) (results : List ℕ) (triggered : List OrderId) (told : Result (List Block) Unkept)
    → block_at r node height ≡ Some b → block_step s b ≡ Ok (t, results, triggered) → kept_from t r node (height + 1) more ≡ told
    → kept_from s r node height (suc more) ≡ behind b told
unfolding kept_from
kept_more r node height more s t b results triggered told here good above =
    ap (λ (o : Option Block). ok_or (good_on s o) (BadAt height) >>= λ k. behind k.0 (kept_from k.1 r node (height + 1) more)) here
    ∙ ap (λ (q : Result (Applied) Bad). ok_or (option_map {T = State} {U = Block × State} (λ u. (b, u)) (after_good q)) (BadAt height) >>= λ k. behind k.0 (kept_from k.1 r node (height + 1) more)) good
    ∙ ap (behind b) above

-- where there is none that is good, that is told
kept_none : (r : Rows) (node height more : ℕ) (s : State) → good_on s (block_at r node height) ≡ None → kept_from s r node height (suc more) ≡ Err (BadAt height)
unfolding kept_from
kept_none r node height more s e = ap (λ (o : Option (Block × State)). ok_or o (BadAt height) >>= λ k. behind k.0 (kept_from k.1 r node (height + 1) more)) e

-- why a row that gives no block is told
no_row : (g : Genesis) (s : State) (r : Rows) (node height more : ℕ) (fault : HistoryFault)
    → Tells (Err fault) (block_at r node height) → IsUnkept g (kept_from s r node height (suc more)) (row_fault fault height)
no_row g s r node height more rows.Failed e = tt
no_row g s r node height more rows.Bad e = kept_none r node height more s (ap (good_on s) e)
no_row g s r node height more rows.NoMemory e = tt

pub row_refused : (g : Genesis) (s : State) (r : Rows) (node height more : ℕ) (fault : HistoryFault) (told : RestartFault)
    → told ≡ row_fault fault height → Tells (Err fault) (block_at r node height) → IsUnkept g (kept_from s r node height (suc more)) told
row_refused g s r node height more fault told e k = subst (IsUnkept g (kept_from s r node height (suc more))) (sym e) (no_row g s r node height more fault k)

-- and why one whose block is not good
no_block : (g : Genesis) (s : State) (r : Rows) (node height more : ℕ) (b : Block) (fault : BlockFault)
    → block_at r node height ≡ Some b → Refuses fault (block_step s b) → IsUnkept g (kept_from s r node height (suc more)) (fold_fault fault height)
no_block g s r node height more b blocks.NoMemory here e = tt
no_block g s r node height more b (blocks.Bad bad) here e =
    kept_none r node height more s
    (ap (good_on s) here ∙ ap (λ (q : Result (Applied) Bad). option_map {T = State} {U = Block × State} (λ u. (b, u)) (after_good q)) e)

pub block_refused : (g : Genesis) (s : State) (r : Rows) (node height more : ℕ) (b : Block) (fault : BlockFault) (told : RestartFault)
    → told ≡ fold_fault fault height → block_at r node height ≡ Some b → Refuses fault (block_step s b) → IsUnkept g (kept_from s r node height (suc more)) told
block_refused g s r node height more b fault told e here k =
    subst (IsUnkept g (kept_from s r node height (suc more))) (sym e) (no_block g s r node height more b fault here k)

-- what is told of the rest is told of the whole
pub unkept_as : (g : Genesis) (rest whole : Result (List Block) Unkept) (fault : RestartFault) → ((u : Unkept) → rest ≡ Err u → whole ≡ Err u) → IsUnkept g rest fault → IsUnkept g whole fault
unkept_as g rest whole (restarts.KeptBad height) f k = f (BadAt height) k
unkept_as g rest whole (restarts.KeptOther theirs ours) f k = (f (OtherGenesis theirs) k.0, k.1)
unkept_as g rest whole restarts.KeepFault f k = tt
unkept_as g rest whole restarts.NoMemory f k = tt

-- one more block in front
leads_more : (rows : Option Rows) (node height more : ℕ) (s t u : State) → Adds rows node height s t → LeadsFrom rows node (height + 1) more t u → LeadsFrom rows node height (suc more) s u
unfolding fold_from
leads_more rows node height more s t u a l = record {
  blocks = a.block ∷ l.blocks;
  leads = ap (λ (r : Result (Applied) Bad). r >>= λ after. fold_from after.0 l.blocks) a.good ∙ l.leads;
  told = both rows a.told l.told;
}
  where
    both : (o : Option Rows) → IfSome o (λ r. block_at r node height ≡ Some a.block) → IfSome o (λ r. kept_from t r node (height + 1) more ≡ Ok l.blocks)
        → IfSome o (λ r. kept_from s r node height (suc more) ≡ Ok (a.block ∷ l.blocks))
    both None h k = tt
    both (Some r) h k = kept_more r node height more s t a.block a.results a.triggered (Ok l.blocks) h a.good k

-- what is left of the rows decides what is told of all
pub record IsUnderWay (rows : Option Rows) (node first all : ℕ) (s : State) (height more : ℕ) (now : State) : Type 0 where
  pub good : (t : State) → LeadsFrom rows node height more now t → LeadsFrom rows node first all s t
  pub bad : (r : Rows) → rows ≡ Some r → (u : Unkept) → kept_from now r node height more ≡ Err u → kept_from s r node first all ≡ Err u

pub way_first : (rows : Option Rows) (node first all : ℕ) (s : State) → IsUnderWay rows node first all s first all s
way_first rows node first all s = record { good = λ t l. l; bad = λ r e u i. i }

pub told_at : (rows : Option Rows) (P : Rows → Type 0) (r : Rows) → rows ≡ Some r → IfSome rows P → P r
told_at None P r e k = absurd (cc)
told_at (Some q) P r e k = subst P (some_same q r e) k
  where
    some_same : (x y : Rows) → Some x ≡ Some y → x ≡ y
    some_same x y e = cc

one_more : (rows : Option Rows) (node first all : ℕ) (s : State) (height more : ℕ) (now next : State)
    → IsUnderWay rows node first all s height (suc more) now → Adds rows node height now next → IsUnderWay rows node first all s (height + 1) more next
one_more rows node first all s height more now next w a = record {
  good = λ t l. w.good t (leads_more rows node height more now next t a l);
  bad = λ r e u i. w.bad r e u (kept_more r node height more now next a.block a.results a.triggered (Err u) (told_at rows (λ q. block_at q node height ≡ Some a.block) r e a.told) a.good i);
}

pub way_next : (rows : Option Rows) (node first all : ℕ) (s : State) (height count : ℕ) (now next : State) → height < count
    → IsUnderWay rows node first all s height (count - height) now → Adds rows node height now next → IsUnderWay rows node first all s (height + 1) (count - (height + 1)) next
way_next rows node first all s height count now next h w a =
    let e : count - height ≡ suc (count - (height + 1)) = omega (arith, h) in
    one_more rows node first all s height (count - (height + 1)) now next (subst (λ n. IsUnderWay rows node first all s height n now) e w) a

pub way_last : (rows : Option Rows) (node first all : ℕ) (s : State) (height count : ℕ) (now : State) → count ≤ height
    → IsUnderWay rows node first all s height (count - height) now → LeadsFrom rows node first all s now
unfolding fold_from kept_from
way_last rows node first all s height count now h w =
    let e : count - height ≡ 0 = omega (arith, h) in
    let v = subst (λ n. IsUnderWay rows node first all s height n now) e w in
    v.good now (record { blocks = []; leads = refl; told = none rows })
  where
    none : (o : Option Rows) → IfSome o (λ r. kept_from now r node height 0 ≡ Ok [])
    none None = tt
    none (Some r) = refl

-- the block of a row where a call reads later is that of the rows before
pub adds_before : (a b : Option Rows) (node height : ℕ) (s t : State) → SameRows a b → Adds b node height s t → Adds a node height s t
adds_before a b node height s t h k = record {
  block = k.block;
  results = k.results;
  triggered = k.triggered;
  good = k.good;
  told = said_before (λ r. block_at r node height ≡ Some k.block) a b h k.told;
}

-- a row at which the rows end as a chain
pub way_refused : (a b : Option Rows) (node first all : ℕ) (s : State) (height count : ℕ) (now : State) (g : Genesis) (result : Result (Unit {0}) RestartFault) → height < count → SameRows a b
    → IsUnderWay a node first all s height (count - height) now
    → ((r : Rows) → b ≡ Some r → (g : Genesis) → (more : ℕ) → IfErr result (IsUnkept g (kept_from now r node height (suc more))))
    → (r : Rows) → a ≡ Some r → IfErr result (IsUnkept g (kept_from s r node first all))
way_refused a b node first all s height count now g (Ok u) h same w k r e = tt
way_refused a b node first all s height count now g (Err fault) h same w k r e =
    let i : count - height ≡ suc (count - (height + 1)) = omega (arith, h) in
    let v = subst (λ n. IsUnderWay a node first all s height n now) i w in
    unkept_as g (kept_from now r node height (suc (count - (height + 1)))) (kept_from s r node first all) fault (v.bad r e) (k r (same_known a b same r e) g (count - (height + 1)))

-- what is told of a row that is found is told of that of the rows
pub found_at : (P : Option (List ℕ) → Type 0) (known : Option Rows) (key : RowKey) (row : Option (List ℕ)) → FindsRow known key row → (r : Rows) → known ≡ Some r → P row → P (get r key)
found_at P None key row h r e k = absurd (cc)
found_at P (Some q) key row h r e k = told_at (Some q) (λ x. P (get x key)) r e (subst P h k)

-- rows that are some are told of by the first, and by those above it
kept_some : (g : Genesis) (r : Rows) (node count : ℕ) → 1 ≤ count → count ≡ row_count r node
    → kept g r node ≡ first_of (first_fault g (get r (place_of node 0))) (kept_from (genesis_state g) r node 1 (count - 1))
unfolding kept
kept_some g r node count some n =
    let told : ℕ → Result (List Block) Unkept = λ m. first_of (first_fault g (get r (place_of node 0))) (kept_from (genesis_state g) r node 1 (m - 1)) in
    ap (λ (m : ℕ). cond (m == 0) (Ok []) (told m)) (sym n) ∙ ap (λ (t : Bool). cond t (Ok []) (told count)) (not_zero count some)
  where
    not_zero : (n : ℕ) → 1 ≤ n → (n == 0) ≡ false
    not_zero n h = grind (arith, nat_tests, h)

-- by those above it alone where the first is the digest of the genesis
kept_above : (g : Genesis) (r : Rows) (node count : ℕ) → 1 ≤ count → count ≡ row_count r node → first_fault g (get r (place_of node 0)) ≡ None
    → kept g r node ≡ kept_from (genesis_state g) r node 1 (count - 1)
kept_above g r node count some n e = kept_some g r node count some n ∙ ap (λ (f : Option Unkept). first_of f (kept_from (genesis_state g) r node 1 (count - 1))) e

-- and none are an empty chain
kept_empty : (g : Genesis) (r : Rows) (node count : ℕ) → count ≡ 0 → count ≡ row_count r node → kept g r node ≡ Ok []
unfolding kept
kept_empty g r node count z n =
    ap (λ (m : ℕ). cond (m == 0) (Ok []) (first_of (first_fault g (get r (place_of node 0))) (kept_from (genesis_state g) r node 1 (m - 1)))) (sym n ∙ z)

-- where the first row is none of the genesis
pub first_refused : (rows : Option Rows) (g : Genesis) (node count : ℕ) (ours : List ℕ) (result : Result (Unit {0}) RestartFault) → 1 ≤ count → ours ≡ digest_of g
    → ((r : Rows) → rows ≡ Some r → (h : Genesis) → ours ≡ digest_of h → (above : Result (List Block) Unkept) → IfErr result (IsUnkept h (first_of (first_fault h (get r (place_of node 0))) above)))
    → (r : Rows) → rows ≡ Some r → count ≡ row_count r node → IfErr result (IsUnkept g (kept g r node))
first_refused rows g node count ours result some digest f r e n =
    subst (λ (told : Result (List Block) Unkept). IfErr result (IsUnkept g told)) (sym (kept_some g r node count some n)) (f r e g digest (kept_from (genesis_state g) r node 1 (count - 1)))

-- where a row above it is
pub above_refused : {A : Type 0} (rows mid : Option Rows) (g : Genesis) (node count : ℕ) (s : State) (result : Result A RestartFault) → 1 ≤ count → SameRows rows mid → s ≡ genesis_state g
    → IfSome rows (λ r. first_fault g (get r (place_of node 0)) ≡ None)
    → ((r : Rows) → mid ≡ Some r → (h : Genesis) → IfErr result (IsUnkept h (kept_from s r node 1 (count - 1))))
    → (r : Rows) → rows ≡ Some r → count ≡ row_count r node → IfErr result (IsUnkept g (kept g r node))
above_refused rows mid g node count s result some same e first f r i n =
    let here = told_at rows (λ (q : Rows). first_fault g (get q (place_of node 0)) ≡ None) r i first in
    subst (λ (told : Result (List Block) Unkept). IfErr result (IsUnkept g told))
    (ap (λ (u : State). kept_from u r node 1 (count - 1)) e ∙ sym (kept_above g r node count some n here)) (f r (same_known rows mid same r i) g)

-- all rows are good: their blocks are those above the first
pub begins_above : (rows mid : Option Rows) (g : Genesis) (node count : ℕ) (s t : State) → 1 ≤ count → SameRows rows mid → s ≡ genesis_state g
    → IfSome rows (λ r. first_fault g (get r (place_of node 0)) ≡ None) → LeadsFrom mid node 1 (count - 1) s t → Begins g (AreCounted rows g node count) t
begins_above rows mid g node count s t some same e first l = record {
  blocks = l.blocks;
  leads = ap (λ (u : State). fold_from u l.blocks) (sym e) ∙ l.leads;
  told = both rows first (said_before (λ r. kept_from s r node 1 (count - 1) ≡ Ok l.blocks) rows mid same l.told);
}
  where
    both : (o : Option Rows) → IfSome o (λ r. first_fault g (get r (place_of node 0)) ≡ None) → IfSome o (λ r. kept_from s r node 1 (count - 1) ≡ Ok l.blocks) → AreCounted o g node count l.blocks
    both None h k = tt
    both (Some r) h k = λ n. kept_above g r node count some n h ∙ ap (λ (u : State). kept_from u r node 1 (count - 1)) (sym e) ∙ k

-- there are none
pub begins_none : (rows : Option Rows) (g : Genesis) (node count : ℕ) (s : State) → count ≡ 0 → CountsRows rows node count → s ≡ genesis_state g → Begins g (IsChainOf rows g node) s
unfolding fold_from
begins_none rows g node count s z n e = record { blocks = []; leads = ap Ok (sym e); told = none rows n }
  where
    none : (o : Option Rows) → CountsRows o node count → IsChainOf o g node []
    none None k = tt
    none (Some r) k = kept_empty g r node count z k

-- rows of a node that were counted before
pub begins_before : (rows mid : Option Rows) (g : Genesis) (node count : ℕ) (s : State) → SameRows rows mid → CountsRows rows node count → Begins g (AreCounted mid g node count) s → Begins g (IsChainOf rows g node) s
begins_before rows mid g node count s same n k = record {
  blocks = k.blocks;
  leads = k.leads;
  told = counted rows n (said_before (λ r. count ≡ row_count r node → kept g r node ≡ Ok k.blocks) rows mid same k.told);
}
  where
    counted : (o : Option Rows) → CountsRows o node count → AreCounted o g node count k.blocks → IsChainOf o g node k.blocks
    counted None i j = tt
    counted (Some r) i j = j i

counted_at : (rows : Option Rows) (node count : ℕ) (r : Rows) → rows ≡ Some r → CountsRows rows node count → count ≡ row_count r node
counted_at None node count r e k = absurd (cc)
counted_at (Some q) node count r e k = told_at (Some q) (λ x. count ≡ row_count x node) r e k

pub refused_before : {A : Type 0} (rows mid : Option Rows) (g : Genesis) (node count : ℕ) (result : Result A RestartFault) → SameRows rows mid → CountsRows rows node count
    → ((r : Rows) → mid ≡ Some r → count ≡ row_count r node → IfErr result (IsUnkept g (kept g r node)))
    → (r : Rows) → rows ≡ Some r → IfErr result (IsUnkept g (kept g r node))
refused_before rows mid g node count result same n f r e = f r (same_known rows mid same r e) (counted_at rows node count r e n)

-- a good answer behind a call that only reads
pub read_same : {A T : Type 0} (a b : Option Rows) (x y : ℕ) (first : Result A RestartFault) (answer : T) → OnlyReads a b x y first → OnlyReads {T = T} a b x y (Ok answer)
read_same a b x y first answer h = record { same = h.same; later = h.later; failed = λ e. absurd (cc) }
