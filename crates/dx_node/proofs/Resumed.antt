-- A node that resumes from a state: the rows that it reads, and the plain node that it then stands for.
use Rattle.std.proofs.Common.{◌≡◌, ℕ, suc, ◌+◌, ◌-◌, ◌<◌, ◌≤◌, Bool, true, false, cond, ◌==◌, List, [], ◌∷◌, ◌++◌, length, Option, Some, None, Result, Ok, Err, refl, sym, ap, subst, ◌∙◌, arith}
use Rattle.std.specs.Prelude.{nat_le, IfSome, IfErr, option_map}
use Rattle.std.specs.Result.{result_unwrap_or}
use Rattle.std.specs.FinMap.{get, empty, values}
use Rattle.std.proofs.lemmas.List.{length-append}
use Rattle.std.proofs.lemmas.Bool.Decides.{nat_tests}
use Rattle.dx_types.specs.declared.Genesis.{Genesis}
use Rattle.dx_types.specs.declared.Block.{Block}
use Rattle.dx_types.specs.declared.Bad.{Bad}
use Rattle.dx_spec.specs.Step.{fail_as}
use Rattle.dx_spec.specs.State.{State, genesis_state}
use Rattle.dx_spec.specs.Genesis.{IsGenesis}
use Rattle.dx_spec.specs.Blocks.{Applied, block_step, fold_from, fold_blocks}
use Rattle.dx_spec.proofs.Steps.{ok_same}
use Rattle.dx_spec.proofs.Scripts.{stage_passes, some_passes}
use Rattle.dx_io.specs.Rows.{Rows, SameRows, CountsRows, row_count}
use Rattle.dx_codec.specs.Genesis.{digest_of}
use Rattle.dx_codec.specs.Building.{IsStateOf}
use Rattle.dx_rules.specs.Settled.{IsSettled}
use Rattle.dx_codec.proofs.Formats.{same_value}
use Rattle.dx_history.specs.Rows.{place_of, block_at}
use Rattle.dx_history.specs.Chains.{Unkept, BadAt, IsChain, behind, after_good, good_on, kept_from, first_fault, first_of, kept}
use Rattle.dx_history.proofs.Climbing.{fold_height}
use Rattle.dx_history.proofs.Starting.{chain_read}
use Rattle.dx_node_spec.specs.Node.{Node, committed, next_height, speculative}
use Rattle.dx_node_spec.specs.Commits.{restarted, resumed}
use Rattle.dx_node.specs.declared.faults.RestartFault.{RestartFault}
use Rattle.dx_node.specs.declared.faults.RestartFault.TheVariants as restarts
use Rattle.dx_node.specs.declared.faults.ResumeFault.{ResumeFault}
use Rattle.dx_node.specs.Held.{Held, IsKept}
use Rattle.dx_spec.proofs.Folds.{fold_on}
use Rattle.dx_node.specs.Standing.{held_of, StandsFor}
use Rattle.dx_node.specs.Starts.{IsUnkept, LeadsFrom, IsAnew}
use Rattle.dx_node.specs.Resumes.{Unresumed, AheadOf, Broken, chain_above, resumable_at, resumable, resume_fault, IsUnresumed, Continues, AreAbove, AreResumable, Resumes, ResumeRefused}
use Rattle.dx_speculation.proofs.Nodes.{nothing_queued as no_ops}
use Rattle.dx_node.proofs.Plain.{stand_back}
use Rattle.dx_node.proofs.Started.{same_known, said_before, told_at}
use Rattle.dx_node.proofs.Restarted.{stands_begun, stands_resumed}

-- ---- the rows above a state

-- by those above it alone where the first is the digest of the genesis
above_only : (g : Genesis) (s : State) (r : Rows) (node count : ℕ) → first_fault g (get r (place_of node 0)) ≡ None
    → chain_above g s r node count ≡ kept_from s r node (s.clock.height + 1) (count - (s.clock.height + 1))
above_only g s r node count e = ap (λ (f : Option Unkept). first_of f (kept_from s r node (s.clock.height + 1) (count - (s.clock.height + 1)))) e

-- where the first row is none of the genesis
pub first_unkept : (rows : Option Rows) (g : Genesis) (s : State) (node count : ℕ) (ours : List ℕ) (result : Result (Unit {0}) RestartFault) → ours ≡ digest_of g
    → ((r : Rows) → rows ≡ Some r → (h : Genesis) → ours ≡ digest_of h → (above : Result (List Block) Unkept) → IfErr result (IsUnkept h (first_of (first_fault h (get r (place_of node 0))) above)))
    → (r : Rows) → rows ≡ Some r → IfErr result (IsUnkept g (chain_above g s r node count))
first_unkept rows g s node count ours result digest f r e = f r e g digest (kept_from s r node (s.clock.height + 1) (count - (s.clock.height + 1)))

-- where a row above the state is none of a chain
pub above_unkept : {A : Type 0} (rows mid : Option Rows) (g : Genesis) (s : State) (node first count : ℕ) (result : Result A RestartFault) → SameRows rows mid → first ≡ s.clock.height + 1
    → IfSome rows (λ r. first_fault g (get r (place_of node 0)) ≡ None)
    → ((r : Rows) → mid ≡ Some r → (h : Genesis) → IfErr result (IsUnkept h (kept_from s r node first (count - first))))
    → (r : Rows) → rows ≡ Some r → IfErr result (IsUnkept g (chain_above g s r node count))
above_unkept rows mid g s node first count result same next here f r i =
    let one = told_at rows (λ (q : Rows). first_fault g (get q (place_of node 0)) ≡ None) r i here in
    subst (λ (told : Result (List Block) Unkept). IfErr result (IsUnkept g told))
    (ap (λ (n : ℕ). kept_from s r node n (count - n)) next ∙ sym (above_only g s r node count one)) (f r (same_known rows mid same r i) g)

-- all rows are good: their blocks are those above the state
pub leads_above : (rows mid : Option Rows) (g : Genesis) (s t : State) (node first count : ℕ) → SameRows rows mid → first ≡ s.clock.height + 1
    → IfSome rows (λ r. first_fault g (get r (place_of node 0)) ≡ None) → LeadsFrom mid node first (count - first) s t → Continues s (AreAbove rows g s node count) t
leads_above rows mid g s t node first count same next here l = record {
  blocks = l.blocks;
  leads = l.leads;
  told = both rows here (said_before (λ r. kept_from s r node first (count - first) ≡ Ok l.blocks) rows mid same l.told);
}
  where
    both : (o : Option Rows) → IfSome o (λ r. first_fault g (get r (place_of node 0)) ≡ None) → IfSome o (λ r. kept_from s r node first (count - first) ≡ Ok l.blocks) → AreAbove o g s node count l.blocks
    both None h k = tt
    both (Some r) h k = above_only g s r node count h ∙ ap (λ (n : ℕ). kept_from s r node n (count - n)) (sym next) ∙ k

-- ---- the count of the rows

counted_at : (rows : Option Rows) (node count : ℕ) (r : Rows) → rows ≡ Some r → CountsRows rows node count → count ≡ row_count r node
counted_at None node count r e k = absurd (cc)
counted_at (Some q) node count r e k = told_at (Some q) (λ x. count ≡ row_count x node) r e k

by_count : (g : Genesis) (s : State) (r : Rows) (node count : ℕ) → count ≡ row_count r node → resumable g s r node ≡ resumable_at g s r node count
unfolding resumable
by_count g s r node count e = ap (resumable_at g s r node) (sym e)

ahead_at : (g : Genesis) (s : State) (r : Rows) (node count : ℕ) → count ≤ s.clock.height → resumable_at g s r node count ≡ Err (AheadOf count)
ahead_at g s r node count le = ap (λ (t : Bool). cond t (Err (AheadOf count)) (fail_as Broken (chain_above g s r node count))) (test count s.clock.height le)
  where
    test : (n m : ℕ) → n ≤ m → nat_le n m ≡ true
    test n m le = grind (arith, nat_tests)

below_at : (g : Genesis) (s : State) (r : Rows) (node count : ℕ) → s.clock.height < count → resumable_at g s r node count ≡ fail_as Broken (chain_above g s r node count)
below_at g s r node count lt = ap (λ (t : Bool). cond t (Err (AheadOf count)) (fail_as Broken (chain_above g s r node count))) (test count s.clock.height lt)
  where
    test : (n m : ℕ) → m < n → nat_le n m ≡ false
    test n m lt = grind (arith, nat_tests)

-- the state is ahead of the rows
pub is_ahead : (rows : Option Rows) (g : Genesis) (s : State) (node count : ℕ) → count ≤ s.clock.height → CountsRows rows node count
    → (r : Rows) → rows ≡ Some r → resumable g s r node ≡ Err (AheadOf count)
is_ahead rows g s node count le n r e = by_count g s r node count (counted_at rows node count r e n) ∙ ahead_at g s r node count le

-- a fault of the rows above the state is told
broken_as : (g : Genesis) (told : Result (List Block) Unkept) (fault : RestartFault) → IsUnkept g told fault → IsUnresumed g (fail_as Broken told) (resume_fault fault)
broken_as g told (restarts.KeptBad height) h = ap (λ (q : Result (List Block) Unkept). fail_as {D = Unkept} Broken q) h
broken_as g told (restarts.KeptOther theirs ours) h = (ap (λ (q : Result (List Block) Unkept). fail_as {D = Unkept} Broken q) h.0, h.1)
broken_as g told restarts.KeepFault h = tt
broken_as g told restarts.NoMemory h = tt

pub is_broken : (rows mid : Option Rows) (g : Genesis) (s : State) (node count : ℕ) (fault : RestartFault) (told : ResumeFault) → s.clock.height < count → SameRows rows mid → CountsRows rows node count
    → told ≡ resume_fault fault → ((r : Rows) → mid ≡ Some r → IsUnkept g (chain_above g s r node count) fault)
    → (r : Rows) → rows ≡ Some r → IsUnresumed g (resumable g s r node) told
is_broken rows mid g s node count fault told lt same n e f r i =
    subst (IsUnresumed g (resumable g s r node)) (sym e)
    (subst (λ (q : Result (List Block) Unresumed). IsUnresumed g q (resume_fault fault)) (sym (by_count g s r node count (counted_at rows node count r i n) ∙ below_at g s r node count lt))
    (broken_as g (chain_above g s r node count) fault (f r (same_known rows mid same r i))))

-- blocks above the state are those from which the node resumes
pub is_resumed : (rows mid : Option Rows) (g : Genesis) (s t : State) (node count : ℕ) → s.clock.height < count → SameRows rows mid → CountsRows rows node count
    → Continues s (AreAbove mid g s node count) t → Continues s (AreResumable rows g s node) t
is_resumed rows mid g s t node count lt same n l = record {
  blocks = l.blocks;
  leads = l.leads;
  told = counted rows n (said_before (λ r. chain_above g s r node count ≡ Ok l.blocks) rows mid same l.told);
}
  where
    counted : (o : Option Rows) → CountsRows o node count → AreAbove o g s node count l.blocks → AreResumable o g s node l.blocks
    counted None i j = tt
    counted (Some r) i j = by_count g s r node count i ∙ below_at g s r node count lt ∙ ap (λ (q : Result (List Block) Unkept). fail_as {D = Unkept} Broken q) j

-- ---- the node

-- a state of a node's genesis is one between blocks
pub is_settled : (g : Held) (s : State) → IsKept g → IsStateOf g.committed.genesis s → IsSettled s
is_settled g s k h = record { genesis = subst IsGenesis (sym h.genesis) k.settled.genesis; sound = h.sound; balanced = h.balanced }

-- so it resumes from the state
pub resumes_at : (rows : Option Rows) (g h n : Held) (p : Node) (s : State) (height : ℕ) → g ≡ h → IsStateOf g.committed.genesis s → IsAnew g.number n
    → Continues s (AreResumable rows s.genesis s g.number) n.committed → height ≡ n.committed.clock.height → StandsFor h p → Resumes rows p s n height
resumes_at rows g h n p s height v of a l told st =
    let back = stand_back g h p v st in
    let number : g.number ≡ p.number = ap (λ (x : Held). x.number) back.parts in
    let own : s.genesis ≡ p.genesis = of.genesis ∙ back.genesis in
    record {
      blocks = l.blocks;
      kept = subst (λ (m : ℕ). AreResumable rows p.genesis s m l.blocks) number (subst (λ (x : Genesis). AreResumable rows x s g.number l.blocks) own l.told);
      stands = stands_resumed n p s l.blocks of.sound own (subst (λ (m : ℕ). IsAnew m n) number a) l.leads;
      told = told;
    }

-- the rows of a node that stands for a plain one are refused as those of that one
pub resume_refused : (rows : Option Rows) (g h : Held) (p : Node) (s : State) (fault : ResumeFault) → g ≡ h → s.genesis ≡ g.committed.genesis
    → ((r : Rows) → rows ≡ Some r → IsUnresumed s.genesis (resumable s.genesis s r g.number) fault) → StandsFor h p → ResumeRefused rows p s fault
resume_refused rows g h p s fault v of f st =
    let back = stand_back g h p v st in
    subst (λ (m : ℕ). IfSome rows (λ r. IsUnresumed p.genesis (resumable p.genesis s r m) fault)) (ap (λ (x : Held). x.number) back.parts)
    (subst (λ (x : Genesis). IfSome rows (λ r. IsUnresumed x (resumable x s r g.number) fault)) (of ∙ back.genesis) (known rows f))
  where
    known : (o : Option Rows) → ((r : Rows) → o ≡ Some r → IsUnresumed s.genesis (resumable s.genesis s r g.number) fault) → IfSome o (λ r. IsUnresumed s.genesis (resumable s.genesis s r g.number) fault)
    known None f = tt
    known (Some r) f = f r refl

-- ---- the chain of a node, resumed

behind_is : (c b : Block) (bs : List Block) (r : Result (List Block) Unkept) → behind c r ≡ Ok (b ∷ bs) → (c ≡ b) × (r ≡ Ok bs)
behind_is c b bs (Err unkept) e = absurd (cc)
behind_is c b bs (Ok cs) e = (cc, cc)

good_is : (s : State) (o : Option Block) (x : Block × State) → good_on s o ≡ Some x → (r : Applied) × (block_step s x.0 ≡ Ok r) × (r.0 ≡ x.1)
good_is s None x e = absurd (cc)
good_is s (Some b) x e = go (block_step s b) refl e
  where
    go : (r : Result (Applied) Bad) → block_step s b ≡ r → option_map {T = State} {U = Block × State} (λ u. (b, u)) (after_good r) ≡ Some x
        → (r : Applied) × (block_step s x.0 ≡ Ok r) × (r.0 ≡ x.1)
    go (Err bad) step f = absurd (cc)
    go (Ok after) step f =
        let same : (b, after.0) ≡ x = same_value (b, after.0) x f in
        (after, ap (λ (y : Block × State). block_step s y.0) (sym same) ∙ step, ap (λ (y : Block × State). y.1) same)

same_answer : (r q : Applied) (t : Result (Applied) Bad) → t ≡ Ok r → t ≡ Ok q → r ≡ q
same_answer r q t e f = cc

-- what is read from a height on goes on behind the first blocks
read_on : (first later : List Block) (s t : State) (rows : Rows) (node height more : ℕ) → kept_from s rows node height (length first + more) ≡ Ok (first ++ later)
    → fold_from s first ≡ Ok t → kept_from t rows node (height + length first) more ≡ Ok later
unfolding kept_from fold_from
read_on [] later s t rows node height more e f =
    let at : height ≡ height + 0 = omega arith in
    let all : 0 + more ≡ more = omega arith in
    let d = subst (λ (n : ℕ). kept_from s rows node height n ≡ Ok later) all e in
    subst (λ (n : ℕ). kept_from t rows node n more ≡ Ok later) at (subst (λ (u : State). kept_from u rows node height more ≡ Ok later) (ok_same s t f) d)
read_on (b ∷ first) later s t rows node height more e f =
    let a = stage_passes (block_step s b) (λ after. fold_from after.0 first) t f in
    let all : suc (length first) + more ≡ suc (length first + more) = omega arith in
    let d = subst (λ (n : ℕ). kept_from s rows node height n ≡ Ok (b ∷ (first ++ later))) all e in
    let x = some_passes (good_on s (block_at rows node height)) (BadAt height) (λ k. behind k.0 (kept_from k.1 rows node (height + 1) (length first + more))) (b ∷ (first ++ later)) d in
    let y = behind_is x.0.0 b (first ++ later) (kept_from x.0.1 rows node (height + 1) (length first + more)) x.2 in
    let g = good_is s (block_at rows node height) x.0 x.1 in
    let same : g.0 ≡ a.0 = same_answer g.0 a.0 (block_step s b) (ap (block_step s) (sym y.0) ∙ g.1) a.1 in
    let reached : x.0.1 ≡ a.0.0 = sym g.2 ∙ ap (λ (r : Applied). r.0) same in
    let rest = subst (λ (u : State). kept_from u rows node (height + 1) (length first + more) ≡ Ok (first ++ later)) reached y.1 in
    let at : height + 1 + length first ≡ height + suc (length first) = omega arith in
    subst (λ (n : ℕ). kept_from t rows node n more ≡ Ok later) at (read_on first later a.0.0 t rows node (height + 1) more rest a.2)

pub none_before : (f : Option Unkept) (above : Result (List Block) Unkept) (bs : List Block) → first_of f above ≡ Ok bs → (f ≡ None) × (above ≡ Ok bs)
none_before None above bs e = (refl, e)
none_before (Some unkept) above bs e = absurd (cc)

-- the rows of a chain above the first
chain_parts : (rows : Rows) (node : ℕ) (g : Genesis) (bs : List Block) → row_count rows node ≡ length bs + 1 → kept g rows node ≡ Ok bs
    → (first_fault g (get rows (place_of node 0)) ≡ None) × (kept_from (genesis_state g) rows node 1 (length bs) ≡ Ok bs)
unfolding kept
chain_parts rows node g bs count e =
    let told : ℕ → Result (List Block) Unkept = λ n. first_of (first_fault g (get rows (place_of node 0))) (kept_from (genesis_state g) rows node 1 (n - 1)) in
    let some : (length bs + 1 == 0) ≡ false = more (length bs) in
    let less : length bs + 1 - 1 ≡ length bs = omega arith in
    let f : told (length bs + 1) ≡ Ok bs =
    sym (ap (λ (n : ℕ). cond (n == 0) (Ok []) (told n)) count ∙ ap (λ (t : Bool). cond t (Ok []) (told (length bs + 1))) some) ∙ e in
    let p = none_before (first_fault g (get rows (place_of node 0))) (kept_from (genesis_state g) rows node 1 (length bs + 1 - 1)) bs f in
    (p.0, subst (λ (n : ℕ). kept_from (genesis_state g) rows node 1 n ≡ Ok bs) less p.1)
  where
    more : (n : ℕ) → (n + 1 == 0) ≡ false
    more n = grind (arith, nat_tests)

genesis_height : (g : Genesis) → (genesis_state g).clock.height ≡ 0
unfolding genesis_state
genesis_height g = refl

-- a node resumes with the later blocks of its chain
pub chain_resumed : (rows : Rows) (node : ℕ) (g : Genesis) (s : State) (first later : List Block) → IsChain rows node g (first ++ later) → fold_blocks g first ≡ Ok s → resumable g s rows node ≡ Ok later
chain_resumed rows node g s first later h e =
    let long = length-append first later in
    let p = chain_parts rows node g (first ++ later) h.count (chain_read rows node g (first ++ later) h) in
    let up = fold_height (genesis_state g) first s e in
    let none = genesis_height g in
    let count = h.count in
    let lt : s.clock.height < row_count rows node = omega (arith, up, none, count, long) in
    let at : 1 + length first ≡ s.clock.height + 1 = omega (arith, up, none) in
    let left : length later ≡ row_count rows node - (s.clock.height + 1) = omega (arith, up, none, count, long) in
    let all : kept_from (genesis_state g) rows node 1 (length first + length later) ≡ Ok (first ++ later) = subst (λ (n : ℕ). kept_from (genesis_state g) rows node 1 n ≡ Ok (first ++ later)) long p.1 in
    let rest = read_on first later (genesis_state g) s rows node 1 (length later) all e in
    let above : kept_from s rows node (s.clock.height + 1) (row_count rows node - (s.clock.height + 1)) ≡ Ok later =
    subst (λ (n : ℕ). kept_from s rows node (s.clock.height + 1) n ≡ Ok later) left (subst (λ (n : ℕ). kept_from s rows node n (length later) ≡ Ok later) at rest) in
    by_count g s rows node (row_count rows node) refl ∙ below_at g s rows node (row_count rows node) lt
    ∙ ap (λ (q : Result (List Block) Unkept). fail_as {D = Unkept} Broken q) (above_only g s rows node (row_count rows node) p.0 ∙ above)

folded_behind : (h : Held) (p : Node) (s : State) (later : List Block) → StandsFor h (resumed p s later) → fold_from s later ≡ Ok h.committed
unfolding resumed
folded_behind h p s later st = st.folded

same_parts : (h : Held) (p : Node) (s : State) (later : List Block) → StandsFor h (resumed p s later)
    → (h.number ≡ p.number) × (h.queue ≡ []) × (h.book ≡ []) × (h.cancels ≡ empty) × (h.pool ≡ []) × (h.feed ≡ empty) × (h.speculative ≡ h.committed) × (h.again ≡ values h.committed.stateful)
unfolding resumed committed speculative
same_parts h p s later st =
    let i : h ≡ held_of (resumed p s later) = st.parts in
    let to : h.committed ≡ committed (resumed p s later) = ap (λ (x : Held). x.committed) i in
    let alone : speculative (resumed p s later) ≡ committed (resumed p s later) =
    ap (λ r. result_unwrap_or r (committed (resumed p s later))) (no_ops (committed (resumed p s later)) (next_height (resumed p s later))) in (
      ap (λ (x : Held). x.number) i,
      ap (λ (x : Held). x.queue) i,
      ap (λ (x : Held). x.book) i,
      ap (λ (x : Held). x.cancels) i,
      ap (λ (x : Held). x.pool) i,
      ap (λ (x : Held). x.feed) i,
      ap (λ (x : Held). x.speculative) i ∙ alone ∙ sym to,
      ap (λ (x : Held). x.again) i ∙ ap (λ (u : State). values u.stateful) (sym to),
    )

same_root : (h : Held) (p : Node) (s : State) (later : List Block) → StandsFor h (resumed p s later) → h.committed.genesis ≡ p.genesis
unfolding resumed
same_root h p s later st = st.genesis

-- and it stands for the node that starts anew from all of its blocks
pub resumed_restarted : (h : Held) (p : Node) (s : State) (first later : List Block) → fold_blocks p.genesis first ≡ Ok s → StandsFor h (resumed p s later) → StandsFor h (restarted p (first ++ later))
resumed_restarted h p s first later e st =
    let f = folded_behind h p s later st in
    let q = same_parts h p s later st in
    let a : IsAnew p.number h = record {
      speculative = q.6;
      number_is = q.0;
      queue = q.1;
      book = q.2;
      cancels = q.3;
      pool = q.4;
      feed = q.5;
      again = q.7;
    } in
    stands_begun h p (first ++ later) (same_root h p s later st) a (sym (fold_on (genesis_state p.genesis) first later s e) ∙ f)
