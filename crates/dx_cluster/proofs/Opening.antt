-- Which nodes are opened over rows, and what the rows are then.
use Rattle.std.proofs.Common.{◌≡◌, ◌<◌, ◌≤◌, ◌+◌, ◌-◌, ◌==◌, ℕ, zero, suc, Bool, true, false, List, [], ◌∷◌, ◌++◌, map, length, arith, refl, sym, ap, subst, ◌∙◌, Some, Result, Ok, Err}
use Rattle.std.specs.Prelude.{All}
use Rattle.std.specs.List.{range_with_len}
use Rattle.std.specs.FinMap.{empty}
use Rattle.std.proofs.lemmas.Bool.{eqb-true}
use Rattle.std.proofs.lemmas.Bool.Decides.{nat_tests}
use Rattle.std.proofs.lemmas.List.Elements.{All-cons, All-nil, All-weaker}
use Rattle.std.proofs.lemmas.List.FromFn.{length-range_with_len}
use Rattle.dx_types.specs.declared.Block.{Block}
use Rattle.dx_types.specs.declared.Genesis.{Genesis}
use Rattle.dx_spec.specs.Step.{◌>>=◌}
use Rattle.dx_spec.proofs.Scripts.{stage_passes}
use Rattle.dx_spec.proofs.Steps.{ok_same}
use Rattle.dx_io.specs.Rows.{Rows}
use Rattle.dx_history.specs.Chains.{Unkept, kept}
use Rattle.dx_node_spec.specs.Node.{Node, new_node}
use Rattle.dx_cluster.specs.Acts.{started}
use Rattle.dx_cluster.specs.World.{World, node_of, nodes_of, begun_all, opened, HasFirst, KeepsRows}
use Rattle.dx_cluster.specs.Laws.{HasChain}
use Rattle.dx_cluster.proofs.Everywhere.{AreNumbered}
use Rattle.dx_cluster.proofs.Chains.{started_over, new_root, new_started_has, chain_behind, range_split, chain_first}

-- a node that is made starts from its chain
node_made : (g : Genesis) (number : ℕ) (r : Result (List Block) Unkept) (p : Node) → node_of g number r ≡ Ok p → (blocks : List Block) × (r ≡ Ok blocks) × (started (new_node number g) blocks ≡ p)
node_made g number (Ok blocks) p e = (blocks, refl, ok_same _ _ e)
node_made g number (Err unkept) p e = absurd (cc)

-- the first of the nodes starts from its chain, and the others from theirs
pub record FirstMade (g : Genesis) (rows : Rows) (number : ℕ) (numbers : List ℕ) (ps : List Node) : Type 0 where
  pub blocks : List Block
  pub chain : kept g rows number ≡ Ok blocks
  pub others : List Node
  pub made : nodes_of g rows numbers ≡ Ok others
  pub are : started (new_node number g) blocks ∷ others ≡ ps

first_made : (g : Genesis) (rows : Rows) (number : ℕ) (numbers : List ℕ) (ps : List Node) → nodes_of g rows (number ∷ numbers) ≡ Ok ps → FirstMade g rows number numbers ps
first_made g rows number numbers ps e =
    let a = stage_passes (node_of g number (kept g rows number)) (λ (p : Node). nodes_of g rows numbers >>= λ others. Ok (p ∷ others)) ps e in
    let b = stage_passes (nodes_of g rows numbers) (λ (others : List Node). Ok (a.0 ∷ others)) ps a.2 in
    let m = node_made g number (kept g rows number) a.0 a.1 in
    record {
      blocks = m.0;
      chain = m.1;
      others = b.0;
      made = b.1;
      are = ap (λ (p : Node). p ∷ b.0) m.2 ∙ ok_same _ _ b.2;
    }

-- what each node has that starts from its chain
pub nodes_all : (P : Node → Type 0) (g : Genesis) (rows : Rows) (k n : ℕ) (ps : List Node) → nodes_of g rows (range_with_len k n) ≡ Ok ps
    → ((number : ℕ) (blocks : List Block) → number < k + n → kept g rows number ≡ Ok blocks → P (started (new_node number g) blocks)) → All P ps
nodes_all P g rows k zero ps e f = subst (All P) (ok_same _ _ e) (All-nil P)
nodes_all P g rows k (suc n) ps e f =
    let m = first_made g rows k (range_with_len (k + 1) n) ps e in
    subst (All P) m.are
    (All-cons P (started (new_node k g) m.blocks) m.others (f k m.blocks (omega arith) m.chain)
    (nodes_all P g rows (k + 1) n m.others m.made (λ number blocks h c. f number blocks (omega (arith, h)) c)))

-- a number is the first one or a later one
first_or : (g : Genesis) (rows : Rows) (k m : ℕ) (blocks : List Block) → kept g rows k ≡ Ok blocks → (t : Bool) → (m == k) ≡ t → k ≤ m
    → (k + 1 ≤ m → (blocks : List Block) × (kept g rows m ≡ Ok blocks)) → (blocks : List Block) × (kept g rows m ≡ Ok blocks)
first_or g rows k m blocks chain true i low later = (blocks, ap (kept g rows) (eqb-true m k i) ∙ chain)
first_or g rows k m blocks chain false i low later = later (next m k i low)
  where
    next : (m k : ℕ) → (m == k) ≡ false → k ≤ m → k + 1 ≤ m
    next m k i low = grind (arith, nat_tests, i, low)

-- each of them has a chain
pub nodes_kept : (g : Genesis) (rows : Rows) (k n : ℕ) (ps : List Node) → nodes_of g rows (range_with_len k n) ≡ Ok ps → (m : ℕ) → k ≤ m → m < k + n → (blocks : List Block) × (kept g rows m ≡ Ok blocks)
nodes_kept g rows k zero ps e m low high = absurd (omega (arith, low, high))
nodes_kept g rows k (suc n) ps e m low high =
    let f = first_made g rows k (range_with_len (k + 1) n) ps e in
    first_or g rows k m f.blocks f.chain (m == k) refl low (λ later. nodes_kept g rows (k + 1) n f.others f.made m later (omega (arith, high)))

-- the nodes have their numbers
pub nodes_numbers : (g : Genesis) (rows : Rows) (numbers : List ℕ) (ps : List Node) → nodes_of g rows numbers ≡ Ok ps → map (λ (p : Node). p.number) ps ≡ numbers
nodes_numbers g rows [] ps e = ap (map (λ (p : Node). p.number)) (sym (ok_same _ _ e))
nodes_numbers g rows (number ∷ numbers) ps e =
    let m = first_made g rows number numbers ps e in
    let own : (started (new_node number g) m.blocks).number ≡ number = (started_over (new_node number g) m.blocks).number ∙ (new_root number g).0 in
    ap (map (λ (p : Node). p.number)) (sym m.are) ∙ ap (λ (n : ℕ). n ∷ map (λ (p : Node). p.number) m.others) own ∙ ap (λ (ns : List ℕ). number ∷ ns) (nodes_numbers g rows numbers m.others m.made)

-- there are as many
pub nodes_long : (g : Genesis) (rows : Rows) (numbers : List ℕ) (ps : List Node) → nodes_of g rows numbers ≡ Ok ps → length ps ≡ length numbers
nodes_long g rows [] ps e = ap length (sym (ok_same _ _ e))
nodes_long g rows (number ∷ numbers) ps e =
    let m = first_made g rows number numbers ps e in
    ap length (sym m.are) ∙ ap suc (nodes_long g rows numbers m.others m.made)

-- the nodes of a world that is opened
pub record IsOpened (count : ℕ) (g : Genesis) (rows : Rows) (w : World) : Type 0 where
  pub nodes : List Node
  pub made : nodes_of g rows (range_with_len 0 count) ≡ Ok nodes
  pub are : record { nodes = nodes; slots = empty; rows = begun_all g rows (range_with_len 0 count) } ≡ w

pub opened_made : (count : ℕ) (g : Genesis) (rows : Rows) (w : World) → opened count g rows ≡ Ok w → IsOpened count g rows w
opened_made count g rows w e =
    let numbers = range_with_len 0 count in
    let a = stage_passes (nodes_of g rows numbers) (λ (ps : List Node). Ok (record { nodes = ps; slots = empty; rows = begun_all g rows numbers })) w e in
    record { nodes = a.0; made = a.1; are = ok_same _ _ a.2 }

-- what each node of a world has that is opened
pub opened_all : (P : Node → Type 0) (count : ℕ) (g : Genesis) (rows : Rows) (w : World) → opened count g rows ≡ Ok w
    → ((number : ℕ) (blocks : List Block) → number < count → kept g rows number ≡ Ok blocks → P (started (new_node number g) blocks)) → All P w.nodes
opened_all P count g rows w e f =
    let o = opened_made count g rows w e in
    subst (λ (v : World). All P v.nodes) o.are (nodes_all P g rows 0 count o.nodes o.made (λ number blocks h c. f number blocks (omega (arith, h)) c))

pub opened_rows : (count : ℕ) (g : Genesis) (rows : Rows) (w : World) → opened count g rows ≡ Ok w → begun_all g rows (range_with_len 0 count) ≡ w.rows
opened_rows count g rows w e = ap (λ (v : World). v.rows) (opened_made count g rows w e).are

-- its nodes are numbered from 0
pub opened_numbered : (count : ℕ) (g : Genesis) (rows : Rows) (w : World) → opened count g rows ≡ Ok w → AreNumbered 0 w.nodes
opened_numbered count g rows w e =
    let o = opened_made count g rows w e in
    let numbers = range_with_len 0 count in
    let long : length o.nodes ≡ count = nodes_long g rows numbers o.nodes o.made ∙ length-range_with_len 0 count in
    let own : AreNumbered 0 o.nodes = nodes_numbers g rows numbers o.nodes o.made ∙ ap (range_with_len 0) (sym long) in
    subst (λ (v : World). AreNumbered 0 v.nodes) o.are own

-- and of its genesis
pub opened_geneses : (count : ℕ) (g : Genesis) (rows : Rows) (w : World) → opened count g rows ≡ Ok w → All (λ p. p.genesis ≡ g) w.nodes
opened_geneses count g rows w e =
    opened_all (λ p. p.genesis ≡ g) count g rows w e (λ number blocks h c. (started_over (new_node number g) blocks).genesis ∙ (new_root number g).1)

-- and its rows are those of their blocks
pub opened_has : (count : ℕ) (g : Genesis) (rows : Rows) (w : World) → opened count g rows ≡ Ok w → All (HasChain w.rows) w.nodes
opened_has count g rows w e =
    let begun_rows = begun_all g rows (range_with_len 0 count) in
    let all : All (HasChain begun_rows) w.nodes =
    opened_all (HasChain begun_rows) count g rows w e (λ number blocks h c. new_started_has begun_rows number g blocks (chain_behind g rows count number blocks h c)) in
    subst (λ (r : Rows). All (HasChain r) w.nodes) (opened_rows count g rows w e) all

pub opened_keeps : (count : ℕ) (g : Genesis) (rows : Rows) (w : World) → opened count g rows ≡ Ok w → KeepsRows (Some w.rows) w
opened_keeps count g rows w e = record { told = refl; numbered = opened_numbered count g rows w e; begun = All-weaker (HasChain w.rows) (HasFirst w.rows) (chain_first w.rows) w.nodes (opened_has count g rows w e) }

-- a stage behind nothing
bind_same : {A E : Type 0} (r : Result A E) → (r >>= λ x. Ok x) ≡ r
bind_same (Ok x) = refl
bind_same (Err e) = refl

bind_bind : {E : Type 0} (r : Result (List Node) E) (p : Node) (others : List Node) → ((r >>= λ qs. Ok (others ++ qs)) >>= λ qs. Ok (p ∷ qs)) ≡ (r >>= λ qs. Ok (p ∷ others ++ qs))
bind_bind (Ok qs) p others = refl
bind_bind (Err e) p others = refl

-- nodes behind others
pub nodes_append : (g : Genesis) (rows : Rows) (numbers more : List ℕ) (ps : List Node) → nodes_of g rows numbers ≡ Ok ps
    → nodes_of g rows (numbers ++ more) ≡ (nodes_of g rows more >>= λ qs. Ok (ps ++ qs))
nodes_append g rows [] more ps e =
    sym (bind_same (nodes_of g rows more)) ∙ ap (λ (xs : List Node). nodes_of g rows more >>= λ qs. Ok (xs ++ qs)) (ok_same _ _ e)
nodes_append g rows (number ∷ numbers) more ps e =
    let m = first_made g rows number numbers ps e in
    let p = started (new_node number g) m.blocks in
    ap (λ (r : Result (List Block) Unkept). node_of g number r >>= λ q. nodes_of g rows (numbers ++ more) >>= λ qs. Ok (q ∷ qs)) m.chain
    ∙ ap (λ (r : Result (List Node) (ℕ × Unkept)). r >>= λ qs. Ok (p ∷ qs)) (nodes_append g rows numbers more m.others m.made)
    ∙ bind_bind (nodes_of g rows more) p m.others
    ∙ ap (λ (xs : List Node). nodes_of g rows more >>= λ qs. Ok (xs ++ qs)) m.are

-- the first node that has no chain
pub opened_fails : (count i : ℕ) (g : Genesis) (rows : Rows) (ps : List Node) (unkept : Unkept) → i < count → nodes_of g rows (range_with_len 0 i) ≡ Ok ps → kept g rows i ≡ Err unkept
    → opened count g rows ≡ Err (i, unkept)
opened_fails count i g rows ps unkept h made e =
    let more = count - suc i in
    let all : count ≡ i + suc more = omega (arith, h) in
    let none : 0 + i ≡ i = omega arith in
    let split : range_with_len 0 count ≡ range_with_len 0 i ++ i ∷ range_with_len (i + 1) more =
    ap (range_with_len 0) all ∙ range_split 0 i more ∙ ap (λ (k : ℕ). range_with_len 0 i ++ k ∷ range_with_len (k + 1) more) none in
    let fails : nodes_of g rows (range_with_len 0 count) ≡ Err (i, unkept) =
    ap (nodes_of g rows) split ∙ nodes_append g rows (range_with_len 0 i) (i ∷ range_with_len (i + 1) more) ps made
    ∙ ap (λ (r : Result (List Block) Unkept). (node_of g i r >>= λ p. nodes_of g rows (range_with_len (i + 1) more) >>= λ qs. Ok (p ∷ qs)) >>= λ qs. Ok (ps ++ qs)) e in
    ap (λ (r : Result (List Node) (ℕ × Unkept)). r >>= λ nodes. Ok (record { nodes = nodes; slots = empty; rows = begun_all g rows (range_with_len 0 count) })) fails
