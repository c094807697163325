-- How nodes start one after another from the rows of a keeper.
use Rattle.std.proofs.Common.{◌≡◌, ◌<◌, ◌+◌, ℕ, suc, List, [], ◌∷◌, ◌++◌, length, IfErr, arith, refl, sym, ap, subst, ◌∙◌, inl, inr, Option, Some, Result, Ok, Err}
use Rattle.std.specs.Prelude.{All}
use Rattle.std.specs.List.{AllZip, range_with_len}
use Rattle.std.specs.FinMap.{empty}
use Rattle.std.proofs.lemmas.List.Elements.{All-nil}
use Rattle.dx_types.specs.declared.Block.{Block}
use Rattle.dx_types.specs.declared.Genesis.{Genesis}
use Rattle.dx_spec.specs.Step.{◌>>=◌}
use Rattle.dx_io.specs.Rows.{Rows}
use Rattle.dx_codec.specs.Genesis.{digest_of}
use Rattle.dx_history.specs.Chains.{Unkept, BadAt, OtherGenesis, kept, begun}
use Rattle.dx_node_spec.specs.Node.{Node, new_node}
use Rattle.dx_node.specs.Held.{Held}
use Rattle.dx_node.specs.Restarts.{AreKept, BeginsRows}
use Rattle.dx_node.specs.Standing.{StandsFor}
use Rattle.dx_cluster.specs.declared.cluster.Cluster.{Cluster}
use Rattle.dx_cluster.specs.declared.fault.StartFault.{StartFault}
use Rattle.dx_cluster.specs.declared.fault.StartFault.TheVariants as starts
use Rattle.dx_cluster.specs.Acts.{started}
use Rattle.dx_cluster.specs.World.{World, node_of, nodes_of, begun_all, opened, IsIdle, Stands, StandsForSome, KeepsRows, AreEither, Opens, IsBegunWithin, OpenRefused}
use Rattle.dx_cluster.specs.Counts.{StartLeaves}
use Rattle.dx_cluster.specs.Starts.{HasStarted, StartRefused}
use Rattle.dx_cluster.proofs.Everywhere.{all_more}
use Rattle.dx_cluster.proofs.Chains.{new_root, range_more, begun_more, kept_behind, begins_are}
use Rattle.dx_cluster.proofs.Idling.{started_idle}
use Rattle.dx_cluster.proofs.Opening.{nodes_append, opened_fails, opened_keeps}
use Rattle.dx_cluster.proofs.Worlds.{both_more}

-- there are nodes that they stand for, with nothing to place again
abbrev pub StandForSome : List Held → Type 0
StandForSome items = (ps : List Node) × AllZip StandsFor items ps × All IsIdle ps

-- so many nodes have started over the rows, and the keeper has the rows behind their starts
pub record HaveStarted (g : Genesis) (rows : Rows) (i : ℕ) (items : List Held) (now : Option Rows) : Type 0 where
  pub nodes : List Node
  pub made : nodes_of g rows (range_with_len 0 i) ≡ Ok nodes
  pub stand : AllZip StandsFor items nodes
  pub idle : All IsIdle nodes
  pub told : now ≡ Some (begun_all g rows (range_with_len 0 i))

pub some_none : StandForSome []
some_none = ([], tt, All-nil IsIdle)

pub started_none : (g : Genesis) (rows : Rows) (now : Option Rows) → now ≡ Some rows → HaveStarted g rows 0 [] now
started_none g rows now e = record { nodes = []; made = refl; stand = tt; idle = All-nil IsIdle; told = e }

pub some_more : (items more : List Held) (g : Genesis) (i : ℕ) (before : Option Rows) (node : Held) → StandForSome items → HasStarted before (new_node i g) node → more ≡ items ++ node ∷ [] → StandForSome more
some_more items more g i before node some h e =
    let p = started (new_node i g) h.1.blocks in (
      some.0 ++ p ∷ [],
      subst (λ (xs : List Held). AllZip StandsFor xs (some.0 ++ p ∷ [])) (sym e) (both_more StandsFor items some.0 node p some.1 h.1.stands),
      all_more IsIdle some.0 p some.2 (started_idle (new_node i g) h.1.blocks),
    )

-- what is kept of the next node behind the starts of those before it is what was kept of it at first
next_kept : (g : Genesis) (rows : Rows) (i : ℕ) (r : Result (List Block) Unkept)
    → kept (new_node i g).genesis (begun_all g rows (range_with_len 0 i)) (new_node i g).number ≡ r → kept g rows i ≡ r
next_kept g rows i r e =
    let before = begun_all g rows (range_with_len 0 i) in
    let root = new_root i g in
    sym (kept_behind g rows i i (omega arith)) ∙ ap (λ (n : ℕ). kept g before n) (sym root.0) ∙ ap (λ (x : Genesis). kept x before (new_node i g).number) (sym root.1) ∙ e

-- the rows behind the next start
next_begun : (g : Genesis) (rows : Rows) (i : ℕ) → begun (begun_all g rows (range_with_len 0 i)) (new_node i g).number (new_node i g).genesis ≡ begun_all g rows (range_with_len 0 (i + 1))
next_begun g rows i =
    let before = begun_all g rows (range_with_len 0 i) in
    let root = new_root i g in
    ap (λ (n : ℕ). begun before n (new_node i g).genesis) root.0 ∙ ap (begun before i) root.1 ∙ sym (begun_more g rows i)

pub started_more : (items more : List Held) (g : Genesis) (rows : Rows) (i : ℕ) (before after : Option Rows) (node : Held) → HaveStarted g rows i items before
    → HasStarted before (new_node i g) node → BeginsRows before after (new_node i g) → more ≡ items ++ node ∷ [] → HaveStarted g rows (i + 1) more after
started_more items more g rows i before after node s h b e =
    let now = begun_all g rows (range_with_len 0 i) in
    let blocks = h.1.blocks in
    let p = started (new_node i g) blocks in
    let chain : kept g rows i ≡ Ok blocks = next_kept g rows i (Ok blocks) (subst (λ (o : Option Rows). AreKept o (new_node i g) blocks) s.told h.1.chain) in
    record {
      nodes = s.nodes ++ p ∷ [];
      made =
          ap (nodes_of g rows) (range_more i) ∙ nodes_append g rows (range_with_len 0 i) (i ∷ []) s.nodes s.made
          ∙ ap (λ (r : Result (List Block) Unkept). (node_of g i r >>= λ q. Ok (q ∷ [])) >>= λ qs. Ok (s.nodes ++ qs)) chain;
      stand = subst (λ (xs : List Held). AllZip StandsFor xs (s.nodes ++ p ∷ [])) (sym e) (both_more StandsFor items s.nodes node p s.stand h.1.stands);
      idle = all_more IsIdle s.nodes p s.idle (started_idle (new_node i g) blocks);
      told = begins_are before after now (new_node i g) s.told b ∙ ap Some (next_begun g rows i);
    }

-- all nodes have started
pub opens : (c : Cluster) (count : ℕ) (g : Genesis) (rows : Rows) (i : ℕ) (items : List Held) (now : Option Rows) → HaveStarted g rows i items now → i ≡ count → c.nodes.items ≡ items → c.slots ≡ empty → Opens (opened count g rows) c now
opens c count g rows i items now s same nodes slots =
    let numbers = range_with_len 0 count in
    let w : World = record { nodes = s.nodes; slots = empty; rows = begun_all g rows numbers } in
    let made : nodes_of g rows numbers ≡ Ok s.nodes = ap (λ (n : ℕ). nodes_of g rows (range_with_len 0 n)) (sym same) ∙ s.made in
    let is : opened count g rows ≡ Ok w = ap (λ (r : Result (List Node) (ℕ × Unkept)). r >>= λ ps. Ok (record { nodes = ps; slots = empty; rows = begun_all g rows numbers })) made in
    let stands : Stands c w = record { nodes = subst (λ (xs : List Held). AllZip StandsFor xs s.nodes) (sym nodes) s.stand; slots = slots; idle = s.idle } in
    let keeps = opened_keeps count g rows w is in
    let told : KeepsRows now w = record { told = s.told ∙ ap (λ (n : ℕ). Some (begun_all g rows (range_with_len 0 n))) same; numbered = keeps.numbered; begun = keeps.begun } in
    subst (λ (r : Result World (ℕ × Unkept)). Opens r c now) (sym is) (stands, told)

pub opens_some : (c : Cluster) (items : List Held) → StandForSome items → c.nodes.items ≡ items → StandsForSome c
opens_some c items some nodes = (
  record { nodes = some.0; slots = c.slots; rows = empty },
  record { nodes = subst (λ (xs : List Held). AllZip StandsFor xs some.0) (sym nodes) some.1; slots = refl; idle = some.2 },
)

-- the rows are those behind the starts so far, or behind the next one
begun_either : (count i : ℕ) (g : Genesis) (rows : Rows) (after : Option Rows) → i < count
    → AreEither after (begun_all g rows (range_with_len 0 i)) (begun (begun_all g rows (range_with_len 0 i)) (new_node i g).number (new_node i g).genesis) → IsBegunWithin count g rows after
begun_either count i g rows after h (inl e) = (i, omega (arith, h), e)
begun_either count i g rows after h (inr e) = (i + 1, omega (arith, h), e ∙ ap Some (next_begun g rows i))

-- the next node does not start
fails_by : (count i : ℕ) (g : Genesis) (rows : Rows) (nodes : List Node) (after : Option Rows) (fault : StartFault) → i < count → nodes_of g rows (range_with_len 0 i) ≡ Ok nodes
    → StartRefused (begun_all g rows (range_with_len 0 i)) (new_node i g) after fault → OpenRefused count (opened count g rows) g rows after fault
fails_by count i g rows nodes after (starts.KeptBad node height) h made r =
    let same : node ≡ i = r.0 ∙ (new_root i g).0 in (
      opened_fails count i g rows nodes (BadAt height) h made (next_kept g rows i (Err (BadAt height)) r.1) ∙ ap (λ (n : ℕ). Err (n, BadAt height)) (sym same),
      r.2 ∙ ap (λ (n : ℕ). Some (begun_all g rows (range_with_len 0 n))) (sym same),
    )
fails_by count i g rows nodes after (starts.KeptOther node theirs ours) h made r =
    let same : node ≡ i = r.0 ∙ (new_root i g).0 in (
      opened_fails count i g rows nodes (OtherGenesis theirs) h made (next_kept g rows i (Err (OtherGenesis theirs)) r.1) ∙ ap (λ (n : ℕ). Err (n, OtherGenesis theirs)) (sym same),
      r.2 ∙ ap digest_of (new_root i g).1,
      r.3 ∙ ap (λ (n : ℕ). Some (begun_all g rows (range_with_len 0 n))) (sym same),
    )
fails_by count i g rows nodes after starts.KeepFault h made r = begun_either count i g rows after h r
fails_by count i g rows nodes after starts.NoMemory h made r = begun_either count i g rows after h r

pub open_fails : (count i : ℕ) (g : Genesis) (rows : Rows) (items : List Held) (before after : Option Rows) (fault : StartFault) → i < count → HaveStarted g rows i items before
    → ((now : Rows) → before ≡ Some now → StartRefused now (new_node i g) after fault) → OpenRefused count (opened count g rows) g rows after fault
open_fails count i g rows items before after fault h s r = fails_by count i g rows s.nodes after fault h s.made (r (begun_all g rows (range_with_len 0 i)) s.told)

-- a node has started, and there is no memory for one more
pub open_ends : (count i : ℕ) (g : Genesis) (rows : Rows) (items : List Held) (before after : Option Rows) (fault : StartFault) → i < count → HaveStarted g rows i items before → BeginsRows before after (new_node i g)
    → fault ≡ starts.NoMemory → OpenRefused count (opened count g rows) g rows after fault
open_ends count i g rows items before after fault h s b e =
    let now = begun_all g rows (range_with_len 0 i) in
    subst (OpenRefused count (opened count g rows) g rows after) (sym e) (i + 1, omega (arith, h), begins_are before after now (new_node i g) s.told b ∙ ap Some (next_begun g rows i))

-- what holds of the fault of a result that is known
pub err_told : {A : Type 0} (r : Result A StartFault) (fault : StartFault) (P : StartFault → Type 0) → r ≡ Err fault → P fault → IfErr r P
err_told r fault P e h = subst (λ x. IfErr x P) (sym e) h

-- and what follows from it
pub err_follows : {A : Type 0} (P Q : StartFault → Type 0) (r : Result A StartFault) → ((fault : StartFault) → P fault → Q fault) → IfErr r P → IfErr r Q
err_follows P Q (Ok x) f h = tt
err_follows P Q (Err fault) f h = f fault h

-- one node more
pub one_more : (items : List Held) (node : Held) (i : ℕ) → length items ≡ i → length (items ++ node ∷ []) ≡ i + 1
one_more [] node i e = let none : 0 ≡ i = e in let one : 1 ≡ i + 1 = omega (arith, none) in one
one_more (other ∷ items) node i e =
    let here : suc (length items) ≡ i = e in
    let behind = one_more items node (length items) refl in
    let more : suc (length (items ++ node ∷ [])) ≡ i + 1 = omega (arith, here, behind) in
    more

-- behind calls that left a count of faults a fault leaves it as before them
pub leaves_before : (before mid now : ℕ) (fault : StartFault) → mid ≡ before → StartLeaves mid now fault → StartLeaves before now fault
leaves_before before mid now fault e h = subst (λ (n : ℕ). StartLeaves n now fault) e h
