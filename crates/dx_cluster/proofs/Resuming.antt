-- The next run over the rows that one leaves has its nodes, with their blocks and their stateful orders.
use Rattle.std.proofs.Common.{◌≡◌, ℕ, List, [], ◌∷◌, ◌++◌, map, length, refl, sym, ap, ◌∙◌, Result, Ok}
use Rattle.std.specs.Prelude.{All}
use Rattle.std.specs.FinMap.{empty}
use Rattle.std.proofs.lemmas.List.Elements.{All-head, All-tail}
use Rattle.dx_types.specs.declared.Genesis.{Genesis}
use Rattle.dx_spec.specs.Step.{◌>>=◌}
use Rattle.dx_io.specs.Rows.{Rows}
use Rattle.dx_history.specs.Chains.{Unkept, kept}
use Rattle.dx_history.proofs.Starting.{chain_read}
use Rattle.dx_spec.specs.State.{State}
use Rattle.dx_spec.specs.Blocks.{fold_blocks}
use Rattle.dx_node_spec.specs.Node.{Node, new_node, committed}
use Rattle.dx_cluster.specs.Acts.{started}
use Rattle.dx_cluster.specs.World.{World, node_of, nodes_of, begun_all, HasFirst, opened}
use Rattle.dx_cluster.specs.Laws.{HasChain, IsOwn, GoesOnFrom, NextRunGoesOn, next_world}
use Rattle.dx_cluster.proofs.Living.{started_folds}
use Rattle.dx_cluster.proofs.Chains.{new_root, first_begun}

-- the node that starts from the rows of another
abbrev resumed : Node → Node
resumed p = started (new_node p.number p.genesis) p.blocks

one_resumed : (g : Genesis) (rows : Rows) (p : Node) → HasChain rows p → p.genesis ≡ g → node_of g p.number (kept g rows p.number) ≡ Ok (resumed p)
one_resumed g rows p h e =
    let chain : kept g rows p.number ≡ Ok p.blocks = ap (λ (x : Genesis). kept x rows p.number) (sym e) ∙ chain_read rows p.number p.genesis p.blocks h.chain in
    ap (node_of g p.number) chain ∙ ap (λ (x : Genesis). Ok (started (new_node p.number x) p.blocks)) (sym e)

all_resumed : (g : Genesis) (rows : Rows) (ps : List Node) → All (HasChain rows) ps → All (λ p. p.genesis ≡ g) ps → nodes_of g rows (map (λ p. p.number) ps) ≡ Ok (map resumed ps)
all_resumed g rows [] h e = refl
all_resumed g rows (p ∷ ps) h e =
    ap (λ (r : Result Node (ℕ × Unkept)). r >>= λ q. nodes_of g rows (map (λ p. p.number) ps) >>= λ qs. Ok (q ∷ qs)) (one_resumed g rows p (All-head (HasChain rows) p ps h) (All-head (λ p. p.genesis ≡ g) p ps e))
    ∙ ap (λ (r : Result (List Node) (ℕ × Unkept)). r >>= λ qs. Ok (resumed p ∷ qs)) (all_resumed g rows ps (All-tail (HasChain rows) p ps h) (All-tail (λ p. p.genesis ≡ g) p ps e))

-- and no row is set
none_begun : (g : Genesis) (rows : Rows) (ps : List Node) → All (HasFirst rows) ps → begun_all g rows (map (λ p. p.number) ps) ≡ rows
none_begun g rows [] h = refl
none_begun g rows (p ∷ ps) h =
    ap (λ (r : Rows). begun_all g r (map (λ p. p.number) ps)) (first_begun rows p g (All-head (HasFirst rows) p ps h)) ∙ none_begun g rows ps (All-tail (HasFirst rows) p ps h)

-- the nodes that start from chains of their own, with the same committed states
record OwnNodes (g : Genesis) (rows : Rows) (ps : List Node) : Type 0 where
  nodes : List Node
  made : nodes_of g rows (map (λ p. p.number) ps) ≡ Ok nodes
  states : map committed nodes ≡ map committed ps

own_nodes : (g : Genesis) (rows : Rows) (ps : List Node) → All (IsOwn rows) ps → All (λ p. p.genesis ≡ g) ps → OwnNodes g rows ps
own_nodes g rows [] h e = record { nodes = []; made = refl; states = refl }
own_nodes g rows (p ∷ ps) h e =
    let own = All-head (IsOwn rows) p ps h in
    let same : p.genesis ≡ g = All-head (λ p. p.genesis ≡ g) p ps e in
    let all = own.first ++ p.blocks in
    let q = started (new_node p.number g) all in
    let more = own_nodes g rows ps (All-tail (IsOwn rows) p ps h) (All-tail (λ p. p.genesis ≡ g) p ps e) in
    let chain : kept g rows p.number ≡ Ok all = ap (λ (x : Genesis). kept x rows p.number) (sym same) ∙ chain_read rows p.number p.genesis all own.chain in
    let one : node_of g p.number (kept g rows p.number) ≡ Ok q = ap (node_of g p.number) chain in
    let lead : fold_blocks (new_node p.number g).genesis all ≡ Ok (committed p) = ap (λ (x : Genesis). fold_blocks x all) ((new_root p.number g).1 ∙ sym same) ∙ own.folded in
    let state : committed q ≡ committed p = (started_folds (new_node p.number g) all (committed p) lead).1 in
    record {
      nodes = q ∷ more.nodes;
      made =
          ap (λ (r : Result Node (ℕ × Unkept)). r >>= λ q. nodes_of g rows (map (λ p. p.number) ps) >>= λ qs. Ok (q ∷ qs)) one
          ∙ ap (λ (r : Result (List Node) (ℕ × Unkept)). r >>= λ qs. Ok (q ∷ qs)) more.made;
      states = ap (λ (s : State). s ∷ map committed more.nodes) state ∙ ap (λ (ss : List State). committed p ∷ ss) more.states;
    }

pub next_run_goes_on : NextRunGoesOn
next_run_goes_on g w h e = (own_run, other_run)
  where
    numbers : List ℕ
    numbers = map (λ (p : Node). p.number) w.nodes

    told : List ℕ → Result World (ℕ × Unkept)
    told numbers = nodes_of g w.rows numbers >>= λ ps. Ok (record { nodes = ps; slots = empty; rows = begun_all g w.rows numbers })

    opens : (nodes : List Node) → nodes_of g w.rows numbers ≡ Ok nodes → opened (length w.nodes) g w.rows ≡ Ok (record { nodes = nodes; slots = empty; rows = w.rows })
    opens nodes made =
        ap told (sym h.numbered)
        ∙ ap (λ (r : Result (List Node) (ℕ × Unkept)). r >>= λ ps. Ok (record { nodes = ps; slots = empty; rows = begun_all g w.rows numbers })) made
        ∙ ap (λ (r : Rows). Ok (record { nodes = nodes; slots = empty; rows = r })) (none_begun g w.rows w.nodes h.begun)

    own_run : All (HasChain w.rows) w.nodes → opened (length w.nodes) g w.rows ≡ Ok (next_world w)
    own_run c = opens (map resumed w.nodes) (all_resumed g w.rows w.nodes c e)

    other_run : All (IsOwn w.rows) w.nodes → GoesOnFrom g w
    other_run o =
        let n = own_nodes g w.rows w.nodes o e in
        record { next = record { nodes = n.nodes; slots = empty; rows = w.rows }; opened = opens n.nodes n.made; states = n.states; rows = refl }
