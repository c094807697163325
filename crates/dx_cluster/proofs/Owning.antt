-- Where the snapshots at entry are those of the nodes' own blocks they stay so, and so do the chains of the nodes.
use Rattle.std.proofs.Common.{◌≡◌, ◌<◌, ◌≤◌, ◌+◌, ◌==◌, ℕ, zero, suc, Bool, true, false, cond, List, [], ◌∷◌, ◌++◌, length, take, drop, get_or, arith, refl, sym, ap, subst, ◌∙◌, inr, Option, Some, None, Result, Ok, Err}
use Rattle.std.specs.Prelude.{nat_lt, slice_get, is_some, IfOk, All}
use Rattle.std.specs.List.{range_with_len}
use Rattle.std.specs.FinMap.{get, insert}
use Rattle.std.proofs.lemmas.Bool.{eqb-true}
use Rattle.std.proofs.lemmas.Bool.Decides.{nat_tests}
use Rattle.std.proofs.lemmas.List.{append_assoc, take-append-drop, take-append-le, take_all}
use Rattle.dx_types.specs.declared.Block.{Block}
use Rattle.dx_types.specs.declared.Bad.{Bad}
use Rattle.dx_types.specs.declared.Genesis.{Genesis}
use Rattle.dx_spec.specs.State.{State, genesis_state}
use Rattle.dx_spec.specs.Genesis.{IsGenesis}
use Rattle.dx_spec.specs.Blocks.{fold_from, fold_blocks}
use Rattle.dx_spec.specs.Balance.{Sound, Balanced}
use Rattle.dx_spec.proofs.Scripts.{stage_passes}
use Rattle.dx_spec.proofs.Steps.{ok_same}
use Rattle.dx_spec.proofs.Folds.{fold_more, fold_on}
use Rattle.dx_sound.proofs.Both.{blocks_are_sound}
use Rattle.dx_sound.proofs.Beginning.{Sound-genesis}
use Rattle.dx_io.specs.Rows.{Rows, row_count}
use Rattle.dx_codec.specs.Blocks.{block_bytes, FitsBlock}
use Rattle.dx_codec.specs.Genesis.{digest_of}
use Rattle.dx_codec.specs.States.{state_bytes, FitsNames}
use Rattle.dx_codec.proofs.Decoding.{states_apart}
use Rattle.dx_codec.proofs.Fitting.{state_fits}
use Rattle.dx_history.specs.Rows.{place_of}
use Rattle.dx_history.specs.Chains.{Unkept, IsChain, kept, begun}
use Rattle.dx_history.proofs.Starting.{chain_read, chain_grown, other_chain, other_kept}
use Rattle.dx_history.proofs.Climbing.{chain_height}
use Rattle.dx_history.proofs.Growing.{own_row, other_row}
use Rattle.dx_snapshot.specs.Snapshots.{Unread, first_number, snapshot_place, snapshot_bytes, front_of, snapshot_in, snapshot_of, snapshot_at}
use Rattle.dx_snapshot.specs.Laws.{IsSnapshot}
use Rattle.dx_snapshot.proofs.Sealing.{front_again, snapshot_from, chains_stay, snapshots_stay}
use Rattle.dx_node_spec.specs.Node.{Node, committed}
use Rattle.dx_node_spec.specs.Commits.{commit, placed_again}
use Rattle.dx_node.specs.Resumes.{Unresumed, resumable}
use Rattle.dx_node.proofs.Resumed.{chain_resumed}
use Rattle.dx_node.proofs.Restarted.{same_genesis}
use Rattle.dx_speculation.proofs.Outcomes.{committed_is}
use Rattle.dx_scenario.specs.declared.event.Event.{Event}
use Rattle.dx_scenario.specs.declared.event.Event.TheVariants as events
use Rattle.dx_print.specs.declared.replies.Reply.{Reply}
use Rattle.dx_cluster.specs.Acts.{height_of, commit_answer, started}
use Rattle.dx_cluster.specs.Snapshots.{restarted_by, gone_on, resumed_by, from_snapshot}
use Rattle.dx_cluster.specs.World.{World, Steps, rows_with, rows_behind, node_snaps, begun_all, opened, step, HasFirst}
use Rattle.dx_cluster.specs.Fitting.{CommitFits, SnapFits, EventFits, RunFits}
use Rattle.dx_cluster.specs.Laws.{HasChain, OwnSnapshots, IsOwn, state_or, after, OwnSnapshotsStay}
use Rattle.dx_cluster.proofs.Everywhere.{AreNumbered, all_at, all_low}
use Rattle.dx_cluster.proofs.Living.{ok_of, if_ok, started_folds, gone_on_state, committing_state}
use Rattle.dx_cluster.proofs.Chains.{chain_of, own_chain, started_over, gone_over, committed_grows, begun_more, kept_behind, chain_behind}
use Rattle.dx_cluster.proofs.Opening.{opened_made, opened_rows, opened_numbered, opened_geneses, opened_has, nodes_kept}
use Rattle.dx_cluster.proofs.Counting.{world_count}
use Rattle.dx_cluster.proofs.Keeping.{folds_stay_good, own_from}
use Rattle.dx_cluster.proofs.Across.{SameKeeps, OthersKeep, CommitsKeep, RestartsKeep, ResumesKeep, event_keeps, commits, snaps, rows_stay, AreNodes, nodes_stay, count_stays, both_of}

-- ---- a node and its chain

own_same : SameKeeps IsOwn
own_same rows p q s e h = record {
  first = h.first;
  base = ap (λ (g : Genesis). fold_blocks g h.first) s.genesis ∙ h.base ∙ ap Ok (sym s.base);
  folded = ap (λ (g : Genesis). fold_blocks g (h.first ++ q.blocks)) s.genesis ∙ ap (λ (bs : List Block). fold_blocks p.genesis (h.first ++ bs)) s.blocks ∙ h.folded ∙ ap Ok (sym e);
  chain = chain_of rows p.number q.number p.genesis q.genesis (h.first ++ p.blocks) (h.first ++ q.blocks) s.number s.genesis (ap (λ (bs : List Block). h.first ++ bs) s.blocks) h.chain;
}

own_others : OthersKeep IsOwn
own_others rows m height bytes p apart h =
    record { first = h.first; base = h.base; folded = h.folded; chain = other_chain rows m p.number height bytes p.genesis (h.first ++ p.blocks) apart h.chain }

no_blocks : (g : Genesis) → fold_blocks g [] ≡ Ok (genesis_state g)
unfolding fold_from
no_blocks g = refl

-- a node that has a chain is one with no blocks before its base
chain_own : (rows : Rows) (p : Node) → fold_blocks p.genesis p.blocks ≡ Ok (committed p) → HasChain rows p → IsOwn rows p
chain_own rows p folded h = record { first = []; base = no_blocks p.genesis ∙ ap Ok (sym h.base); folded = folded; chain = h.chain }

restarted_own : (rows : Rows) (p : Node) (k : Result (List Block) Unkept) → kept p.genesis rows p.number ≡ k → HasFirst rows p → IfOk (restarted_by p k) (λ r. IsOwn rows r.0)
restarted_own rows p (Err unkept) e first = tt
restarted_own rows p (Ok blocks) e first =
    let chain = own_chain rows p blocks first e in
    let t = ok_of (fold_blocks p.genesis blocks) chain.good in
    let q = started p blocks in
    let s = started_over p blocks in
    let f = (started_folds p blocks t.0 t.1).0 in
    chain_own rows q f.folded (record { base = f.base; chain = chain_of rows p.number q.number p.genesis q.genesis blocks q.blocks s.number s.genesis s.blocks_are chain })

own_restarts : RestartsKeep IsOwn
own_restarts rows p h = restarted_own rows p (kept p.genesis rows p.number) refl (ap is_some (h.chain.rows_are 0))

-- a node that goes on from a snapshot of its own blocks
resumed_own : (rows : Rows) (p : Node) (height : ℕ) (s : State) (own : IsOwn rows p) → fold_blocks p.genesis (take height (own.first ++ p.blocks)) ≡ Ok s
    → IfOk (resumed_by p s (resumable p.genesis s rows p.number)) (λ r. IsOwn rows r.0)
resumed_own rows p height s own lead = subst (λ (k : Result (List Block) Unresumed). IfOk (resumed_by p s k) (λ r. IsOwn rows r.0)) (sym told) gone
  where
    all : List Block
    all = own.first ++ p.blocks

    first : List Block
    first = take height all

    later : List Block
    later = drop height all

    joined : first ++ later ≡ all
    joined = take-append-drop height all

    chain : IsChain rows p.number p.genesis (first ++ later)
    chain = subst (IsChain rows p.number p.genesis) (sym joined) own.chain

    told : resumable p.genesis s rows p.number ≡ Ok later
    told = chain_resumed rows p.number p.genesis s first later chain lead

    whole : fold_blocks p.genesis (first ++ later) ≡ Ok (committed p)
    whole = ap (fold_blocks p.genesis) joined ∙ own.folded

    q : Node
    q = gone_on p s later

    gone : IsOwn rows (gone_on p s later)
    gone =
        let o = gone_over p s later in
        let state : committed q ≡ committed p = (gone_on_state p s later (committed p) (fold_on (genesis_state p.genesis) first later s lead ∙ whole)).1 in
        let same : first ++ q.blocks ≡ first ++ later = ap (λ (bs : List Block). first ++ bs) o.blocks_are in
        record {
          first = first;
          base = ap (λ (g : Genesis). fold_blocks g first) o.genesis ∙ lead ∙ ap Ok (sym o.base);
          folded = ap (λ (g : Genesis). fold_blocks g (first ++ q.blocks)) o.genesis ∙ ap (fold_blocks p.genesis) same ∙ whole ∙ ap Ok (sym state);
          chain = chain_of rows p.number q.number p.genesis q.genesis (first ++ later) (first ++ q.blocks) o.number o.genesis same chain;
        }

own_resumes : (g : Genesis) (w : World) (event : Event) → AreNodes g w.nodes → length w.nodes ≤ 16 → OwnSnapshots g w.rows → ResumesKeep IsOwn w event
own_resumes g w event nodes few snapshots node height is p at h = read (snapshot_at p.genesis w.rows p.number height) refl
  where
    here : OwnSnapshots p.genesis w.rows
    here = subst (λ (x : Genesis). OwnSnapshots x w.rows) (sym (all_at (λ p. p.genesis ≡ g) w.nodes node p at nodes.geneses)) snapshots

    low : p.number < 16
    low = all_at (λ p. p.number < 16) w.nodes node p at (all_low w.nodes 0 nodes.numbered (omega (arith, few)))

    read : (r : Result (Option State) Unread) → snapshot_at p.genesis w.rows p.number height ≡ r → IfOk (from_snapshot w.rows p r) (λ x. IsOwn w.rows x.0)
    read (Ok None) e = h
    read (Err unread) e = h
    read (Ok (Some s)) e =
        let all = h.first ++ p.blocks in
        resumed_own w.rows p height s h (here p.number height all s low (chain_read w.rows p.number p.genesis all h.chain) e)

-- a node that commits a block that has bytes
committed_own : (rows : Rows) (p : Node) (b : Block) (q : Node × List ℕ) → commit p b ≡ Ok q → FitsBlock b → IsOwn rows p → IsOwn (insert rows (place_of p.number b.height) (block_bytes b)) (placed_again q.0)
committed_own rows p b q e fits h =
    let d = committed_is p b q e in
    let g = committed_grows p b q e in
    let x = placed_again q.0 in
    let all = h.first ++ p.blocks in
    let after = insert rows (place_of p.number b.height) (block_bytes b) in
    let longer : h.first ++ x.blocks ≡ all ++ b ∷ [] = ap (λ (bs : List Block). h.first ++ bs) g.blocks ∙ sym (append_assoc h.first p.blocks (b ∷ [])) in
    let state : committed x ≡ d.0.0 =
    ap (λ (r : Result (Node × List ℕ) Bad). committed (commit_answer p b r).0) (sym e) ∙ committing_state (Some b) p (own_from rows p h) ∙ ap (state_or (committed p)) d.1 in
    record {
      first = h.first;
      base = ap (λ (k : Genesis). fold_blocks k h.first) g.genesis ∙ h.base ∙ ap Ok (sym g.base);
      folded = ap (λ (k : Genesis). fold_blocks k (h.first ++ x.blocks)) g.genesis ∙ ap (fold_blocks p.genesis) longer
          ∙ fold_more (genesis_state p.genesis) all (committed p) b d.0 h.folded d.1 ∙ ap Ok (sym state);
      chain = chain_of after p.number x.number p.genesis x.genesis (all ++ b ∷ []) (h.first ++ x.blocks) g.number g.genesis longer
          (chain_grown rows p.number p.genesis all (committed p) b d.0 h.chain h.folded d.1 fits);
    }

own_commits : (w : World) (event : Event) → EventFits w event → CommitsKeep IsOwn w event
own_commits w event fit node slot is p b q at filled e h =
    let here : CommitFits (slice_get w.nodes node) (get w.slots slot) = subst (EventFits w) is fit in
    let own : CommitFits (Some p) (Some b) = subst (λ (o : Option Block). CommitFits (Some p) o) filled (subst (λ (o : Option Node). CommitFits o (get w.slots slot)) at here) in
    committed_own w.rows p b q e (own q e) h

-- ---- the snapshots

same_blocks : (a b : List Block) → ◌≡◌ {A = Result (List Block) Unkept} (Ok a) (Ok b) → a ≡ b
same_blocks a b e = cc

same_some : (a b : State) → ◌≡◌ {A = Result (Option State) Unread} (Ok (Some a)) (Ok (Some b)) → a ≡ b
same_some a b e = cc

taken_long : (n : ℕ) (bs : List Block) → length (take n bs) ≤ length bs
taken_long zero bs = omega arith
taken_long (suc n) [] = omega arith
taken_long (suc n) (b ∷ bs) = let rest = taken_long n bs in omega (arith, rest)

-- a row that is read is the snapshot of the state that is read, at its height
read_is : (g : Genesis) (height : ℕ) (row : Option (List ℕ)) (s : State) → snapshot_of g height row ≡ Ok (Some s) → (bytes : List ℕ) × (row ≡ Some bytes) × IsSnapshot g bytes s × (s.clock.height ≡ height)
read_is g height None s e = absurd (cc)
read_is g height (Some bytes) s e =
    let a = stage_passes (snapshot_in g height bytes) (λ (x : State). Ok (Some x)) (Some s) e in
    let is = snapshot_from g height bytes a.0 a.1 in
    let same = same_some a.0 s a.2 in
    (bytes, refl, subst (IsSnapshot g bytes) same is.0, ap (λ (x : State). x.clock.height) (sym same) ∙ is.1)

-- the height of a snapshot of own blocks is no more than their count
own_height : (g : Genesis) (height : ℕ) (bs : List Block) (s : State) → fold_blocks g (take height bs) ≡ Ok s → s.clock.height ≡ height → height ≤ length bs
own_height g height bs s lead at =
    let high = (chain_height g (take height bs) s lead).0 in
    let less = taken_long height bs in
    omega (arith, high, less, at)

-- a snapshot of a node stands at another number than any node
apart : (node m : ℕ) → (node == m) ≡ false → (first_number + node == first_number + m) ≡ false
apart node m e = grind (arith, nat_tests, e)

-- behind a commit they are those of the longer chain
commit_snapshots : (g : Genesis) (rows : Rows) (p : Node) (b : Block) (q : Node × List ℕ) → p.genesis ≡ g → p.number < 16 → commit p b ≡ Ok q → FitsBlock b → IsOwn rows p → OwnSnapshots g rows
    → OwnSnapshots g (insert rows (place_of p.number b.height) (block_bytes b))
commit_snapshots g rows p b q own low e fits h snapshots node height bs s lt k r = go (node == p.number) refl
  where
    after : Rows
    after = insert rows (place_of p.number b.height) (block_bytes b)

    before : snapshot_at g rows node height ≡ Ok (Some s)
    before = sym (snapshots_stay rows p.number node b.height height (block_bytes b) g low) ∙ r

    go : (t : Bool) → (node == p.number) ≡ t → fold_blocks g (take height bs) ≡ Ok s
    go false i = snapshots node height bs s lt (sym (other_kept rows p.number node b.height (block_bytes b) g i) ∙ k) before
    go true i =
        let at : node ≡ p.number = eqb-true node p.number i in
        let all = h.first ++ p.blocks in
        let x = committed_own rows p b q e fits h in
        let d = committed_is p b q e in
        let grown : IsChain after p.number p.genesis (all ++ b ∷ []) = chain_grown rows p.number p.genesis all (committed p) b d.0 h.chain h.folded d.1 fits in
        let old : kept g rows node ≡ Ok all = ap (λ (n : ℕ). kept g rows n) at ∙ ap (λ (y : Genesis). kept y rows p.number) (sym own) ∙ chain_read rows p.number p.genesis all h.chain in
        let new : kept g after node ≡ Ok (all ++ b ∷ []) = ap (λ (n : ℕ). kept g after n) at ∙ ap (λ (y : Genesis). kept y after p.number) (sym own) ∙ chain_read after p.number p.genesis (all ++ b ∷ []) grown in
        let same : bs ≡ all ++ b ∷ [] = same_blocks bs (all ++ b ∷ []) (sym k ∙ new) in
        let lead = snapshots node height all s lt old before in
        let read = read_is g height (get rows (snapshot_place node height)) s before in
        let few = own_height g height all s lead read.3 in
        ap (λ (cs : List Block). fold_blocks g (take height cs)) same ∙ ap (fold_blocks g) (take-append-le height all (b ∷ []) few) ∙ lead

-- the state whose snapshot a row is
one_state : (g : Genesis) (s t : State) → IsGenesis g → FitsNames s → s.genesis ≡ g → Sound s → Balanced s → IsSnapshot g (snapshot_bytes s) t → s ≡ t
one_state g s t good names own sound balanced is =
    let bytes : state_bytes s ≡ state_bytes t = sym (front_again (state_bytes s)) ∙ ap front_of is.bytes ∙ front_again (state_bytes t) in
    let fits = state_fits s (subst IsGenesis (sym own) good) sound balanced names in
    let other = state_fits t (subst IsGenesis (sym is.state.genesis) good) is.state.sound is.state.balanced is.names in
    (states_apart g s t [] [] fits other own is.state.genesis sound is.state.sound (ap (λ (xs : List ℕ). xs ++ []) bytes)).0

genesis_kept : (g : Genesis) → (genesis_state g).genesis ≡ g
unfolding genesis_state
genesis_kept g = refl

same_bytes : (a b : List ℕ) → Some a ≡ Some b → a ≡ b
same_bytes a b e = cc

-- behind a snapshot of a node they are those of its chain
snap_snapshots : (g : Genesis) (rows : Rows) (p : Node) → IsGenesis g → p.genesis ≡ g → p.number < 16 → FitsNames (committed p) → IsOwn rows p → OwnSnapshots g rows
    → OwnSnapshots g (insert rows (snapshot_place p.number (height_of p)) (snapshot_bytes (committed p)))
snap_snapshots g rows p good own low names h snapshots node height bs s lt k r = go (node == p.number) refl
  where
    bytes : List ℕ
    bytes = snapshot_bytes (committed p)

    before : kept g rows node ≡ Ok bs
    before = sym (chains_stay rows p.number node (height_of p) (snapshot_bytes (committed p)) g lt) ∙ k

    -- its own snapshot at the height of its committed state
    mine : node ≡ p.number → height ≡ height_of p → snapshot_of g height (Some (snapshot_bytes (committed p))) ≡ Ok (Some s) → fold_blocks g (take height bs) ≡ Ok s
    mine at high f =
        let all = h.first ++ p.blocks in
        let old : kept g rows node ≡ Ok all = ap (λ (n : ℕ). kept g rows n) at ∙ ap (λ (y : Genesis). kept y rows p.number) (sym own) ∙ chain_read rows p.number p.genesis all h.chain in
        let same : bs ≡ all = same_blocks bs all (sym before ∙ old) in
        let lead : fold_blocks g all ≡ Ok (committed p) = ap (λ (y : Genesis). fold_blocks y all) (sym own) ∙ h.folded in
        let whole = blocks_are_sound g all (committed p) good lead in
        let of : (committed p).genesis ≡ g = same_genesis (genesis_state g) all (committed p) (Sound-genesis g good) lead ∙ genesis_kept g in
        let read = read_is g height (Some (snapshot_bytes (committed p))) s f in
        let is : IsSnapshot g (snapshot_bytes (committed p)) s = subst (λ (xs : List ℕ). IsSnapshot g xs s) (sym (same_bytes (snapshot_bytes (committed p)) read.0 read.1)) read.2 in
        let state : committed p ≡ s = one_state g (committed p) s good names of whole.0 whole.1 is in
        let count = (chain_height g all (committed p) lead).0 in
        let enough : length all ≤ height = omega (arith, count, high) in
        ap (λ (cs : List Block). fold_blocks g (take height cs)) same ∙ ap (fold_blocks g) (take_all height all enough) ∙ lead ∙ ap Ok state

    here : node ≡ p.number → (t : Bool) → (height == height_of p) ≡ t → snapshot_of g height (cond t (Some (snapshot_bytes (committed p))) (get rows (snapshot_place p.number height))) ≡ Ok (Some s) → fold_blocks g (take height bs) ≡ Ok s
    here at true i f = mine at (eqb-true height (height_of p) i) f
    here at false i f = snapshots node height bs s lt before (ap (λ (n : ℕ). snapshot_of g height (get rows (snapshot_place n height))) at ∙ f)

    go : (t : Bool) → (node == p.number) ≡ t → fold_blocks g (take height bs) ≡ Ok s
    go true i =
        let at : node ≡ p.number = eqb-true node p.number i in
        let row = own_row rows (first_number + p.number) (height_of p) (snapshot_bytes (committed p)) height in
        here at (height == height_of p) refl
        (ap (snapshot_of g height) (sym row) ∙ ap (λ (n : ℕ). snapshot_of g height (get (insert rows (snapshot_place p.number (height_of p)) (snapshot_bytes (committed p))) (snapshot_place n height))) (sym at) ∙ r)
    go false i =
        let row = other_row rows (first_number + p.number) (first_number + node) (height_of p) (snapshot_bytes (committed p)) (apart node p.number i) height in
        snapshots node height bs s lt before (ap (snapshot_of g height) (sym row) ∙ r)

-- ---- worlds

-- the nodes are those of a run, with rows and snapshots that are their own
record OwnWorld (g : Genesis) (w : World) : Type 0 where
  nodes : AreNodes g w.nodes
  few : length w.nodes ≤ 16
  own : All (IsOwn w.rows) w.nodes
  snapshots : OwnSnapshots g w.rows

few_low : (ps : List Node) → AreNumbered 0 ps → length ps ≤ 16 → All (λ p. p.number < 16) ps
few_low ps m few = all_low ps 0 m (omega (arith, few))

names_at : (g : Genesis) (w : World) (node : ℕ) (p : Node) → OwnWorld g w → slice_get w.nodes node ≡ Some p → (p.genesis ≡ g) × (p.number < 16)
names_at g w node p h at = (all_at (λ p. p.genesis ≡ g) w.nodes node p at h.nodes.geneses, all_at (λ p. p.number < 16) w.nodes node p at (few_low w.nodes h.nodes.numbered h.few))

slot_snapshots : (g : Genesis) (w : World) (node : ℕ) (o : Option Node) (b : Option Block) → slice_get w.nodes node ≡ o → CommitFits o b → OwnWorld g w → OwnSnapshots g (rows_behind w.rows o b)
slot_snapshots g w node None b at fit h = h.snapshots
slot_snapshots g w node (Some p) None at fit h = h.snapshots
slot_snapshots g w node (Some p) (Some b) at fit h = go (commit p b) refl
  where
    go : (r : Result (Node × List ℕ) Bad) → commit p b ≡ r → OwnSnapshots g (rows_with w.rows p.number b r)
    go (Err bad) e = h.snapshots
    go (Ok q) e =
        let names = names_at g w node p h at in
        commit_snapshots g w.rows p b q names.0 names.1 e (fit q e) (all_at (IsOwn w.rows) w.nodes node p at h.own) h.snapshots

node_snapshots : (g : Genesis) (w : World) (node : ℕ) (o : Option Node) → IsGenesis g → slice_get w.nodes node ≡ o → SnapFits o → OwnWorld g w → OwnSnapshots g (node_snaps w o).0.rows
node_snapshots g w node None good at fit h = h.snapshots
node_snapshots g w node (Some p) good at fit h =
    let names = names_at g w node p h at in
    snap_snapshots g w.rows p good names.0 names.1 fit (all_at (IsOwn w.rows) w.nodes node p at h.own) h.snapshots

beside_snapshots : (g : Genesis) (w : World) (event : Event) → commits event ≡ false → snaps event ≡ false → OwnWorld g w → IfOk (step w event) (λ r. OwnSnapshots g r.0.rows)
beside_snapshots g w event c n h =
    if_ok (step w event) (λ r. r.0.rows ≡ w.rows) (λ r. OwnSnapshots g r.0.rows) (λ r e. subst (OwnSnapshots g) (sym e) h.snapshots) (rows_stay w event c n)

step_snapshots : (g : Genesis) (w : World) (event : Event) → IsGenesis g → EventFits w event → OwnWorld g w → IfOk (step w event) (λ r. OwnSnapshots g r.0.rows)
step_snapshots g w (events.Commit node slot) good fit h = slot_snapshots g w node (slice_get w.nodes node) (get w.slots slot) refl fit h
step_snapshots g w (events.Snap node) good fit h = node_snapshots g w node (slice_get w.nodes node) good refl fit h
step_snapshots g w event good fit h = beside_snapshots g w event refl refl h

own_stays : (g : Genesis) (w : World) (event : Event) → IsGenesis g → EventFits w event → OwnWorld g w → IfOk (step w event) (λ r. OwnWorld g r.0)
own_stays g w event good fit h =
    both_of (step w event) (λ r. AreNodes g r.0.nodes × (length r.0.nodes ≡ length w.nodes)) (λ r. All (IsOwn r.0.rows) r.0.nodes × OwnSnapshots g r.0.rows) (λ r. OwnWorld g r.0)
    (λ r n s. record { nodes = n.0; few = (let i = n.1 in let few = h.few in omega (arith, i, few)); own = s.0; snapshots = s.1 })
    (both_of (step w event) (λ r. AreNodes g r.0.nodes) (λ r. length r.0.nodes ≡ length w.nodes) (λ r. AreNodes g r.0.nodes × (length r.0.nodes ≡ length w.nodes)) (λ r n c. (n, c))
    (nodes_stay g w event h.nodes) (count_stays w event))
    (both_of (step w event) (λ r. All (IsOwn r.0.rows) r.0.nodes) (λ r. OwnSnapshots g r.0.rows) (λ r. All (IsOwn r.0.rows) r.0.nodes × OwnSnapshots g r.0.rows) (λ r n c. (n, c))
    (event_keeps IsOwn own_same own_others own_restarts w event h.nodes.numbered (inr h.few) (own_commits w event fit) (own_resumes g w event h.nodes h.few h.snapshots) h.own)
    (step_snapshots g w event good fit h))

own_ran : (g : Genesis) (w v : World) (es : List Event) → IsGenesis g → RunFits w es → after w es ≡ Ok v → OwnWorld g w → OwnWorld g v
own_ran g w v [] good fit e h = subst (OwnWorld g) (ok_same w v e) h
own_ran g w v (event ∷ es) good fit e h =
    let a = stage_passes (step w event) (λ (r : World × Reply). after r.0 es) v e in
    let rest = subst (λ (s : Steps). IfOk s (λ x. RunFits x.0 es)) a.1 fit.1 in
    own_ran g a.0.0 v es good rest a.2 (subst (λ (s : Steps). IfOk s (λ x. OwnWorld g x.0)) a.1 (own_stays g w event good fit.0 h))

-- ---- at first

-- a start leaves each snapshot
begun_snapshot : (g : Genesis) (rows : Rows) (i node height : ℕ) (t : Bool) → (row_count rows i == 0) ≡ t → i < 16 → snapshot_at g (begun rows i g) node height ≡ snapshot_at g rows node height
begun_snapshot g rows i node height true e low =
    ap (λ (b : Bool). snapshot_at g (cond b (insert rows (place_of i 0) (digest_of g)) rows) node height) e ∙ snapshots_stay rows i node 0 height (digest_of g) g low
begun_snapshot g rows i node height false e low = ap (λ (b : Bool). snapshot_at g (cond b (insert rows (place_of i 0) (digest_of g)) rows) node height) e

snapshot_behind : (g : Genesis) (rows : Rows) (i node height : ℕ) → i ≤ 16 → snapshot_at g (begun_all g rows (range_with_len 0 i)) node height ≡ snapshot_at g rows node height
snapshot_behind g rows zero node height few = refl
snapshot_behind g rows (suc i) node height few =
    let one : suc i ≡ i + 1 = omega arith in
    let before = begun_all g rows (range_with_len 0 i) in
    ap (λ (n : ℕ). snapshot_at g (begun_all g rows (range_with_len 0 n)) node height) one
    ∙ ap (λ (r : Rows). snapshot_at g r node height) (begun_more g rows i)
    ∙ begun_snapshot g before i node height (row_count before i == 0) refl (omega (arith, few))
    ∙ snapshot_behind g rows i node height (omega (arith, few))

-- and the chain of each node that starts
kept_first : (count : ℕ) (g : Genesis) (rows : Rows) (w : World) (node : ℕ) (bs : List Block) → opened count g rows ≡ Ok w → kept g (begun_all g rows (range_with_len 0 count)) node ≡ Ok bs → kept g rows node ≡ Ok bs
kept_first count g rows w node bs e k = go (nat_lt node count) refl
  where
    below : (n m : ℕ) → nat_lt n m ≡ true → n < m
    below n m e = grind (arith, nat_tests, e)

    above : (n m : ℕ) → nat_lt n m ≡ false → m ≤ n
    above n m e = grind (arith, nat_tests, e)

    go : (t : Bool) → nat_lt node count ≡ t → kept g rows node ≡ Ok bs
    go false i = sym (kept_behind g rows count node (above node count i)) ∙ k
    go true i =
        let less = below node count i in
        let made = opened_made count g rows w e in
        let own = nodes_kept g rows 0 count made.nodes made.made node (omega arith) (omega (arith, less)) in
        let chain = chain_behind g rows count node own.0 less own.1 in
        let same : own.0 ≡ bs = same_blocks own.0 bs (sym (chain_read (begun_all g rows (range_with_len 0 count)) node g own.0 chain) ∙ k) in
        own.1 ∙ ap Ok same

opened_own : (count : ℕ) (g : Genesis) (rows : Rows) (w : World) → count ≤ 16 → OwnSnapshots g rows → opened count g rows ≡ Ok w → OwnWorld g w
opened_own count g rows w few snapshots e =
    let many = world_count count g rows w e in
    let folds = folds_stay_good.0 count g rows w e in
    let has = opened_has count g rows w e in
    let begun_rows = begun_all g rows (range_with_len 0 count) in
    record {
      nodes = record { numbered = opened_numbered count g rows w e; geneses = opened_geneses count g rows w e };
      few = omega (arith, many, few);
      own = λ n d lt. chain_own w.rows (get_or w.nodes n d) (folds n d lt).folded (has n d lt);
      snapshots = subst (OwnSnapshots g) (opened_rows count g rows w e)
          (λ node height bs s lt k r. snapshots node height bs s lt (kept_first count g rows w node bs e k) (sym (snapshot_behind g rows count node height few) ∙ r));
    }

pub own_snapshots_stay : OwnSnapshotsStay
own_snapshots_stay g w good r few snapshots fit =
    let h = own_ran g r.start w r.events good fit r.after (opened_own r.count g r.rows r.start few snapshots r.opened) in
    let low = few_low w.nodes h.nodes.numbered h.few in
    record {
      nodes = λ n d lt. record { genesis = h.nodes.geneses n d lt; number = low n d lt };
      own = h.own;
      snapshots = h.snapshots;
    }
