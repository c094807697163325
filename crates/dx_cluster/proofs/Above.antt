-- The rows of each node are those of its blocks above its base in every world that is reached.
use Rattle.std.proofs.Common.{◌≡◌, ◌≤◌, ◌+◌, ◌==◌, ℕ, zero, suc, Bool, true, false, cond, List, [], ◌∷◌, ◌++◌, length, get_or, ◌-◌, ◌^◌, arith, refl, sym, ap, subst, ◌∙◌, inr, Option, Some, None, Result, Ok, Err, option_map, slice_get}
use Rattle.std.specs.Prelude.{nat_le, is_some, min, IfOk, All}
use Rattle.std.specs.FinMap.{get, insert}
use Rattle.std.proofs.lemmas.Bool.{eqb-true}
use Rattle.std.proofs.lemmas.Bool.Decides.{nat_tests}
use Rattle.std.proofs.lemmas.List.{length-append}
use Rattle.std.proofs.lemmas.List.Elements.{All-weaker}
use Rattle.dx_types.specs.declared.Block.{Block}
use Rattle.dx_types.specs.declared.Bad.{Bad}
use Rattle.dx_types.specs.declared.Genesis.{Genesis}
use Rattle.dx_spec.specs.State.{State, genesis_state}
use Rattle.dx_spec.specs.Bounds.{last_moment}
use Rattle.dx_spec.specs.Blocks.{fold_from, fold_blocks}
use Rattle.dx_io.specs.Rows.{Rows, row_count}
use Rattle.dx_codec.specs.Blocks.{block_bytes}
use Rattle.dx_history.specs.Rows.{place_of}
use Rattle.dx_history.specs.Chains.{Unkept, row_at, kept}
use Rattle.dx_history.proofs.Rising.{is_in, up_to, not_more, each_in, rises_up, length_up, each_up, in_all}
use Rattle.dx_history.proofs.Counting.{heights_of, counted, found_at, risen}
use Rattle.dx_history.proofs.Climbing.{block_height, fold_height, chain_height}
use Rattle.dx_history.proofs.Growing.{own_row, other_row}
use Rattle.dx_snapshot.specs.Snapshots.{Unread, snapshot_at}
use Rattle.dx_node_spec.specs.Node.{Node, committed}
use Rattle.dx_node_spec.specs.Commits.{placed_again}
use Rattle.dx_node.specs.Resumes.{Unresumed, AheadOf, Broken, HasRowsAbove, resumable}
use Rattle.dx_node.proofs.Above.{rows_above_read, reaches, rows_above_grow}
use Rattle.dx_speculation.specs.Faithful.{SameBlocks}
use Rattle.dx_speculation.proofs.Outcomes.{committed_is}
use Rattle.dx_scenario.specs.declared.event.Event.{Event}
use Rattle.dx_cluster.specs.Acts.{commit_answer, started}
use Rattle.dx_cluster.specs.Snapshots.{restarted_by, gone_on, resumed_by, from_snapshot}
use Rattle.dx_cluster.specs.World.{World, HasFirst, opened, step}
use Rattle.dx_cluster.specs.Laws.{IsFoldFrom, last_height, HasChain, HasRows, RowsAreAbove}
use Rattle.dx_cluster.proofs.Living.{ok_of, started_folds, from_genesis, gone_on_from, committing_from}
use Rattle.dx_cluster.proofs.Chains.{started_has, gone_over, own_chain, committed_grows}
use Rattle.dx_cluster.proofs.Opening.{opened_numbered, opened_geneses, opened_has}
use Rattle.dx_cluster.proofs.Counting.{world_count}
use Rattle.dx_cluster.proofs.Keeping.{folds_stay_good, ran}
use Rattle.dx_cluster.proofs.Across.{SameKeeps, OthersKeep, CommitsKeep, RestartsKeep, ResumesKeep, event_keeps, both_of, AreNodes, nodes_stay, count_stays}

-- ---- so many rows as heights

-- a node with a row at each height up to one and none above has just one more
heights_long : (rows : Rows) (node most : ℕ) → ((h : ℕ) → is_some (get rows (place_of node h)) ≡ nat_le h most) → length (heights_of rows node) ≡ most + 1
heights_long rows node most just =
    let all = up_to 0 most most in
    let rise = rises_up 0 most most (omega arith) in
    let less = not_more (heights_of rows node) all 0 0 (risen rows node) rise
    (each_up (λ h. is_in h (heights_of rows node) ≡ true) 0 most most
    (λ h low high. found_at rows node h ∙ just h ∙ below h most (omega (arith, high)))
    (found_at rows node most ∙ just most ∙ below most most (omega arith))) in
    let more = not_more all (heights_of rows node) 0 0 rise (risen rows node)
    (each_in (λ h. is_in h all ≡ true) (heights_of rows node) (λ h e. in_all h most (within h most (sym (just h) ∙ sym (found_at rows node h) ∙ e)))) in
    omega (arith, less, more, length_up 0 most most)
  where
    below : (h most : ℕ) → h ≤ most → nat_le h most ≡ true
    below h most le = grind (arith, nat_tests, le)

    within : (h most : ℕ) → nat_le h most ≡ true → h ≤ most
    within h most e = grind (arith, nat_tests, e)

pub rows_counted : (rows : Rows) (node most : ℕ) → ((h : ℕ) → is_some (get rows (place_of node h)) ≡ nat_le h most) → most ≤ last_moment → row_count rows node ≡ most + 1
rows_counted rows node most just low = counted rows node ∙ small (length (heights_of rows node)) most (heights_long rows node most just) low
  where
    small : (n m : ℕ) → n ≡ m + 1 → m ≤ last_moment → min n (2 ^ 32 - 1) ≡ m + 1
    small n m e f = omega (arith, e, f)

-- ---- a node and its rows

-- what each node has in every world that is reached
record Stays (rows : Rows) (p : Node) : Type 0 where
  folded : IsFoldFrom p
  above : HasRowsAbove rows p.number p.genesis p.base p.blocks
  just : (h : ℕ) → is_some (get rows (place_of p.number h)) ≡ nat_le h (last_height p)
  low : last_height p ≤ last_moment

above_of : (rows : Rows) (n m : ℕ) (g k : Genesis) (s t : State) (bs cs : List Block) → m ≡ n → k ≡ g → t ≡ s → cs ≡ bs → HasRowsAbove rows n g s bs → HasRowsAbove rows m k t cs
above_of rows n m g k s t bs cs number genesis base blocks h =
    subst (λ (x : ℕ). HasRowsAbove rows x k t cs) (sym number)
    (subst (λ (x : Genesis). HasRowsAbove rows n x t cs) (sym genesis)
    (subst (λ (x : State). HasRowsAbove rows n g x cs) (sym base) (subst (λ (xs : List Block). HasRowsAbove rows n g s xs) (sym blocks) h)))

same_last : (p q : Node) → SameBlocks p q → last_height q ≡ last_height p
same_last p q s = ap (λ (b : State). b.clock.height + length q.blocks) s.base ∙ ap (λ (bs : List Block). p.base.clock.height + length bs) s.blocks

-- a row one above the last
one_more : (n height last : ℕ) (bytes : List ℕ) (o : Option (List ℕ)) (t : Bool) → (n == height) ≡ t → height ≡ last + 1 → is_some o ≡ nat_le n last → is_some (cond t (Some bytes) o) ≡ nat_le n (last + 1)
one_more n height last bytes o true e at h = (let same : n ≡ last + 1 = eqb-true n height e ∙ at in itself n (last + 1) same)
  where
    itself : (n m : ℕ) → n ≡ m → true ≡ nat_le n m
    itself n m e = grind (arith, nat_tests, e)
one_more n height last bytes o false e at h = h ∙ not_last n height last (nat_le n last) refl e at
  where
    not_last : (n height last : ℕ) (t : Bool) → nat_le n last ≡ t → (n == height) ≡ false → height ≡ last + 1 → t ≡ nat_le n (last + 1)
    not_last n height last true i e at = grind (arith, nat_tests, i, e, at)
    not_last n height last false i e at = grind (arith, nat_tests, i, e, at)

-- of a node of the same blocks
stays_same : SameKeeps Stays
stays_same rows p q s e h = record {
  folded = ap (λ (b : State). fold_from b q.blocks) s.base ∙ ap (fold_from p.base) s.blocks ∙ h.folded ∙ ap Ok (sym e);
  above = above_of rows p.number q.number p.genesis q.genesis p.base q.base p.blocks q.blocks s.number s.genesis s.base s.blocks h.above;
  just = λ n. ap (λ (k : ℕ). is_some (get rows (place_of k n))) s.number ∙ h.just n ∙ ap (nat_le n) (sym (same_last p q s));
  low = let l = h.low in let i = same_last p q s in omega (arith, l, i);
}

-- over rows in which its own are the same
stays_over : (rows after : Rows) (p : Node) → ((h : ℕ) → get after (place_of p.number h) ≡ get rows (place_of p.number h)) → Stays rows p → Stays after p
stays_over rows after p same h = record {
  folded = h.folded;
  above = record { first = same 0 ∙ h.above.first; each = λ n b e. same (p.base.clock.height + 1 + n) ∙ h.above.each n b e };
  just = λ n. ap is_some (same n) ∙ h.just n;
  low = h.low;
}

stays_others : OthersKeep Stays
stays_others rows m height bytes p apart h = stays_over rows (insert rows (place_of m height) bytes) p (other_row rows m p.number height bytes apart) h

genesis_height : (g : Genesis) → (genesis_state g).clock.height ≡ 0
unfolding genesis_state
genesis_height g = refl

less_one : (n m : ℕ) (t : Bool) → nat_le n m ≡ t → nat_le (suc n) (suc m) ≡ t
less_one n m true e = grind (arith, nat_tests, e)
less_one n m false e = grind (arith, nat_tests, e)

blocks_to : (bs : List Block) (n : ℕ) → is_some (option_map block_bytes (slice_get bs n)) ≡ nat_le (suc n) (length bs)
blocks_to [] n = none n
  where
    none : (n : ℕ) → false ≡ nat_le (suc n) 0
    none n = grind (arith, nat_tests)
blocks_to (b ∷ bs) zero = one (length bs)
  where
    one : (n : ℕ) → true ≡ nat_le 1 (suc n)
    one n = grind (arith, nat_tests)
blocks_to (b ∷ bs) (suc n) = blocks_to bs n ∙ sym (less_one (suc n) (length bs) (nat_le (suc n) (length bs)) refl)

-- a chain has a row at each height up to its last one
rows_to : (g : Genesis) (bs : List Block) (n : ℕ) → is_some (row_at g bs n) ≡ nat_le n (length bs)
rows_to g bs zero = first (length bs)
  where
    first : (n : ℕ) → true ≡ nat_le 0 n
    first n = grind (arith, nat_tests)
rows_to g bs (suc n) = blocks_to bs n

-- of one whose rows are a chain
chain_stays : (rows : Rows) (p : Node) → IsFoldFrom p → HasChain rows p → Stays rows p
chain_stays rows p folded h =
    let base : p.base.clock.height ≡ 0 = ap (λ (s : State). s.clock.height) h.base ∙ genesis_height p.genesis in
    let from : fold_from (genesis_state p.genesis) p.blocks ≡ Ok (committed p) = ap (λ (s : State). fold_from s p.blocks) (sym h.base) ∙ folded in
    let high = chain_height p.genesis p.blocks (committed p) from in
    let last : last_height p ≡ length p.blocks = omega (arith, base) in
    record {
      folded = folded;
      above = record {
        first = h.chain.rows_are 0;
        each = λ n b e.
            let at : p.base.clock.height + 1 + n ≡ suc n = omega (arith, base) in
            ap (λ (k : ℕ). get rows (place_of p.number k)) at ∙ h.chain.rows_are (suc n) ∙ ap (option_map block_bytes) e;
      };
      just = λ n. ap is_some (h.chain.rows_are n) ∙ rows_to p.genesis p.blocks n ∙ ap (nat_le n) (sym last);
      low = let m = high.1 in omega (arith, m, last);
    }

-- where it starts anew from them
restarted_stays : (rows : Rows) (p : Node) (k : Result (List Block) Unkept) → kept p.genesis rows p.number ≡ k → HasFirst rows p → IfOk (restarted_by p k) (λ r. Stays rows r.0)
restarted_stays rows p (Err unkept) e first = tt
restarted_stays rows p (Ok blocks) e first =
    let chain = own_chain rows p blocks first e in
    let t = ok_of (fold_blocks p.genesis blocks) chain.good in
    chain_stays rows (started p blocks) (from_genesis (started p blocks) (started_folds p blocks t.0 t.1).0) (started_has rows p blocks chain)

stays_restarts : RestartsKeep Stays
stays_restarts rows p h = restarted_stays rows p (kept p.genesis rows p.number) refl (ap is_some h.above.first)

-- and where it goes on from a snapshot
stays_resumes : (w : World) (event : Event) → ResumesKeep Stays w event
stays_resumes w event node height e p at h = read (snapshot_at p.genesis w.rows p.number height)
  where
    gone : (s : State) (k : Result (List Block) Unresumed) → resumable p.genesis s w.rows p.number ≡ k → IfOk (resumed_by p s k) (λ r. Stays w.rows r.0)
    gone s (Ok blocks) e =
        let to = reaches w.rows p.number p.genesis s blocks e in
        let o = gone_over p s blocks in
        let q = gone_on p s blocks in
        let count = rows_counted w.rows p.number (last_height p) h.just h.low in
        let again = to.count in
        let new : last_height q ≡ s.clock.height + length blocks = ap (λ (b : State). b.clock.height + length q.blocks) o.base ∙ ap (λ (bs : List Block). s.clock.height + length bs) o.blocks_are in
        let last : last_height q ≡ last_height p = omega (arith, count, again, new) in
        let low = h.low in
        record {
          folded = gone_on_from p s blocks to.state to.leads;
          above = above_of w.rows p.number q.number p.genesis q.genesis s q.base blocks q.blocks o.number o.genesis o.base o.blocks_are (rows_above_read w.rows p.number p.genesis s blocks e);
          just = λ n. ap (λ (k : ℕ). is_some (get w.rows (place_of k n))) o.number ∙ h.just n ∙ ap (nat_le n) (sym last);
          low = omega (arith, low, last);
        }
    gone s (Err (AheadOf rows)) e = h
    gone s (Err (Broken unkept)) e = tt

    read : (r : Result (Option State) Unread) → IfOk (from_snapshot w.rows p r) (λ x. Stays w.rows x.0)
    read (Ok None) = h
    read (Err unread) = h
    read (Ok (Some s)) = gone s (resumable p.genesis s w.rows p.number) refl

-- and where it commits a block
stays_commits : (w : World) (event : Event) → CommitsKeep Stays w event
stays_commits w event node slot is p b q at filled e h =
    let d = committed_is p b q e in
    let g = committed_grows p b q e in
    let x = placed_again q.0 in
    let up = fold_height p.base p.blocks (committed p) h.folded in
    let next = block_height (committed p) b d.0 d.1 in
    let at_next = next.0 in
    let most = next.1.0 in
    let long = length-append p.blocks (b ∷ []) in
    let last : last_height x ≡ last_height p + 1 =
    ap (λ (s : State). s.clock.height + length x.blocks) g.base ∙ ap (λ (bs : List Block). p.base.clock.height + length bs) g.blocks ∙ (let one : length (b ∷ []) ≡ 1 = refl in omega (arith, long, one)) in
    let here : b.height ≡ last_height p + 1 = omega (arith, at_next, up) in
    let after = insert w.rows (place_of p.number b.height) (block_bytes b) in
    record {
      folded = subst IsFoldFrom (ap (λ (r : Result (Node × List ℕ) Bad). (commit_answer p b r).0) e) (committing_from (Some b) p h.folded);
      above = above_of after p.number x.number p.genesis x.genesis p.base x.base (p.blocks ++ b ∷ []) x.blocks g.number g.genesis g.base g.blocks
          (rows_above_grow w.rows p.number p.genesis p.base (committed p) p.blocks b d.0 h.above h.folded d.1);
      just = λ n. ap (λ (k : ℕ). is_some (get after (place_of k n))) g.number
          ∙ ap is_some (own_row w.rows p.number b.height (block_bytes b) n)
          ∙ one_more n b.height (last_height p) (block_bytes b) (get w.rows (place_of p.number n)) (n == b.height) refl here (h.just n)
          ∙ ap (nat_le n) (sym last);
      low = omega (arith, most, here, last);
    }

-- ---- worlds

record RowsAbove (g : Genesis) (w : World) : Type 0 where
  nodes : AreNodes g w.nodes
  few : length w.nodes ≤ 16
  stay : All (Stays w.rows) w.nodes

above_stays : (g : Genesis) (w : World) (event : Event) → RowsAbove g w → IfOk (step w event) (λ r. RowsAbove g r.0)
above_stays g w event h =
    both_of (step w event) (λ r. AreNodes g r.0.nodes × (length r.0.nodes ≡ length w.nodes)) (λ r. All (Stays r.0.rows) r.0.nodes) (λ r. RowsAbove g r.0)
    (λ r n s. record { nodes = n.0; few = (let i = n.1 in let few = h.few in omega (arith, i, few)); stay = s })
    (both_of (step w event) (λ r. AreNodes g r.0.nodes) (λ r. length r.0.nodes ≡ length w.nodes) (λ r. AreNodes g r.0.nodes × (length r.0.nodes ≡ length w.nodes)) (λ r n c. (n, c))
    (nodes_stay g w event h.nodes) (count_stays w event))
    (event_keeps Stays stays_same stays_others stays_restarts w event h.nodes.numbered (inr h.few) (stays_commits w event) (stays_resumes w event) h.stay)

opened_above : (count : ℕ) (g : Genesis) (rows : Rows) (w : World) → count ≤ 16 → opened count g rows ≡ Ok w → RowsAbove g w
opened_above count g rows w few e =
    let many = world_count count g rows w e in
    let folds = folds_stay_good.0 count g rows w e in
    let has = opened_has count g rows w e in
    record {
      nodes = record { numbered = opened_numbered count g rows w e; geneses = opened_geneses count g rows w e };
      few = omega (arith, many, few);
      stay = λ n d lt. chain_stays w.rows (get_or w.nodes n d) (from_genesis (get_or w.nodes n d) (folds n d lt)) (has n d lt);
    }

pub rows_are_above : RowsAreAbove
rows_are_above g w good r few =
    let h = ran (RowsAbove g) (above_stays g) r.start w r.events r.after (opened_above r.count g r.rows r.start few r.opened) in
    All-weaker (Stays w.rows) (HasRows w.rows) (λ p k. record { rows_are = k.above; just = k.just; count = rows_counted w.rows p.number (last_height p) k.just k.low }) w.nodes h.stay
