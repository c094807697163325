-- The rows of each node are just those of its blocks in every world that is reached without a resume.
use Rattle.std.proofs.Common.{◌≡◌, ◌≤◌, ◌+◌, ℕ, true, false, List, [], ◌∷◌, ◌++◌, length, get_or, arith, refl, sym, ap, subst, ◌∙◌, inl, inr, Option, Some, Result, Ok, Err}
use Rattle.std.specs.Prelude.{◌⊎◌, slice_get, is_some, is_ok, IfOk, All}
use Rattle.std.specs.List.{AllByRecursion}
use Rattle.std.specs.FinMap.{get, insert}
use Rattle.std.proofs.lemmas.List.Elements.{All-weaker}
use Rattle.dx_types.specs.declared.Block.{Block}
use Rattle.dx_types.specs.declared.Genesis.{Genesis}
use Rattle.dx_types.specs.declared.Bad.{Bad}
use Rattle.dx_spec.specs.State.{genesis_state}
use Rattle.dx_spec.specs.Blocks.{fold_blocks}
use Rattle.dx_spec.proofs.Each.{all_push}
use Rattle.dx_spec.proofs.Scripts.{stage_passes}
use Rattle.dx_spec.proofs.Steps.{ok_same}
use Rattle.dx_io.specs.Rows.{Rows}
use Rattle.dx_codec.specs.Blocks.{block_bytes, FitsBlock}
use Rattle.dx_history.specs.Rows.{place_of}
use Rattle.dx_history.specs.Chains.{Unkept, AreRowsOf, kept}
use Rattle.dx_history.proofs.Climbing.{block_height, chain_height}
use Rattle.dx_history.proofs.Counting.{chain_counted}
use Rattle.dx_history.proofs.Growing.{grown, apart_from}
use Rattle.dx_node_spec.specs.Node.{Node, committed}
use Rattle.dx_node_spec.specs.Commits.{commit, placed_again}
use Rattle.dx_speculation.proofs.Outcomes.{committed_is}
use Rattle.dx_scenario.specs.declared.event.Event.{Event}
use Rattle.dx_scenario.specs.declared.event.Event.TheVariants as events
use Rattle.dx_print.specs.declared.replies.Reply.{Reply}
use Rattle.dx_cluster.specs.Acts.{commit_answer, started}
use Rattle.dx_cluster.specs.Snapshots.{restarted_by}
use Rattle.dx_cluster.specs.World.{World, Steps, opened, step, HasFirst}
use Rattle.dx_cluster.specs.Fitting.{CommitFits, EventFits, RunFits}
use Rattle.dx_cluster.specs.Laws.{IsFold, HasChain, IsPlain, IsNoResume, IsUnresumed, is_plain, is_resume, after, RowsAreOfBlocks}
use Rattle.dx_cluster.proofs.Living.{ok_of, committing_folds, started_folds}
use Rattle.dx_cluster.proofs.Everywhere.{AreNumbered}
use Rattle.dx_cluster.proofs.Chains.{started_over, own_chain, first_stays, chain_first, committed_grows}
use Rattle.dx_cluster.proofs.Opening.{opened_numbered, opened_has}
use Rattle.dx_cluster.proofs.Counting.{world_count}
use Rattle.dx_cluster.proofs.Keeping.{folds_stay_good}
use Rattle.dx_cluster.proofs.Across.{SameKeeps, OthersKeep, CommitsKeep, RestartsKeep, ResumesKeep, event_keeps, snaps, numbers_stay, count_stays}

-- ---- a node and its rows

-- the blocks of a node are good from its genesis on, and its rows are just those of them
record Stays (rows : Rows) (p : Node) : Type 0 where
  fold : IsFold p
  are : AreRowsOf rows p.number p.genesis p.blocks

-- rows of one node are those of another with the same number, genesis and blocks
are_of : (rows : Rows) (n m : ℕ) (g k : Genesis) (bs cs : List Block) → m ≡ n → k ≡ g → cs ≡ bs → AreRowsOf rows n g bs → AreRowsOf rows m k cs
are_of rows n m g k bs cs number genesis blocks h =
    subst (λ (x : ℕ). AreRowsOf rows x k cs) (sym number)
    (subst (λ (x : Genesis). AreRowsOf rows n x cs) (sym genesis) (subst (λ (xs : List Block). AreRowsOf rows n g xs) (sym blocks) h))

stays_same : SameKeeps Stays
stays_same rows p q s e h = record {
  fold = record {
    base = s.base ∙ h.fold.base ∙ ap genesis_state (sym s.genesis);
    folded = ap (λ (g : Genesis). fold_blocks g q.blocks) s.genesis ∙ ap (fold_blocks p.genesis) s.blocks ∙ h.fold.folded ∙ ap Ok (sym e);
  };
  are = are_of rows p.number q.number p.genesis q.genesis p.blocks q.blocks s.number s.genesis s.blocks h.are;
}

stays_others : OthersKeep Stays
stays_others rows m height bytes p apart h = record { fold = h.fold; are = apart_from rows m p.number height bytes p.genesis p.blocks apart h.are }

restarted_stays : (rows : Rows) (p : Node) (k : Result (List Block) Unkept) → kept p.genesis rows p.number ≡ k → HasFirst rows p → IfOk (restarted_by p k) (λ r. Stays rows r.0)
restarted_stays rows p (Err unkept) e first = tt
restarted_stays rows p (Ok blocks) e first =
    let chain = own_chain rows p blocks first e in
    let t = ok_of (fold_blocks p.genesis blocks) chain.good in
    let q = started p blocks in
    let s = started_over p blocks in
    record { fold = (started_folds p blocks t.0 t.1).0; are = are_of rows p.number q.number p.genesis q.genesis blocks q.blocks s.number s.genesis s.blocks_are chain.rows_are }

first_there : (rows : Rows) (p : Node) → Stays rows p → HasFirst rows p
first_there rows p h = ap is_some (h.are 0)

stays_restarts : RestartsKeep Stays
stays_restarts rows p h = restarted_stays rows p (kept p.genesis rows p.number) refl (first_there rows p h)

-- a block that is committed is the next row
stays_commits : (w : World) (event : Event) → CommitsKeep Stays w event
stays_commits w event node slot is p b q at filled e h =
    let d = committed_is p b q e in
    let g = committed_grows p b q e in
    let x = placed_again q.0 in
    let low = (chain_height p.genesis p.blocks (committed p) h.fold.folded).0 in
    let next : b.height ≡ length p.blocks + 1 = (block_height (committed p) b d.0 d.1).0 ∙ ap (λ (n : ℕ). n + 1) low in
    let rows = insert w.rows (place_of p.number b.height) (block_bytes b) in
    record {
      fold = subst IsFold (ap (λ (r : Result (Node × List ℕ) Bad). (commit_answer p b r).0) e) (committing_folds (Some b) p h.fold).0;
      are = are_of rows p.number x.number p.genesis x.genesis (p.blocks ++ b ∷ []) x.blocks g.number g.genesis g.blocks (grown w.rows p.number p.genesis p.blocks b h.are next);
    }

-- ---- blocks that have bytes

-- a node has its first row, and each of its blocks is that of its bytes alone
record FitsAll (rows : Rows) (p : Node) : Type 0 where
  first : HasFirst rows p
  fits : AllByRecursion FitsBlock p.blocks

fits_blocks : (bs cs : List Block) → cs ≡ bs → AllByRecursion FitsBlock bs → AllByRecursion FitsBlock cs
fits_blocks bs cs e h = subst (AllByRecursion FitsBlock) (sym e) h

-- a node of the same number has its first row as well
first_of : (rows : Rows) (p q : Node) → q.number ≡ p.number → HasFirst rows p → HasFirst rows q
first_of rows p q e h = subst (λ (n : ℕ). is_some (get rows (place_of n 0)) ≡ true) (sym e) h

fits_same : SameKeeps FitsAll
fits_same rows p q s e h = record { first = first_of rows p q s.number h.first; fits = fits_blocks p.blocks q.blocks s.blocks h.fits }

fits_others : OthersKeep FitsAll
fits_others rows m height bytes p apart h = record { first = first_stays rows (place_of m height) bytes p h.first; fits = h.fits }

restarted_fits : (rows : Rows) (p : Node) (k : Result (List Block) Unkept) → kept p.genesis rows p.number ≡ k → HasFirst rows p → IfOk (restarted_by p k) (λ r. FitsAll rows r.0)
restarted_fits rows p (Err unkept) e first = tt
restarted_fits rows p (Ok blocks) e first =
    let s = started_over p blocks in
    record { first = first_of rows p (started p blocks) s.number first; fits = fits_blocks blocks (started p blocks).blocks s.blocks_are (own_chain rows p blocks first e).fits }

fits_restarts : RestartsKeep FitsAll
fits_restarts rows p h = restarted_fits rows p (kept p.genesis rows p.number) refl h.first

fits_commits : (w : World) (event : Event) → EventFits w event → CommitsKeep FitsAll w event
fits_commits w event fit node slot is p b q at filled e h =
    let g = committed_grows p b q e in
    let x = placed_again q.0 in
    let here : CommitFits (slice_get w.nodes node) (get w.slots slot) = subst (EventFits w) is fit in
    let own : CommitFits (Some p) (Some b) = subst (λ (o : Option Block). CommitFits (Some p) o) filled (subst (λ (o : Option Node). CommitFits o (get w.slots slot)) at here) in
    record {
      first = first_of (insert w.rows (place_of p.number b.height) (block_bytes b)) p x g.number (first_stays w.rows (place_of p.number b.height) (block_bytes b) p h.first);
      fits = fits_blocks (p.blocks ++ b ∷ []) x.blocks g.blocks (all_push FitsBlock p.blocks b h.fits (own q e));
    }

-- ---- worlds

any_step : (r : Steps) → IfOk r (λ x. Unit {0})
any_step (Ok x) = tt
any_step (Err unkept) = tt

-- no event keeps or reads a snapshot; or none reads one, and there are few nodes
abbrev MayNot : World → List Event → Type 0
MayNot w es = AllByRecursion IsPlain es ⊎ ((length w.nodes ≤ 16) × AllByRecursion IsNoResume es)

not_resumed : (event : Event) → is_plain event ≡ true → is_resume event ≡ false
not_resumed (events.Resume node height) e = absurd (cc)
not_resumed event e = refl

not_snapped : (event : Event) → is_plain event ≡ true → snaps event ≡ false
not_snapped (events.Snap node) e = absurd (cc)
not_snapped event e = refl

first_event : (w : World) (event : Event) (es : List Event) → MayNot w (event ∷ es) → (is_resume event ≡ false) × ((snaps event ≡ false) ⊎ (length w.nodes ≤ 16))
first_event w event es (inl plain) = (not_resumed event plain.0, inl (not_snapped event plain.0))
first_event w event es (inr few) = (few.1.0, inr few.0)

later_events : (w v : World) (event : Event) (es : List Event) → length v.nodes ≡ length w.nodes → MayNot w (event ∷ es) → MayNot v es
later_events w v event es same (inl plain) = inl plain.1
later_events w v event es same (inr few) = inr (let n = few.0 in omega (arith, same, n), few.1.1)

-- what holds of each node of a world whose nodes are numbered
record Holds (P : Rows → Node → Type 0) (w : World) : Type 0 where
  nodes : AreNumbered 0 w.nodes
  all : All (P w.rows) w.nodes

-- what each event but a resume keeps of each node, a run without one keeps
rows_ran : (P : Rows → Node → Type 0) (Fit : World → List Event → Type 0) → SameKeeps P → OthersKeep P → RestartsKeep P
    → ((w : World) (event : Event) (es : List Event) → Fit w (event ∷ es) → CommitsKeep P w event × IfOk (step w event) (λ r. Fit r.0 es))
    → (w v : World) (es : List Event) → MayNot w es → Fit w es → after w es ≡ Ok v → Holds P w → Holds P v
rows_ran P Fit same others restarts commit w v [] may fit e h = subst (Holds P) (ok_same w v e) h
rows_ran P Fit same others restarts commit w v (event ∷ es) may fit e h =
    let a = stage_passes (step w event) (λ (r : World × Reply). after r.0 es) v e in
    let f = first_event w event es may in
    let c = commit w event es fit in
    let resumes : ResumesKeep P w event = λ node height is. absurd (let i : true ≡ false = ap is_resume (sym is) ∙ f.0 in cc) in
    let numbered = at_step a.0 (λ r. AreNumbered 0 r.0.nodes) a.1 (numbers_stay w event h.nodes) in
    let all = at_step a.0 (λ r. All (P r.0.rows) r.0.nodes) a.1 (event_keeps P same others restarts w event h.nodes f.1 c.0 resumes h.all) in
    let many = at_step a.0 (λ r. length r.0.nodes ≡ length w.nodes) a.1 (count_stays w event) in
    let rest = at_step a.0 (λ r. Fit r.0 es) a.1 c.1 in
    rows_ran P Fit same others restarts commit a.0.0 v es (later_events w a.0.0 event es many may) rest a.2 (record { nodes = numbered; all = all })
  where
    at_step : {s : Steps} (r : World × Reply) (Q : World × Reply → Type 0) → s ≡ Ok r → IfOk s Q → Q r
    at_step r Q e h = subst (λ (s : Steps). IfOk s Q) e h

opened_stays : (count : ℕ) (g : Genesis) (rows : Rows) (w : World) → opened count g rows ≡ Ok w → Holds Stays w
opened_stays count g rows w e =
    let folds = folds_stay_good.0 count g rows w e in
    let has = opened_has count g rows w e in
    record { nodes = opened_numbered count g rows w e; all = λ n d lt. record { fold = folds n d lt; are = (has n d lt).chain.rows_are } }

opened_fits : (count : ℕ) (g : Genesis) (rows : Rows) (w : World) → opened count g rows ≡ Ok w → Holds FitsAll w
opened_fits count g rows w e = record {
  nodes = opened_numbered count g rows w e;
  all = All-weaker (HasChain w.rows) (FitsAll w.rows) (λ p h. record { first = chain_first w.rows p h; fits = h.chain.fits }) w.nodes (opened_has count g rows w e);
}

chain_has : (rows : Rows) (p : Node) → Stays rows p → FitsAll rows p → HasChain rows p
chain_has rows p h f = record {
  base = h.fold.base;
  chain = record {
    rows_are = h.are;
    count = chain_counted rows p.number p.genesis p.blocks h.are (chain_height p.genesis p.blocks (committed p) h.fold.folded).1;
    fits = f.fits;
    good = ap is_ok h.fold.folded;
  };
}

pub rows_are_of_blocks : RowsAreOfBlocks
rows_are_of_blocks g w good r may = (All-weaker (Stays w.rows) (λ p. AreRowsOf w.rows p.number p.genesis p.blocks) (λ p h. h.are) w.nodes stay, chains)
  where
    so : MayNot r.start r.events
    so = go may
      where
        go : IsUnresumed r.count r.events → MayNot r.start r.events
        go (inl plain) = inl plain
        go (inr few) = inr (let many = world_count r.count g r.rows r.start r.opened in let n = few.0 in omega (arith, many, n), few.1)

    stay : All (Stays w.rows) w.nodes
    stay = (rows_ran Stays (λ v es. Unit {0}) stays_same stays_others stays_restarts (λ v event es fit. (stays_commits v event, any_step (step v event))) r.start w r.events so tt r.after
        (opened_stays r.count g r.rows r.start r.opened)).all

    chains : RunFits r.start r.events → All (HasChain w.rows) w.nodes
    chains fit =
        let fits = (rows_ran FitsAll RunFits fits_same fits_others fits_restarts (λ v event es f. (fits_commits v event f.0, f.1)) r.start w r.events so fit r.after
        (opened_fits r.count g r.rows r.start r.opened)).all in
        λ n d lt. chain_has w.rows (get_or w.nodes n d) (stay n d lt) (fits n d lt)
