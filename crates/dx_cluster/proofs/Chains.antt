-- The rows of a node are just those of its blocks: when it starts, when it commits, and when others do.
use Rattle.std.proofs.Common.{◌≡◌, ◌<◌, ◌≤◌, ◌+◌, ◌==◌, ℕ, zero, suc, Bool, true, false, cond, List, [], ◌∷◌, ◌++◌, arith, refl, sym, ap, subst, ◌∙◌, Option, Some, None, Result, Ok, Err}
use Rattle.std.specs.Prelude.{is_some}
use Rattle.std.specs.List.{range_with_len}
use Rattle.std.specs.Ordering.{eq_by_cmp}
use Rattle.std.specs.FinMap.{get, insert, get-insert}
use Rattle.std.proofs.lemmas.Bool.{eqb-true}
use Rattle.std.proofs.lemmas.Bool.Decides.{nat_tests}
use Rattle.std.proofs.lemmas.List.Sums.{fold-append}
use Rattle.dx_types.specs.declared.Block.{Block}
use Rattle.dx_types.specs.declared.OrderId.{OrderId}
use Rattle.dx_types.specs.declared.Genesis.{Genesis}
use Rattle.dx_spec.specs.State.{State, genesis_state}
use Rattle.dx_spec.specs.Blocks.{fold_blocks}
use Rattle.dx_io.specs.declared.row_key.RowKey.{RowKey}
use Rattle.dx_io.specs.RowKeys.{row_cmp, row_total}
use Rattle.dx_io.specs.Rows.{Rows, row_count}
use Rattle.dx_codec.specs.Genesis.{digest_of}
use Rattle.dx_history.specs.Rows.{place_of}
use Rattle.dx_history.specs.Chains.{IsChain, kept, begun}
use Rattle.dx_history.proofs.Starting.{read_chain, other_chain, other_kept}
use Rattle.dx_history.proofs.Counting.{no_rows}
use Rattle.dx_node_spec.specs.Node.{Node, new_node}
use Rattle.dx_node_spec.specs.Commits.{adopted, commit, replay_next, placed_again, restarted, resumed}
use Rattle.dx_speculation.specs.Faithful.{SameBlocks}
use Rattle.dx_speculation.specs.NodeEvents.{Replaying}
use Rattle.dx_speculation.proofs.Roots.{other_events_keep_blocks}
use Rattle.dx_speculation.proofs.Outcomes.{committed_is}
use Rattle.dx_node.specs.Restarts.{BeginsRows}
use Rattle.dx_types.specs.declared.Bad.{Bad}
use Rattle.dx_cluster.specs.Acts.{commit_answer, commit_slot, started}
use Rattle.dx_cluster.specs.Snapshots.{gone_on}
use Rattle.dx_cluster.specs.World.{begun_all, HasFirst}
use Rattle.dx_cluster.specs.Laws.{HasChain}
use Rattle.dx_cluster.proofs.Living.{ok_of, list_keeps}

abbrev pub itself : (p : Node) → SameBlocks p p
itself p = record { number = refl; genesis = refl; base = refl; blocks = refl }

abbrev pub same_then : (p q r : Node) → SameBlocks p q → SameBlocks q r → SameBlocks p r
same_then p q r h k = record { number = k.number ∙ h.number; genesis = k.genesis ∙ h.genesis; base = k.base ∙ h.base; blocks = k.blocks ∙ h.blocks }

-- to place a list again leaves the blocks
pub placed_same : (p : Node) → SameBlocks p (placed_again p)
placed_same p = list_keeps (SameBlocks p) (λ x h. same_then p x (replay_next x).0 h (other_events_keep_blocks x Replaying tt).0) p (itself p)

-- the blocks that a node starts anew from are its own, from its genesis on
pub record StartsOver (p : Node) (blocks : List Block) (q : Node) : Type 0 where
  pub number : q.number ≡ p.number
  pub genesis : q.genesis ≡ p.genesis
  pub base : q.base ≡ genesis_state p.genesis
  pub blocks_are : q.blocks ≡ blocks

restarted_over : (p : Node) (blocks : List Block) → StartsOver p blocks (restarted p blocks)
unfolding restarted resumed
restarted_over p blocks = record { number = refl; genesis = refl; base = refl; blocks_are = refl }

pub started_over : (p : Node) (blocks : List Block) → StartsOver p blocks (started p blocks)
started_over p blocks =
    let h = restarted_over p blocks in
    let s = placed_same (restarted p blocks) in
    record { number = s.number ∙ h.number; genesis = s.genesis ∙ h.genesis; base = s.base ∙ h.base; blocks_are = s.blocks ∙ h.blocks_are }

-- a new node has its number and its genesis
pub new_root : (number : ℕ) (g : Genesis) → ((new_node number g).number ≡ number) × ((new_node number g).genesis ≡ g)
unfolding new_node
new_root number g = (refl, refl)

-- a chain of one node is that of another with the same number, genesis and blocks
pub chain_of : (rows : Rows) (n m : ℕ) (g k : Genesis) (bs cs : List Block) → m ≡ n → k ≡ g → cs ≡ bs → IsChain rows n g bs → IsChain rows m k cs
chain_of rows n m g k bs cs number genesis blocks h =
    subst (λ (x : ℕ). IsChain rows x k cs) (sym number)
    (subst (λ (x : Genesis). IsChain rows n x cs) (sym genesis) (subst (λ (xs : List Block). IsChain rows n g xs) (sym blocks) h))

pub started_has : (rows : Rows) (p : Node) (blocks : List Block) → IsChain rows p.number p.genesis blocks → HasChain rows (started p blocks)
started_has rows p blocks h =
    let s = started_over p blocks in
    record {
      base = s.base ∙ ap genesis_state (sym s.genesis);
      chain = chain_of rows p.number (started p blocks).number p.genesis (started p blocks).genesis blocks (started p blocks).blocks s.number s.genesis s.blocks_are h;
    }

pub new_started_has : (rows : Rows) (number : ℕ) (g : Genesis) (blocks : List Block) → IsChain rows number g blocks → HasChain rows (started (new_node number g) blocks)
new_started_has rows number g blocks h =
    let r = new_root number g in
    started_has rows (new_node number g) blocks (chain_of rows number (new_node number g).number g (new_node number g).genesis blocks blocks r.0 r.1 refl h)

-- the blocks of a chain are good
pub chain_folds : (rows : Rows) (node : ℕ) (g : Genesis) (bs : List Block) → kept g rows node ≡ Ok bs → (s : State) × (fold_blocks g bs ≡ Ok s)
chain_folds rows node g bs e = ok_of (fold_blocks g bs) (read_chain rows node g bs e).good

adopted_same : (p : Node) (b : Block) (s : State) (results : List ℕ) (triggered : List OrderId)
    → ((adopted p b s results triggered).number ≡ p.number) × ((adopted p b s results triggered).genesis ≡ p.genesis) × ((adopted p b s results triggered).base ≡ p.base) × ((adopted p b s results triggered).blocks ≡ p.blocks ++ b ∷ [])
unfolding adopted
adopted_same p b s results triggered = (refl, refl, refl, refl)

-- a node that has committed a block has it behind its others
pub record Grows (p : Node) (b : Block) (q : Node) : Type 0 where
  pub number : q.number ≡ p.number
  pub genesis : q.genesis ≡ p.genesis
  pub base : q.base ≡ p.base
  pub blocks : q.blocks ≡ p.blocks ++ b ∷ []

pub committed_grows : (p : Node) (b : Block) (q : Node × List ℕ) → commit p b ≡ Ok q → Grows p b (placed_again q.0)
committed_grows p b q e =
    let d = committed_is p b q e in
    let a = adopted_same p b d.0.0 d.0.1 d.0.2 in
    let s = placed_same q.0 in
    record {
      number = s.number ∙ ap (λ (x : Node). x.number) (sym d.2) ∙ a.0;
      genesis = s.genesis ∙ ap (λ (x : Node). x.genesis) (sym d.2) ∙ a.1;
      base = s.base ∙ ap (λ (x : Node). x.base) (sym d.2) ∙ a.2;
      blocks = s.blocks ∙ ap (λ (x : Node). x.blocks) (sym d.2) ∙ a.3;
    }

-- a commit leaves the number and the genesis of a node
commit_names : (p : Node) (b : Block) (r : Result (Node × List ℕ) Bad) → commit p b ≡ r → ((commit_answer p b r).0.number ≡ p.number) × ((commit_answer p b r).0.genesis ≡ p.genesis)
commit_names p b (Ok q) e = let g = committed_grows p b q e in (g.number, g.genesis)
commit_names p b (Err bad) e = (refl, refl)

pub committing_names : (o : Option Block) (p : Node) → ((commit_slot o p).0.number ≡ p.number) × ((commit_slot o p).0.genesis ≡ p.genesis)
committing_names None p = (refl, refl)
committing_names (Some b) p = commit_names p b (commit p b) refl

-- and so does a resume
pub resumed_names : (p : Node) (s : State) (blocks : List Block) → ((resumed p s blocks).number ≡ p.number) × ((resumed p s blocks).genesis ≡ p.genesis)
unfolding resumed
resumed_names p s blocks = (refl, refl)

-- a node that goes on from a state has the blocks behind it
pub record GoesOver (p : Node) (s : State) (blocks : List Block) (q : Node) : Type 0 where
  pub number : q.number ≡ p.number
  pub genesis : q.genesis ≡ p.genesis
  pub base : q.base ≡ s
  pub blocks_are : q.blocks ≡ blocks

resumed_over : (p : Node) (s : State) (blocks : List Block) → GoesOver p s blocks (resumed p s blocks)
unfolding resumed
resumed_over p s blocks = record { number = refl; genesis = refl; base = refl; blocks_are = refl }

pub gone_over : (p : Node) (s : State) (blocks : List Block) → GoesOver p s blocks (gone_on p s blocks)
gone_over p s blocks =
    let h = resumed_over p s blocks in
    let a = placed_same (resumed p s blocks) in
    record { number = a.number ∙ h.number; genesis = a.genesis ∙ h.genesis; base = a.base ∙ h.base; blocks_are = a.blocks ∙ h.blocks_are }

-- one number more behind others
pub range_split : (a i more : ℕ) → range_with_len a (i + suc more) ≡ range_with_len a i ++ (a + i) ∷ range_with_len (a + i + 1) more
range_split a zero more =
    let none : a ≡ a + 0 = omega arith in
    let all : 0 + suc more ≡ suc more = omega arith in
    ap (range_with_len a) all ∙ ap (λ (k : ℕ). k ∷ range_with_len (k + 1) more) none
range_split a (suc i) more =
    let all : suc i + suc more ≡ suc (i + suc more) = omega arith in
    let on : a + 1 + i ≡ a + suc i = omega arith in
    ap (range_with_len a) all ∙ ap (λ (xs : List ℕ). a ∷ xs) (range_split (a + 1) i more) ∙ ap (λ (k : ℕ). a ∷ (range_with_len (a + 1) i ++ k ∷ range_with_len (k + 1) more)) on

pub range_more : (i : ℕ) → range_with_len 0 (i + 1) ≡ range_with_len 0 i ++ i ∷ []
range_more i =
    let none : 0 + i ≡ i = omega arith in
    range_split 0 i 0 ∙ ap (λ (k : ℕ). range_with_len 0 i ++ k ∷ []) none

-- the rows behind one more start
pub begun_more : (g : Genesis) (rows : Rows) (i : ℕ) → begun_all g rows (range_with_len 0 (i + 1)) ≡ begun (begun_all g rows (range_with_len 0 i)) i g
begun_more g rows i = ap (begun_all g rows) (range_more i) ∙ fold-append (λ (before : Rows) (number : ℕ). begun before number g) rows (range_with_len 0 i) (i ∷ [])

-- what is kept of a node stays so behind the start of another
kept_begun : (g : Genesis) (rows : Rows) (i m : ℕ) (t : Bool) → (row_count rows i == 0) ≡ t → (m == i) ≡ false → kept g (begun rows i g) m ≡ kept g rows m
kept_begun g rows i m true e apart = ap (λ (b : Bool). kept g (cond b (insert rows (place_of i 0) (digest_of g)) rows) m) e ∙ other_kept rows i m 0 (digest_of g) g apart
kept_begun g rows i m false e apart = ap (λ (b : Bool). kept g (cond b (insert rows (place_of i 0) (digest_of g)) rows) m) e

apart_from : (m i : ℕ) → i < m → (m == i) ≡ false
apart_from m i h = grind (arith, nat_tests, h)

pub kept_behind : (g : Genesis) (rows : Rows) (i m : ℕ) → i ≤ m → kept g (begun_all g rows (range_with_len 0 i)) m ≡ kept g rows m
kept_behind g rows zero m h = refl
kept_behind g rows (suc i) m h =
    let one : suc i ≡ i + 1 = omega arith in
    let before = begun_all g rows (range_with_len 0 i) in
    ap (λ (n : ℕ). kept g (begun_all g rows (range_with_len 0 n)) m) one
    ∙ ap (λ (r : Rows). kept g r m) (begun_more g rows i)
    ∙ kept_begun g before i m (row_count before i == 0) refl (apart_from m i (omega (arith, h)))
    ∙ kept_behind g rows i m (omega (arith, h))

chain_begun : (g : Genesis) (rows : Rows) (i m : ℕ) (bs : List Block) (t : Bool) → (row_count rows i == 0) ≡ t → (m == i) ≡ false → IsChain rows m g bs → IsChain (begun rows i g) m g bs
chain_begun g rows i m bs true e apart h = subst (λ (b : Bool). IsChain (cond b (insert rows (place_of i 0) (digest_of g)) rows) m g bs) (sym e) (other_chain rows i m 0 (digest_of g) g bs apart h)
chain_begun g rows i m bs false e apart h = subst (λ (b : Bool). IsChain (cond b (insert rows (place_of i 0) (digest_of g)) rows) m g bs) (sym e) h

-- the last node that starts, or one before it
chain_next : (g : Genesis) (rows before : Rows) (i m : ℕ) (bs : List Block) (t : Bool) → (m == i) ≡ t → (m < i → IsChain before m g bs) → m < suc i
    → kept g before i ≡ kept g rows i → kept g rows m ≡ Ok bs → IsChain (begun before i g) m g bs
chain_next g rows before i m bs true k earlier h same e =
    let one : m ≡ i = eqb-true m i k in
    subst (λ (n : ℕ). IsChain (begun before i g) n g bs) (sym one) (read_chain before i g bs (same ∙ ap (kept g rows) (sym one) ∙ e))
chain_next g rows before i m bs false k earlier h same e = chain_begun g before i m bs (row_count before i == 0) refl k (earlier (smaller m i k h))
  where
    smaller : (m i : ℕ) → (m == i) ≡ false → m < suc i → m < i
    smaller m i k h = grind (arith, nat_tests, k, h)

-- the rows of a started node are those of its chain, whichever nodes start after it
pub chain_behind : (g : Genesis) (rows : Rows) (count m : ℕ) (bs : List Block) → m < count → kept g rows m ≡ Ok bs → IsChain (begun_all g rows (range_with_len 0 count)) m g bs
chain_behind g rows zero m bs h e = absurd (omega (arith, h))
chain_behind g rows (suc i) m bs h e =
    let one : suc i ≡ i + 1 = omega arith in
    let before = begun_all g rows (range_with_len 0 i) in
    let all : begun_all g rows (range_with_len 0 (suc i)) ≡ begun before i g = ap (λ (n : ℕ). begun_all g rows (range_with_len 0 n)) one ∙ begun_more g rows i in
    subst (λ (r : Rows). IsChain r m g bs) (sym all)
    (chain_next g rows before i m bs (m == i) refl (λ less. chain_behind g rows i m bs less e) h (kept_behind g rows i i (omega arith)) e)

-- a node whose rows are a chain has its first row
pub chain_first : (rows : Rows) (p : Node) → HasChain rows p → HasFirst rows p
chain_first rows p h = ap (λ (o : Option (List ℕ)). is_some o) (h.chain.rows_are 0)

-- a row that is set leaves each first row
pub first_stays : (rows : Rows) (key : RowKey) (bytes : List ℕ) (p : Node) → HasFirst rows p → HasFirst (insert rows key bytes) p
first_stays rows key bytes p h =
    let place = place_of p.number 0 in
    ap (λ (o : Option (List ℕ)). is_some o) (get-insert row_total rows key bytes place) ∙ either (eq_by_cmp row_cmp place key)
  where
    either : (t : Bool) → is_some (cond t (Some bytes) (get rows (place_of p.number 0))) ≡ true
    either true = refl
    either false = h

-- a node that has its first row sets none where it starts
pub first_begun : (rows : Rows) (p : Node) (g : Genesis) → HasFirst rows p → begun rows p.number g ≡ rows
first_begun rows p g h = go (row_count rows p.number == 0) refl
  where
    go : (t : Bool) → (row_count rows p.number == 0) ≡ t → cond t (insert rows (place_of p.number 0) (digest_of g)) rows ≡ rows
    go false e = refl
    go true e =
        let none : is_some (get rows (place_of p.number 0)) ≡ false = ap (λ (o : Option (List ℕ)). is_some o) (no_rows rows p.number (eqb-true (row_count rows p.number) 0 e) 0) in
        absurd (let i : true ≡ false = sym h ∙ none in cc)

-- the chain that a node with a first row starts anew from
pub own_chain : (rows : Rows) (p : Node) (blocks : List Block) → HasFirst rows p → kept p.genesis rows p.number ≡ Ok blocks → IsChain rows p.number p.genesis blocks
own_chain rows p blocks first e = subst (λ (r : Rows). IsChain r p.number p.genesis blocks) (first_begun rows p p.genesis first) (read_chain rows p.number p.genesis blocks e)

-- the rows behind a start
pub begins_are : (before after : Option Rows) (rows : Rows) (p : Node) → before ≡ Some rows → BeginsRows before after p → after ≡ Some (begun rows p.number p.genesis)
begins_are before after rows p e b = told after (subst (λ (o : Option Rows). BeginsRows o after p) e b)
  where
    told : (after : Option Rows) → BeginsRows (Some rows) after p → after ≡ Some (begun rows p.number p.genesis)
    told None b = absurd b
    told (Some now) b = ap Some b
