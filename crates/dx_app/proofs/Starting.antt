-- How an input ends its run, and the cause: its first line starts the nodes, and the lines behind it go on.
use Rattle.std.proofs.Common.{◌≡◌, ◌<◌, ◌≤◌, ℕ, zero, suc, Bool, true, false, cond, nat_lt, List, [], ◌∷◌, length, take, drop, slice_get, All, IsNone, is_some, Option, Some, None, Result, Ok, Err, IsOk, refl, sym, ap, subst, ◌∙◌, arith}
use Rattle.std.proofs.lemmas.List.Elements.{All-nil, All-cons, All-head, All-tail}
use Rattle.dx_types.specs.declared.Genesis.{Genesis}
use Rattle.dx_types.specs.declared.status.Status.{Status}
use Rattle.dx_types.specs.declared.status.Status.TheVariants as ends
use Rattle.dx_spec.specs.Step.{◌>>=◌}
use Rattle.dx_spec.proofs.Steps.{ok_same}
use Rattle.dx_io.specs.Rows.{Rows}
use Rattle.dx_codec.specs.Genesis.{digest_of}
use Rattle.dx_history.specs.Chains.{Unkept, BadAt, OtherGenesis}
use Rattle.dx_scenario.specs.Genesis.{genesis_of}
use Rattle.dx_cluster.specs.World.{World, opened}
use Rattle.dx_cluster.specs.Laws.{after}
use Rattle.dx_text.specs.Lines.{longest_line}
use Rattle.dx_app.specs.Transcript.{line_limit, unkept_status, or_bad, lines_told, started_told, genesis_told, genesis_in, scenario_told}
use Rattle.dx_app.specs.Causes.{wrong_place, fault_of, count_of, event_faults, line_faults, events_in, world_behind, AreStarted}
use Rattle.dx_app.proofs.Nodes.{opened_nodes}
use Rattle.dx_app.proofs.Endings.{LineUnkept, LinesCause, lines_only, done_there, bad_there, long_there, unkept_there}

-- a result of reading the first line
abbrev First : Type 0
First = Result (ℕ × Genesis) ℕ

-- the nodes of a genesis are started, or not
abbrev Opened : Type 0
Opened = Result World (ℕ × Unkept)

-- a run is done
pub record IsDone (rows : Rows) (ls : List (List ℕ)) (fs : List (Option ℕ)) : Type 0 where
  pub good : All IsNone fs
  pub few : length fs ≤ line_limit
  pub started : AreStarted rows ls

-- it ends at the first bad line
pub record IsBad (rows : Rows) (ls : List (List ℕ)) (fs : List (Option ℕ)) (line field : ℕ) : Type 0 where
  pub place : ℕ
  pub at : line ≡ suc place
  pub last : line ≤ line_limit
  pub bad : slice_get fs place ≡ Some (Some field)
  pub before : All IsNone (take place fs)
  pub started : AreStarted rows (take place ls)

-- it ends as too long
pub record IsOver (rows : Rows) (ls : List (List ℕ)) (fs : List (Option ℕ)) : Type 0 where
  pub before : All IsNone (take line_limit fs)
  pub more : line_limit < length fs
  pub started : AreStarted rows (take line_limit ls)

-- it ends at a node that is not started
pub record IsRefused (rows : Rows) (ls : List (List ℕ)) (fs : List (Option ℕ)) (g : Genesis) (u : ℕ × Unkept) : Type 0 where
  pub count : ℕ
  pub genesis : genesis_in ls ≡ Ok (count, g)
  pub place : ℕ
  pub few : place ≤ line_limit
  pub good : All IsNone (take place fs)
  pub refused : world_behind rows (count, g) (drop 1 (take place ls)) ≡ Err u

-- the cause of each status
abbrev pub Cause : Rows → List (List ℕ) → List (Option ℕ) → Status → Type 0
Cause rows ls fs ends.Done = IsDone rows ls fs
Cause rows ls fs (ends.BadLine line field) = IsBad rows ls fs line field
Cause rows ls fs ends.Usage = ⊥
Cause rows ls fs (ends.KeptBad node height) = (g : Genesis) × IsRefused rows ls fs g (node, BadAt height)
Cause rows ls fs (ends.KeptOther node theirs ours) = (g : Genesis) × IsRefused rows ls fs g (node, OtherGenesis theirs) × (ours ≡ digest_of g)
Cause rows ls fs ends.Long = IsOver rows ls fs
Cause rows ls fs ends.ReadFault = ⊥
Cause rows ls fs ends.WriteFault = ⊥
Cause rows ls fs ends.KeepFault = ⊥
Cause rows ls fs ends.NoMemory = ⊥

refused_cause : (rows : Rows) (ls : List (List ℕ)) (fs : List (Option ℕ)) (g : Genesis) (node : ℕ) (k : Unkept) → IsRefused rows ls fs g (node, k) → Cause rows ls fs (unkept_status (digest_of g) node k)
refused_cause rows ls fs g node (BadAt height) c = (g, c)
refused_cause rows ls fs g node (OtherGenesis theirs) c = (g, c, refl)

err_same : (a b : ℕ × Unkept) → ◌≡◌ {A = Opened} (Err a) (Err b) → a ≡ b
err_same a b e = cc

went_on : (w : World) (u : ℕ × Unkept) → ◌≡◌ {A = Opened} (Ok w) (Err u) → ⊥
went_on w u e = cc

-- no genesis
no_genesis : (place : ℕ) (first : ℕ × Genesis) → ◌≡◌ {A = First} (Err place) (Ok first) → ⊥
no_genesis place first e = cc

-- where there is no genesis, no node is to start
none_started : (rows : Rows) (ls : List (List ℕ)) (place : ℕ) → genesis_in ls ≡ Err place → AreStarted rows ls
none_started rows ls place e first same = absurd (no_genesis place first (sym e ∙ same))

nothing_started : (rows : Rows) → AreStarted rows []
nothing_started rows = none_started rows [] 0 refl

-- the world behind a first line whose nodes are started
behind_first : (rows : Rows) (first : ℕ × Genesis) (ls : List (List ℕ)) (o : Opened) → opened first.0 first.1 rows ≡ o → world_behind rows first ls ≡ (o >>= λ w. after w (events_in first.0 ls))
behind_first rows first ls o e = ap (λ (x : Opened). x >>= λ w. after w (events_in first.0 ls)) e

module _ (rows : Rows) (line : List ℕ) where
  -- the first line alone
  abbrev reading : First
  reading = genesis_in (line ∷ [])

  first_fault : (long : Bool) (r : First) → cond long (Some 0) (wrong_place r) ≡ wrong_place (cond long (Err 0) r)
  first_fault true r = refl
  first_fault false r = refl

  -- what is wrong in it is told by its reading
  fault_is : fault_of line (genesis_of line) ≡ wrong_place reading
  fault_is = first_fault (nat_lt longest_line (length line)) (genesis_of line)

  first_count : (long : Bool) (r : First) (first : ℕ × Genesis) → cond long (Err 0) r ≡ Ok first → count_of r ≡ first.0
  first_count true r first e = absurd (no_genesis 0 first e)
  first_count false (Err place) first e = absurd (no_genesis place first e)
  first_count false (Ok own) first e = ap (λ (x : ℕ × Genesis). x.0) (ok_same own first e)

  -- the faults behind a genesis are those of events of its nodes
  faults_are : (lines : List (List ℕ)) (tail : List ℕ) (first : ℕ × Genesis) → reading ≡ Ok first → line_faults (line ∷ lines) tail ≡ None ∷ event_faults first.0 lines tail
  faults_are lines tail first e =
      ap (λ f. f ∷ event_faults (count_of (genesis_of line)) lines tail) (fault_is ∙ ap wrong_place e)
      ∙ ap (λ k. None ∷ event_faults k lines tail) (first_count (nat_lt longest_line (length line)) (genesis_of line) first e)

  -- a run that ends at its first line
  bad_told : (lines : List (List ℕ)) (tail : List ℕ) (place : ℕ) → reading ≡ Err place → (scenario_told rows (line ∷ lines) tail).status ≡ ends.BadLine 1 place
  bad_told lines tail place e = ap (λ (r : First). (or_bad 1 rows r (λ first. genesis_told first rows (λ w. lines_told w 2 lines tail))).status) e

  -- one that reads its genesis
  opened_told : (lines : List (List ℕ)) (tail : List ℕ) (first : ℕ × Genesis) (o : Opened) → reading ≡ Ok first → opened first.0 first.1 rows ≡ o
      → (scenario_told rows (line ∷ lines) tail).status ≡ (started_told first.1 rows o (λ w. lines_told w 2 lines tail)).status
  opened_told lines tail first o e is =
      ap (λ (r : First). (or_bad 1 rows r (λ f. genesis_told f rows (λ w. lines_told w 2 lines tail))).status) e
      ∙ ap (λ (x : Opened). (started_told first.1 rows x (λ w. lines_told w 2 lines tail)).status) is

  module _ (first : ℕ × Genesis) (e : reading ≡ Ok first) (w : World) (o : opened first.0 first.1 rows ≡ Ok w) (ls : List (List ℕ)) where
    -- all nodes are started, and those that lines start again
    are_started : IsOk (after w (events_in first.0 ls)) → AreStarted rows (line ∷ ls)
    are_started ok own same =
        let all : IsOk (world_behind rows first ls) = subst (λ x. IsOk x) (sym (behind_first rows first ls (Ok w) o)) ok in
        subst (λ (f : ℕ × Genesis). IsOk (world_behind rows f ls)) (ok_same first own (sym e ∙ same)) all

    started_on : AreStarted rows (line ∷ ls) → IsOk (after w (events_in first.0 ls))
    started_on s = subst (λ x. IsOk x) (behind_first rows first ls (Ok w) o) (s first e)

-- what follows of a first line whose nodes are started
module _ (rows : Rows) (line : List ℕ) (lines : List (List ℕ)) (fs : List (Option ℕ)) (first : ℕ × Genesis) (e : genesis_in (line ∷ []) ≡ Ok first) (w : World) (o : opened first.0 first.1 rows ≡ Ok w) where
  all_good : (ks : List (Option ℕ)) → All IsNone ks → All IsNone (None ∷ ks)
  all_good ks h = All-cons IsNone None ks refl h

  refused_later : (u : ℕ × Unkept) → LineUnkept first.0 w 2 lines fs u → IsRefused rows (line ∷ lines) (None ∷ fs) first.1 u
  refused_later u c = record {
    count = first.0;
    genesis = e;
    place = suc c.place;
    few = omega (arith, c.few);
    good = all_good (take c.place fs) c.good;
    refused = behind_first rows first (take c.place lines) (Ok w) o ∙ c.refused;
  }

  cause_later : (s : Status) → LinesCause first.1 first.0 w 2 lines fs s → Cause rows (line ∷ lines) (None ∷ fs) s
  cause_later ends.Done c = record { good = all_good fs c.good; few = omega (arith, c.few); started = are_started rows line first e w o lines c.on }
  cause_later (ends.BadLine l field) c = record {
    place = suc c.place;
    at = omega (arith, c.at);
    last = c.last;
    bad = c.bad;
    before = all_good (take c.place fs) c.before;
    started = are_started rows line first e w o (take c.place lines) c.on;
  }
  cause_later ends.Usage c = c
  cause_later (ends.KeptBad node height) c = (first.1, refused_later (node, BadAt height) c)
  cause_later (ends.KeptOther node theirs ours) c = (first.1, refused_later (node, OtherGenesis theirs) c.0, c.1)
  cause_later ends.Long c =
      let limit : suc c.place ≡ line_limit = omega (arith, c.at) in
      record {
        before = subst (λ k. All IsNone (take k (None ∷ fs))) limit (all_good (take c.place fs) c.before);
        more = omega (arith, c.more, limit);
        started = subst (λ k. AreStarted rows (take k (line ∷ lines))) limit (are_started rows line first e w o (take c.place lines) c.on);
      }
  cause_later ends.ReadFault c = c
  cause_later ends.WriteFault c = c
  cause_later ends.KeepFault c = c
  cause_later ends.NoMemory c = c

-- what the first line comes to, and the lines behind it
module _ (rows : Rows) (line : List ℕ) (lines : List (List ℕ)) (tail : List ℕ) where
  abbrev Here : Status → Type 0
  Here s = Cause rows (line ∷ lines) (line_faults (line ∷ lines) tail) s

  start_only : (first : ℕ × Genesis) → genesis_in (line ∷ []) ≡ Ok first → (o : Opened) → opened first.0 first.1 rows ≡ o → Here (scenario_told rows (line ∷ lines) tail).status
  start_only first e (Ok w) is =
      subst Here (sym (opened_told rows line lines tail first (Ok w) e is))
      (subst (λ fs. Cause rows (line ∷ lines) fs (lines_told w 2 lines tail).status) (sym (faults_are rows line lines tail first e))
      (cause_later rows line lines (event_faults first.0 lines tail) first e w is (lines_told w 2 lines tail).status
      (lines_only first.1 first.0 w 2 lines tail (opened_nodes first.0 first.1 rows w is) (omega arith))))
  start_only first e (Err u) is =
      subst Here (sym (opened_told rows line lines tail first (Err u) e is))
      (refused_cause rows (line ∷ lines) (line_faults (line ∷ lines) tail) first.1 u.0 u.1
      (record { count = first.0; genesis = e; place = 0; few = omega arith; good = All-nil IsNone; refused = behind_first rows first [] (Err u) is }))

  first_only : (r : First) → genesis_in (line ∷ []) ≡ r → Here (scenario_told rows (line ∷ lines) tail).status
  first_only (Ok first) e = start_only first e (opened first.0 first.1 rows) refl
  first_only (Err place) e =
      subst Here (sym (bad_told rows line lines tail place e))
      (record { place = 0; at = refl; last = omega arith; bad = ap Some (fault_is rows line ∙ ap wrong_place e); before = All-nil IsNone; started = nothing_started rows })

-- each end of a run has its cause
pub run_only : (rows : Rows) (ls : List (List ℕ)) (tail : List ℕ) → Cause rows ls (line_faults ls tail) (scenario_told rows ls tail).status
run_only rows [] tail = record { place = 0; at = refl; last = omega arith; bad = refl; before = All-nil IsNone; started = nothing_started rows }
run_only rows (line ∷ lines) tail = first_only rows line lines tail (genesis_in (line ∷ [])) refl

-- a first line that is good is a genesis
genesis_read : (rows : Rows) (line : List ℕ) → IsNone (fault_of line (genesis_of line)) → (first : ℕ × Genesis) × (genesis_in (line ∷ []) ≡ Ok first)
genesis_read rows line good = go (genesis_in (line ∷ [])) refl
  where
    go : (r : First) → genesis_in (line ∷ []) ≡ r → (first : ℕ × Genesis) × (genesis_in (line ∷ []) ≡ Ok first)
    go (Ok first) e = (first, e)
    go (Err place) e = absurd (let h : true ≡ false = ap is_some (sym (fault_is rows line ∙ ap wrong_place e)) ∙ good in cc)

-- what is started is a world
world_started : (rows : Rows) (line : List ℕ) (ls : List (List ℕ)) (first : ℕ × Genesis) → genesis_in (line ∷ []) ≡ Ok first → AreStarted rows (line ∷ ls) → (w : World) × (opened first.0 first.1 rows ≡ Ok w)
world_started rows line ls first e s = go (opened first.0 first.1 rows) refl
  where
    go : (o : Opened) → opened first.0 first.1 rows ≡ o → (w : World) × (opened first.0 first.1 rows ≡ Ok w)
    go (Ok w) is = (w, is)
    go (Err u) is = absurd (let no : false ≡ true = subst (λ x. IsOk x) (behind_first rows first ls (Err u) is) (s first e) in cc)

-- a first line that is good, whose nodes are started
record Begins (rows : Rows) (line : List ℕ) : Type 0 where
  first : ℕ × Genesis
  read : genesis_in (line ∷ []) ≡ Ok first
  world : World
  is : opened first.0 first.1 rows ≡ Ok world

begins : (rows : Rows) (line : List ℕ) (ls : List (List ℕ)) → IsNone (fault_of line (genesis_of line)) → AreStarted rows (line ∷ ls) → Begins rows line
begins rows line ls good s =
    let f = genesis_read rows line good in
    let w = world_started rows line ls f.0 f.1 s in
    record { first = f.0; read = f.1; world = w.0; is = w.1 }

-- each cause has its end
pub done_run : (rows : Rows) (ls : List (List ℕ)) (tail : List ℕ) → IsDone rows ls (line_faults ls tail) → (scenario_told rows ls tail).status ≡ ends.Done
done_run rows [] tail c = absurd (let h : true ≡ false = All-head IsNone (Some 0) [] c.good in cc)
done_run rows (line ∷ lines) tail c =
    let b = begins rows line lines (All-head IsNone (fault_of line (genesis_of line)) (event_faults (count_of (genesis_of line)) lines tail) c.good) c.started in
    let fs = faults_are rows line lines tail b.first b.read in
    let good : All IsNone (None ∷ event_faults b.first.0 lines tail) = subst (All IsNone) fs c.good in
    let few : length (None ∷ event_faults b.first.0 lines tail) ≤ line_limit = subst (λ xs. length xs ≤ line_limit) fs c.few in
    opened_told rows line lines tail b.first (Ok b.world) b.read b.is
    ∙ done_there b.first.1 b.first.0 b.world 2 lines tail (opened_nodes b.first.0 b.first.1 rows b.world b.is)
    (record { good = All-tail IsNone None (event_faults b.first.0 lines tail) good; few = omega (arith, few); on = started_on rows line b.first b.read b.world b.is lines c.started })

pub bad_run : (rows : Rows) (ls : List (List ℕ)) (tail : List ℕ) (line field place : ℕ) → line ≡ suc place → line ≤ line_limit → slice_get (line_faults ls tail) place ≡ Some (Some field) → All IsNone (take place (line_faults ls tail))
    → AreStarted rows (take place ls) → (scenario_told rows ls tail).status ≡ ends.BadLine line field
bad_run rows [] tail line field zero at last bad before s =
    let first : 1 ≡ line = omega (arith, at) in
    let zeroth : 0 ≡ field = cc in
    ap (λ k. ends.BadLine k 0) first ∙ ap (ends.BadLine line) zeroth
bad_run rows [] tail line field (suc place) at last bad before s = absurd (cc)
bad_run rows (own ∷ lines) tail line field zero at last bad before s =
    let first : 1 ≡ line = omega (arith, at) in
    let wrong : fault_of own (genesis_of own) ≡ Some field = cc in
    go (genesis_in (own ∷ [])) refl (sym (fault_is rows own) ∙ wrong) ∙ ap (λ k. ends.BadLine k field) first
  where
    go : (r : First) → genesis_in (own ∷ []) ≡ r → wrong_place (genesis_in (own ∷ [])) ≡ Some field → (scenario_told rows (own ∷ lines) tail).status ≡ ends.BadLine 1 field
    go (Ok f) e wrong = absurd (let no : wrong_place (Ok f) ≡ Some field = ap wrong_place (sym e) ∙ wrong in cc)
    go (Err place) e wrong =
        let is : Some place ≡ Some field = ap wrong_place (sym e) ∙ wrong in
        let same : place ≡ field = cc in
        bad_told rows own lines tail place e ∙ ap (ends.BadLine 1) same
bad_run rows (own ∷ lines) tail line field (suc place) at last bad before s =
    let b = begins rows own (take place lines) (All-head IsNone (fault_of own (genesis_of own)) (take place (event_faults (count_of (genesis_of own)) lines tail)) before) s in
    let fs = faults_are rows own lines tail b.first b.read in
    let there : slice_get (None ∷ event_faults b.first.0 lines tail) (suc place) ≡ Some (Some field) = subst (λ xs. slice_get xs (suc place) ≡ Some (Some field)) fs bad in
    let good : All IsNone (take (suc place) (None ∷ event_faults b.first.0 lines tail)) = subst (λ xs. All IsNone (take (suc place) xs)) fs before in
    opened_told rows own lines tail b.first (Ok b.world) b.read b.is
    ∙ bad_there b.first.1 b.first.0 b.world 2 line field place lines tail (opened_nodes b.first.0 b.first.1 rows b.world b.is) (omega (arith, at)) last there
    (All-tail IsNone None (take place (event_faults b.first.0 lines tail)) good) (started_on rows own b.first b.read b.world b.is (take place lines) s)

-- so many lines are read at most, and there are more
long_by : (rows : Rows) (ls : List (List ℕ)) (tail : List ℕ) (place : ℕ) → suc place ≡ line_limit → All IsNone (take (suc place) (line_faults ls tail)) → suc place < length (line_faults ls tail) → AreStarted rows (take (suc place) ls)
    → (scenario_told rows ls tail).status ≡ ends.Long
long_by rows [] tail place at before more s = absurd (omega (arith, more))
long_by rows (line ∷ lines) tail place at before more s =
    let b = begins rows line (take place lines) (All-head IsNone (fault_of line (genesis_of line)) (take place (event_faults (count_of (genesis_of line)) lines tail)) before) s in
    let fs = faults_are rows line lines tail b.first b.read in
    let good : All IsNone (take (suc place) (None ∷ event_faults b.first.0 lines tail)) = subst (λ xs. All IsNone (take (suc place) xs)) fs before in
    let over : suc place < length (None ∷ event_faults b.first.0 lines tail) = subst (λ xs. suc place < length xs) fs more in
    opened_told rows line lines tail b.first (Ok b.world) b.read b.is
    ∙ long_there b.first.1 b.first.0 b.world 2 place lines tail (opened_nodes b.first.0 b.first.1 rows b.world b.is) (omega (arith, at))
    (All-tail IsNone None (take place (event_faults b.first.0 lines tail)) good) (omega (arith, over)) (started_on rows line b.first b.read b.world b.is (take place lines) s)

pub long_run : (rows : Rows) (ls : List (List ℕ)) (tail : List ℕ) → IsOver rows ls (line_faults ls tail) → (scenario_told rows ls tail).status ≡ ends.Long
long_run rows ls tail c =
    let limit : 1000000 ≡ suc 999999 = omega arith in
    long_by rows ls tail 999999 (sym limit) (subst (λ k. All IsNone (take k (line_faults ls tail))) limit c.before) (omega (arith, c.more)) (subst (λ k. AreStarted rows (take k ls)) limit c.started)

pub refused_run : (rows : Rows) (ls : List (List ℕ)) (tail : List ℕ) (g : Genesis) (u : ℕ × Unkept) (count place : ℕ) → genesis_in ls ≡ Ok (count, g) → place ≤ line_limit → All IsNone (take place (line_faults ls tail))
    → world_behind rows (count, g) (drop 1 (take place ls)) ≡ Err u → (scenario_told rows ls tail).status ≡ unkept_status (digest_of g) u.0 u.1
refused_run rows [] tail g u count place e few good refused = absurd (no_genesis 0 (count, g) e)
refused_run rows (line ∷ lines) tail g u count place e few good refused = go (opened count g rows) refl place few good refused
  where
    go : (o : Opened) → opened count g rows ≡ o → (place : ℕ) → place ≤ line_limit → All IsNone (take place (line_faults (line ∷ lines) tail)) → world_behind rows (count, g) (drop 1 (take place (line ∷ lines))) ≡ Err u
        → (scenario_told rows (line ∷ lines) tail).status ≡ unkept_status (digest_of g) u.0 u.1
    go (Err own) is place few good refused =
        let same : own ≡ u = err_same own u (sym (behind_first rows (count, g) (drop 1 (take place (line ∷ lines))) (Err own) is) ∙ refused) in
        opened_told rows line lines tail (count, g) (Err own) e is ∙ ap (λ (x : ℕ × Unkept). unkept_status (digest_of g) x.0 x.1) same
    go (Ok w) is zero few good refused = absurd (went_on w u (sym (behind_first rows (count, g) [] (Ok w) is) ∙ refused))
    go (Ok w) is (suc place) few good refused =
        let fs = faults_are rows line lines tail (count, g) e in
        let all : All IsNone (take (suc place) (None ∷ event_faults count lines tail)) = subst (λ xs. All IsNone (take (suc place) xs)) fs good in
        opened_told rows line lines tail (count, g) (Ok w) e is
        ∙ unkept_there g count w 2 place lines tail u (opened_nodes count g rows w is) (omega (arith, few)) (All-tail IsNone None (take place (event_faults count lines tail)) all)
        (sym (behind_first rows (count, g) (take place lines) (Ok w) is) ∙ refused)
