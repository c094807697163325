-- How the lines from the second on end a run, and the cause.
use Rattle.std.proofs.Common.{◌≡◌, ◌<◌, ◌≤◌, ◌+◌, inl, inr, ◌⊎◌, ℕ, zero, suc, Bool, true, false, cond, nat_lt, List, [], ◌∷◌, length, take, slice_get, All, IsNone, is_some, Option, Some, None, Result, Ok, Err, IsOk, refl, sym, ap, subst, ◌∙◌, arith}
use Rattle.std.proofs.lemmas.Bool.{le-ltb, lt-ltb, cases_lt}
use Rattle.std.proofs.lemmas.List.Elements.{All-nil, All-cons, All-head, All-tail}
use Rattle.dx_types.specs.declared.Genesis.{Genesis}
use Rattle.dx_types.specs.declared.status.Status.{Status}
use Rattle.dx_types.specs.declared.status.Status.TheVariants as ends
use Rattle.dx_spec.specs.Step.{◌>>=◌}
use Rattle.dx_codec.specs.Genesis.{digest_of}
use Rattle.dx_history.specs.Chains.{Unkept, BadAt, OtherGenesis}
use Rattle.dx_scenario.specs.declared.event.Event.{Event}
use Rattle.dx_scenario.specs.Events.{event_of}
use Rattle.dx_print.specs.declared.replies.Reply.{Reply}
use Rattle.dx_cluster.specs.World.{World, Steps, step}
use Rattle.dx_cluster.specs.Laws.{after}
use Rattle.dx_text.specs.Lines.{longest_line}
use Rattle.dx_app.specs.Transcript.{Told, line_limit, unkept_status, or_bad, event_told, line_told, lines_told}
use Rattle.dx_app.specs.Causes.{wrong_place, fault_of, event_faults, with_event, events_in}
use Rattle.dx_app.proofs.Nodes.{HasNodes, step_nodes, digest_ours}

-- what is wrong in a line that is to be an event of so many nodes
abbrev pub own_fault : ℕ → List ℕ → Option ℕ
own_fault count line = fault_of line (event_of count line)

-- the place that is told of a line is the one where it is wrong
line_fault : {A : Type 0} (long : Bool) (reading : Result A ℕ) → IsNone (cond long (Some 0) (wrong_place reading)) → (long ≡ false) × (x : A) × (reading ≡ Ok x)
line_fault true reading h = absurd (let k : true ≡ false = h in cc)
line_fault false (Err place) h = absurd (let k : true ≡ false = h in cc)
line_fault false (Ok x) h = (refl, x, refl)

-- a line past the limit ends a run
over_line : (w : World) (n : ℕ) (line : List ℕ) (lines : List (List ℕ)) (tail : List ℕ) → line_limit < n → (lines_told w n (line ∷ lines) tail).status ≡ ends.Long
unfolding lines_told
over_line w n line lines tail h = rw (lt-ltb line_limit n h) refl

over_tail : (w : World) (n b : ℕ) (bytes : List ℕ) → line_limit < n → (lines_told w n [] (b ∷ bytes)).status ≡ ends.Long
unfolding lines_told
over_tail w n b bytes h = rw (lt-ltb line_limit n h) refl

-- and so do bytes without a newline
bad_tail : (w : World) (n b : ℕ) (bytes : List ℕ) → n ≤ line_limit → (lines_told w n [] (b ∷ bytes)).status ≡ ends.BadLine n 0
unfolding lines_told
bad_tail w n b bytes h = rw (le-ltb line_limit n h) refl

at_end : (w : World) (n : ℕ) → (lines_told w n [] []).status ≡ ends.Done
unfolding lines_told
at_end w n = refl

long_line : (w : World) (n : ℕ) (line : List ℕ) (lines : List (List ℕ)) (tail : List ℕ) → n ≤ line_limit → nat_lt longest_line (length line) ≡ true → (lines_told w n (line ∷ lines) tail).status ≡ ends.BadLine n 0
unfolding lines_told
long_line w n line lines tail few long = rw (le-ltb line_limit n few, long) refl

-- what is told of a line that is read
read_line : (w : World) (n : ℕ) (line : List ℕ) (lines : List (List ℕ)) (tail : List ℕ) → n ≤ line_limit → nat_lt longest_line (length line) ≡ false → lines_told w n (line ∷ lines) tail ≡ line_told w n line (λ v. lines_told v (suc n) lines tail)
unfolding lines_told
read_line w n line lines tail few short = rw (le-ltb line_limit n few, short) refl

module _ (g : Genesis) (count : ℕ) (w : World) (n : ℕ) (h : HasNodes g count w) (few : n ≤ line_limit) (line : List ℕ) where
  line_is : (lines : List (List ℕ)) (tail : List ℕ) (r : Result Event ℕ) → nat_lt longest_line (length line) ≡ false → event_of count line ≡ r
      → (lines_told w n (line ∷ lines) tail).status ≡ (or_bad n w.rows r (λ e. event_told w n (step w e) (λ v. lines_told v (suc n) lines tail))).status
  line_is lines tail r short read =
      ap (λ (t : Told). t.status) (read_line w n line lines tail few short)
      ∙ ap (λ k. (or_bad n w.rows (event_of k line) (λ e. event_told w n (step w e) (λ v. lines_told v (suc n) lines tail))).status) h.many
      ∙ ap (λ q. (or_bad n w.rows q (λ e. event_told w n (step w e) (λ v. lines_told v (suc n) lines tail))).status) read

  -- a line that is wrong ends the run
  wrong_line : (lines : List (List ℕ)) (tail : List ℕ) (field : ℕ) → fault_of line (event_of count line) ≡ Some field → (lines_told w n (line ∷ lines) tail).status ≡ ends.BadLine n field
  wrong_line lines tail field e = go (nat_lt longest_line (length line)) (event_of count line) refl refl e
    where
      go : (long : Bool) (r : Result Event ℕ) → nat_lt longest_line (length line) ≡ long → event_of count line ≡ r → cond long (Some 0) (wrong_place r) ≡ Some field → (lines_told w n (line ∷ lines) tail).status ≡ ends.BadLine n field
      go true r long read e = let zeroth : 0 ≡ field = cc in long_line w n line lines tail few long ∙ ap (ends.BadLine n) zeroth
      go false (Err place) short read e = let same : place ≡ field = cc in line_is lines tail (Err place) short read ∙ ap (ends.BadLine n) same
      go false (Ok x) short read e = absurd (cc)

  -- an event ends it
  unkept_line : (lines : List (List ℕ)) (tail : List ℕ) (e : Event) (u : ℕ × Unkept) → nat_lt longest_line (length line) ≡ false → event_of count line ≡ Ok e → step w e ≡ Err u
      → (lines_told w n (line ∷ lines) tail).status ≡ unkept_status (digest_of g) u.0 u.1
  unkept_line lines tail e u short read k =
      line_is lines tail (Ok e) short read ∙ ap (λ (s : Steps). (event_told w n s (λ v. lines_told v (suc n) lines tail)).status) k
      ∙ ap (λ d. unkept_status d u.0 u.1) (digest_ours g count w e u h k)

  -- a line is an event behind which the run goes on
  record Passes (r : World × Reply) : Type 0 where
    short : nat_lt longest_line (length line) ≡ false
    event : Event
    read : event_of count line ≡ Ok event
    is : step w event ≡ Ok r

  passes_told : (lines : List (List ℕ)) (tail : List ℕ) (r : World × Reply) → Passes r → (lines_told w n (line ∷ lines) tail).status ≡ (lines_told r.0 (suc n) lines tail).status
  passes_told lines tail r p = line_is lines tail (Ok p.event) p.short p.read ∙ ap (λ (s : Steps). (event_told w n s (λ v. lines_told v (suc n) lines tail)).status) p.is

  passes_good : (r : World × Reply) → Passes r → IsNone (fault_of line (event_of count line))
  passes_good r p = rw (p.short, p.read) refl

  event_behind : (ls : List (List ℕ)) (e : Event) (s : Steps) → event_of count line ≡ Ok e → step w e ≡ s → after w (events_in count (line ∷ ls)) ≡ (s >>= λ r. after r.0 (events_in count ls))
  event_behind ls e s read is = ap (λ x. after w (with_event x (events_in count ls))) read ∙ ap (λ (x : Steps). x >>= λ r. after r.0 (events_in count ls)) is

  passes_behind : (ls : List (List ℕ)) (r : World × Reply) → Passes r → after w (events_in count (line ∷ ls)) ≡ after r.0 (events_in count ls)
  passes_behind ls r p = event_behind ls p.event (Ok r) p.read p.is

  passes_nodes : (r : World × Reply) → Passes r → HasNodes g count r.0
  passes_nodes r p = step_nodes g count w p.event r p.is h

  -- a good line goes on, or its event ends the run
  record Stops (u : ℕ × Unkept) : Type 0 where
    short : nat_lt longest_line (length line) ≡ false
    event : Event
    read : event_of count line ≡ Ok event
    is : step w event ≡ Err u

  good_line : IsNone (fault_of line (event_of count line)) → ((r : World × Reply) × Passes r) ⊎ ((u : ℕ × Unkept) × Stops u)
  good_line good =
      let f = line_fault (nat_lt longest_line (length line)) (event_of count line) good in
      go f.0 f.1 f.2 (step w f.1) refl
    where
      go : nat_lt longest_line (length line) ≡ false → (e : Event) → event_of count line ≡ Ok e → (s : Steps) → step w e ≡ s → ((r : World × Reply) × Passes r) ⊎ ((u : ℕ × Unkept) × Stops u)
      go short e read (Ok r) is = inl (r, record { short = short; event = e; read = read; is = is })
      go short e read (Err u) is = inr (u, record { short = short; event = e; read = read; is = is })

  stops_behind : (ls : List (List ℕ)) (u : ℕ × Unkept) → Stops u → after w (events_in count (line ∷ ls)) ≡ Err u
  stops_behind ls u p = event_behind ls p.event (Err u) p.read p.is

  -- a good line behind which the world is known goes on
  passing : (ls : List (List ℕ)) → IsNone (fault_of line (event_of count line)) → IsOk (after w (events_in count (line ∷ ls))) → (r : World × Reply) × Passes r × IsOk (after r.0 (events_in count ls))
  passing ls good ok = elim (good_line good) [
    | inl goes ↦ (goes.0, goes.1, subst (λ x. IsOk x) (passes_behind ls goes.0 goes.1) ok)
    | inr ends ↦ absurd (let no : false ≡ true = subst (λ x. IsOk x) (stops_behind ls ends.0 ends.1) ok in cc)
  ]

-- a run of the lines from the n-th on is done
pub record LinesDone (count : ℕ) (w : World) (n : ℕ) (lines : List (List ℕ)) (fs : List (Option ℕ)) : Type 0 where
  pub good : All IsNone fs
  pub few : n + length fs ≤ suc line_limit
  pub on : IsOk (after w (events_in count lines))

-- it ends at the first bad line
pub record LineBad (count : ℕ) (w : World) (n : ℕ) (lines : List (List ℕ)) (fs : List (Option ℕ)) (line field : ℕ) : Type 0 where
  pub place : ℕ
  pub at : line ≡ n + place
  pub last : line ≤ line_limit
  pub bad : slice_get fs place ≡ Some (Some field)
  pub before : All IsNone (take place fs)
  pub on : IsOk (after w (events_in count (take place lines)))

-- it ends as too long
pub record LinesLong (count : ℕ) (w : World) (n : ℕ) (lines : List (List ℕ)) (fs : List (Option ℕ)) : Type 0 where
  pub place : ℕ
  pub at : n + place ≡ suc line_limit
  pub before : All IsNone (take place fs)
  pub more : place < length fs
  pub on : IsOk (after w (events_in count (take place lines)))

-- it ends at a node that is not started again
pub record LineUnkept (count : ℕ) (w : World) (n : ℕ) (lines : List (List ℕ)) (fs : List (Option ℕ)) (u : ℕ × Unkept) : Type 0 where
  pub place : ℕ
  pub few : n + place ≤ suc line_limit
  pub good : All IsNone (take place fs)
  pub refused : after w (events_in count (take place lines)) ≡ Err u

-- the cause of each status
abbrev pub LinesCause : Genesis → ℕ → World → ℕ → List (List ℕ) → List (Option ℕ) → Status → Type 0
LinesCause g count w n lines fs ends.Done = LinesDone count w n lines fs
LinesCause g count w n lines fs (ends.BadLine line field) = LineBad count w n lines fs line field
LinesCause g count w n lines fs ends.Usage = ⊥
LinesCause g count w n lines fs (ends.KeptBad node height) = LineUnkept count w n lines fs (node, BadAt height)
LinesCause g count w n lines fs (ends.KeptOther node theirs ours) = LineUnkept count w n lines fs (node, OtherGenesis theirs) × (ours ≡ digest_of g)
LinesCause g count w n lines fs ends.Long = LinesLong count w n lines fs
LinesCause g count w n lines fs ends.ReadFault = ⊥
LinesCause g count w n lines fs ends.WriteFault = ⊥
LinesCause g count w n lines fs ends.KeepFault = ⊥
LinesCause g count w n lines fs ends.NoMemory = ⊥

unkept_cause : (g : Genesis) (count : ℕ) (w : World) (n : ℕ) (lines : List (List ℕ)) (fs : List (Option ℕ)) (node : ℕ) (k : Unkept) → LineUnkept count w n lines fs (node, k) → LinesCause g count w n lines fs (unkept_status (digest_of g) node k)
unkept_cause g count w n lines fs node (BadAt height) c = c
unkept_cause g count w n lines fs node (OtherGenesis theirs) c = (c, refl)

-- what follows a line that goes on
module _ (g : Genesis) (count : ℕ) (w : World) (n : ℕ) (h : HasNodes g count w) (few : n ≤ line_limit) (line : List ℕ) (r : World × Reply) (p : Passes g count w n h few line r) (lines : List (List ℕ)) (fs : List (Option ℕ)) where
  abbrev own : Option ℕ
  own = fault_of line (event_of count line)

  good_next : (ks : List (Option ℕ)) → All IsNone ks → All IsNone (own ∷ ks)
  good_next ks good = All-cons IsNone own ks (passes_good g count w n h few line r p) good

  on_next : (ls : List (List ℕ)) → IsOk (after r.0 (events_in count ls)) → IsOk (after w (events_in count (line ∷ ls)))
  on_next ls ok = subst (λ x. IsOk x) (sym (passes_behind g count w n h few line ls r p)) ok

  unkept_next : (u : ℕ × Unkept) → LineUnkept count r.0 (suc n) lines fs u → LineUnkept count w n (line ∷ lines) (own ∷ fs) u
  unkept_next u c = record {
    place = suc c.place;
    few = omega (arith, c.few);
    good = good_next (take c.place fs) c.good;
    refused = passes_behind g count w n h few line (take c.place lines) r p ∙ c.refused;
  }

  cause_next : (s : Status) → LinesCause g count r.0 (suc n) lines fs s → LinesCause g count w n (line ∷ lines) (own ∷ fs) s
  cause_next ends.Done c = record { good = good_next fs c.good; few = omega (arith, c.few); on = on_next lines c.on }
  cause_next (ends.BadLine l field) c = record {
    place = suc c.place;
    at = omega (arith, c.at);
    last = c.last;
    bad = c.bad;
    before = good_next (take c.place fs) c.before;
    on = on_next (take c.place lines) c.on;
  }
  cause_next ends.Usage c = c
  cause_next (ends.KeptBad node height) c = unkept_next (node, BadAt height) c
  cause_next (ends.KeptOther node theirs ours) c = (unkept_next (node, OtherGenesis theirs) c.0, c.1)
  cause_next ends.Long c = record {
    place = suc c.place;
    at = omega (arith, c.at);
    before = good_next (take c.place fs) c.before;
    more = omega (arith, c.more);
    on = on_next (take c.place lines) c.on;
  }
  cause_next ends.ReadFault c = c
  cause_next ends.WriteFault c = c
  cause_next ends.KeepFault c = c
  cause_next ends.NoMemory c = c

bad_here : (count : ℕ) (w : World) (n field : ℕ) (lines : List (List ℕ)) (f : Option ℕ) (fs : List (Option ℕ)) → n ≤ line_limit → f ≡ Some field → LineBad count w n lines (f ∷ fs) n field
bad_here count w n field lines f fs few e = record { place = 0; at = omega arith; last = few; bad = ap Some e; before = All-nil IsNone; on = refl }

long_here : (count : ℕ) (w : World) (n : ℕ) (lines : List (List ℕ)) (f : Option ℕ) (fs : List (Option ℕ)) → line_limit < n → n ≤ suc line_limit → LinesLong count w n lines (f ∷ fs)
long_here count w n lines f fs over most = record { place = 0; at = omega (arith, over, most); before = All-nil IsNone; more = omega arith; on = refl }

-- what one line comes to, and the lines behind it
module _ (g : Genesis) (count : ℕ) (w : World) (n : ℕ) (h : HasNodes g count w) (few : n ≤ line_limit) (line : List ℕ) (lines : List (List ℕ)) (tail : List ℕ) where
  -- what is wrong in the lines from this one on
  abbrev faults_here : List (Option ℕ)
  faults_here = fault_of line (event_of count line) ∷ event_faults count lines tail

  abbrev Here : Status → Type 0
  Here s = LinesCause g count w n (line ∷ lines) faults_here s

  stop_only : (u : ℕ × Unkept) → Stops g count w n h few line u → IsNone (fault_of line (event_of count line)) → Here (lines_told w n (line ∷ lines) tail).status
  stop_only u p good =
      subst Here (sym (unkept_line g count w n h few line lines tail p.event u p.short p.read p.is))
      (unkept_cause g count w n (line ∷ lines) faults_here u.0 u.1
      (record { place = 1; few = omega (arith, few); good = All-cons IsNone (own_fault count line) [] good (All-nil IsNone); refused = stops_behind g count w n h few line [] u p }))

  line_only : ((r : World × Reply) → Passes g count w n h few line r → LinesCause g count r.0 (suc n) lines (event_faults count lines tail) (lines_told r.0 (suc n) lines tail).status)
      → (f : Option ℕ) → fault_of line (event_of count line) ≡ f → Here (lines_told w n (line ∷ lines) tail).status
  line_only on (Some field) e =
      subst Here (sym (wrong_line g count w n h few line lines tail field e)) (bad_here count w n field (line ∷ lines) (fault_of line (event_of count line)) (event_faults count lines tail) few e)
  line_only on None e =
      let good : IsNone (fault_of line (event_of count line)) = ap is_some e in
      elim (good_line g count w n h few line good) [
        | inl goes ↦
            subst Here (sym (passes_told g count w n h few line lines tail goes.0 goes.1))
            (cause_next g count w n h few line goes.0 goes.1 lines (event_faults count lines tail) (lines_told goes.0.0 (suc n) lines tail).status (on goes.0 goes.1))
        | inr stop ↦ stop_only stop.0 stop.1 good
      ]

-- each end of a run has its cause
pub lines_only : (g : Genesis) (count : ℕ) (w : World) (n : ℕ) (lines : List (List ℕ)) (tail : List ℕ) → HasNodes g count w → n ≤ suc line_limit → LinesCause g count w n lines (event_faults count lines tail) (lines_told w n lines tail).status
lines_only g count w n [] [] h most = subst (LinesCause g count w n [] []) (sym (at_end w n)) (record { good = All-nil IsNone; few = omega (arith, most); on = refl })
lines_only g count w n [] (b ∷ bytes) h most =
    elim (cases_lt line_limit n) [
      | inl over ↦ subst (LinesCause g count w n [] (Some 0 ∷ [])) (sym (over_tail w n b bytes over)) (long_here count w n [] (Some 0) [] over most)
      | inr few ↦ subst (LinesCause g count w n [] (Some 0 ∷ [])) (sym (bad_tail w n b bytes few)) (bad_here count w n 0 [] (Some 0) [] few refl)
    ]
lines_only g count w n (line ∷ lines) tail h most =
    elim (cases_lt line_limit n) [
      | inl over ↦
          subst (LinesCause g count w n (line ∷ lines) (fault_of line (event_of count line) ∷ event_faults count lines tail)) (sym (over_line w n line lines tail over))
          (long_here count w n (line ∷ lines) (fault_of line (event_of count line)) (event_faults count lines tail) over most)
      | inr few ↦
          line_only g count w n h few line lines tail (λ r p. lines_only g count r.0 (suc n) lines tail (passes_nodes g count w n h few line r p) (omega (arith, few))) (fault_of line (event_of count line)) refl
    ]

-- a wrong line is not good
not_good : (field : ℕ) (fs : List (Option ℕ)) → All IsNone (Some field ∷ fs) → ⊥
not_good field fs good = let h : true ≡ false = All-head IsNone (Some field) fs good in cc

-- and each cause its end: all lines are good, and the run goes on behind them
pub done_there : (g : Genesis) (count : ℕ) (w : World) (n : ℕ) (lines : List (List ℕ)) (tail : List ℕ) → HasNodes g count w → LinesDone count w n lines (event_faults count lines tail) → (lines_told w n lines tail).status ≡ ends.Done
done_there g count w n [] [] h c = at_end w n
done_there g count w n [] (b ∷ bytes) h c = absurd (not_good 0 [] c.good)
done_there g count w n (line ∷ lines) tail h c =
    let few : n ≤ line_limit = omega (arith, c.few) in
    let p = passing g count w n h few line lines (All-head IsNone (own_fault count line) (event_faults count lines tail) c.good) c.on in
    passes_told g count w n h few line lines tail p.0 p.1
    ∙ done_there g count p.0.0 (suc n) lines tail (passes_nodes g count w n h few line p.0 p.1) (record { good = All-tail IsNone (own_fault count line) (event_faults count lines tail) c.good; few = omega (arith, c.few); on = p.2 })

-- the first bad line is at this place
pub bad_there : (g : Genesis) (count : ℕ) (w : World) (n line field place : ℕ) (lines : List (List ℕ)) (tail : List ℕ) → HasNodes g count w → line ≡ n + place → line ≤ line_limit
    → slice_get (event_faults count lines tail) place ≡ Some (Some field) → All IsNone (take place (event_faults count lines tail)) → IsOk (after w (events_in count (take place lines))) → (lines_told w n lines tail).status ≡ ends.BadLine line field
bad_there g count w n line field place [] [] h at last bad before on = absurd (cc)
bad_there g count w n line field zero [] (b ∷ bytes) h at last bad before on =
    let same : n ≡ line = omega (arith, at) in
    let zeroth : 0 ≡ field = cc in
    bad_tail w n b bytes (omega (arith, at, last)) ∙ ap (λ k. ends.BadLine k 0) same ∙ ap (ends.BadLine line) zeroth
bad_there g count w n line field (suc place) [] (b ∷ bytes) h at last bad before on = absurd (cc)
bad_there g count w n line field zero (own ∷ lines) tail h at last bad before on =
    let same : n ≡ line = omega (arith, at) in
    let wrong : fault_of own (event_of count own) ≡ Some field = cc in
    wrong_line g count w n h (omega (arith, at, last)) own lines tail field wrong ∙ ap (λ k. ends.BadLine k field) same
bad_there g count w n line field (suc place) (own ∷ lines) tail h at last bad before on =
    let few : n ≤ line_limit = omega (arith, at, last) in
    let p = passing g count w n h few own (take place lines) (All-head IsNone (own_fault count own) (take place (event_faults count lines tail)) before) on in
    passes_told g count w n h few own lines tail p.0 p.1
    ∙ bad_there g count p.0.0 (suc n) line field place lines tail (passes_nodes g count w n h few own p.0 p.1) (omega (arith, at)) last bad (All-tail IsNone (own_fault count own) (take place (event_faults count lines tail)) before) p.2

-- there is a line past the limit, and the run goes on up to it
pub long_there : (g : Genesis) (count : ℕ) (w : World) (n place : ℕ) (lines : List (List ℕ)) (tail : List ℕ) → HasNodes g count w → n + place ≡ suc line_limit
    → All IsNone (take place (event_faults count lines tail)) → place < length (event_faults count lines tail) → IsOk (after w (events_in count (take place lines))) → (lines_told w n lines tail).status ≡ ends.Long
long_there g count w n place [] [] h at before more on = absurd (omega (arith, more))
long_there g count w n zero [] (b ∷ bytes) h at before more on = over_tail w n b bytes (omega (arith, at))
long_there g count w n (suc place) [] (b ∷ bytes) h at before more on = absurd (omega (arith, more))
long_there g count w n zero (line ∷ lines) tail h at before more on = over_line w n line lines tail (omega (arith, at))
long_there g count w n (suc place) (line ∷ lines) tail h at before more on =
    let few : n ≤ line_limit = omega (arith, at) in
    let p = passing g count w n h few line (take place lines) (All-head IsNone (own_fault count line) (take place (event_faults count lines tail)) before) on in
    passes_told g count w n h few line lines tail p.0 p.1
    ∙ long_there g count p.0.0 (suc n) place lines tail (passes_nodes g count w n h few line p.0 p.1) (omega (arith, at)) (All-tail IsNone (own_fault count line) (take place (event_faults count lines tail)) before) (omega (arith, more)) p.2

-- a world is no end
went_on : (w : World) (u : ℕ × Unkept) → ◌≡◌ {A = Result World (ℕ × Unkept)} (Ok w) (Err u) → ⊥
went_on w u e = cc

same_end : (a b : ℕ × Unkept) → ◌≡◌ {A = Result World (ℕ × Unkept)} (Err a) (Err b) → a ≡ b
same_end a b e = cc

-- so many lines are good, and the run does not go on behind them
pub unkept_there : (g : Genesis) (count : ℕ) (w : World) (n place : ℕ) (lines : List (List ℕ)) (tail : List ℕ) (u : ℕ × Unkept) → HasNodes g count w → n + place ≤ suc line_limit
    → All IsNone (take place (event_faults count lines tail)) → after w (events_in count (take place lines)) ≡ Err u → (lines_told w n lines tail).status ≡ unkept_status (digest_of g) u.0 u.1
unkept_there g count w n zero lines tail u h most good e = absurd (went_on w u e)
unkept_there g count w n (suc place) [] tail u h most good e = absurd (went_on w u e)
unkept_there g count w n (suc place) (line ∷ lines) tail u h most good e =
    let few : n ≤ line_limit = omega (arith, most) in
    elim (good_line g count w n h few line (All-head IsNone (own_fault count line) (take place (event_faults count lines tail)) good)) [
      | inl goes ↦
          passes_told g count w n h few line lines tail goes.0 goes.1
          ∙ unkept_there g count goes.0.0 (suc n) place lines tail u (passes_nodes g count w n h few line goes.0 goes.1) (omega (arith, most)) (All-tail IsNone (own_fault count line) (take place (event_faults count lines tail)) good)
          (sym (passes_behind g count w n h few line (take place lines) goes.0 goes.1) ∙ e)
      | inr stop ↦
          let same : stop.0 ≡ u = same_end stop.0 u (sym (stops_behind g count w n h few line (take place lines) stop.0 stop.1) ∙ e) in
          unkept_line g count w n h few line lines tail stop.1.event stop.0 stop.1.short stop.1.read stop.1.is ∙ ap (λ (x : ℕ × Unkept). unkept_status (digest_of g) x.0 x.1) same
    ]
