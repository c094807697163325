-- How a run ends, and its cause.
use Rattle.std.proofs.Common.{◌≡◌, ◌-◌, ◌⊎◌, ◌↔◌, inl, inr, ℕ, true, false, IsTrue, List, MatchBool, Option, Some, None, refl, sym, ap, subst, ◌∙◌, arith, lit<}
use Rattle.dx_types.specs.declared.status.Status.{Status}
use Rattle.dx_types.specs.declared.status.Status.TheVariants as ends
use Rattle.dx_io.specs.Rows.{Rows}
use Rattle.dx_history.specs.Chains.{BadAt, OtherGenesis}
use Rattle.dx_words.specs.declared.words.Job.{Job}
use Rattle.dx_words.specs.declared.words.Job.TheVariants as jobs
use Rattle.dx_words.specs.declared.words.Words.{Words}
use Rattle.dx_text.specs.Lines.{cut}
use Rattle.dx_text.specs.Output.{AppendsFront}
use Rattle.dx_app.specs.Transcript.{Told, line_limit, scenario, job_told, asked_told}
use Rattle.dx_app.specs.Runs.{is_fault, EndsAs, Says, IsRunOf}
use Rattle.dx_app.specs.Causes.{faults, IsGoodScenario, IsFirstBad, IsTooLong, IsKeptBad, IsKeptOther, IsReplay, IsOwnRun, HadSurely, ComesExactly, IsWhole}
use Rattle.dx_app.proofs.Starting.{Cause, run_only, done_run, bad_run, long_run, refused_run}
use Rattle.dx_app.proofs.Limits.{follows_limit}

-- the cause of how the run of an input ends
abbrev CauseOf : Rows → List ℕ → Status → Type 0
CauseOf rows input s = Cause rows (cut input).lines (faults input) s

ended_by : (rows : Rows) (input : List ℕ) (s : Status) → (scenario rows input).status ≡ s → CauseOf rows input s
ended_by rows input s e = subst (CauseOf rows input) e (run_only rows (cut input).lines (cut input).tail)

-- a run of lines is done exactly for a good scenario
good_law : (rows : Rows) (input : List ℕ) → ((scenario rows input).status ≡ ends.Done) ↔ IsGoodScenario rows input
good_law rows input = (
  λ e. let c = ended_by rows input ends.Done e in record { good = c.good; few = c.few; started = c.started },
  λ h. done_run rows (cut input).lines (cut input).tail (record { good = h.good; few = h.few; started = h.started }),
)

-- it ends at a bad line exactly where that is the first
bad_law : (rows : Rows) (line field : ℕ) (input : List ℕ) → ((scenario rows input).status ≡ ends.BadLine line field) ↔ IsFirstBad rows input line field
bad_law rows line field input = (
  λ e.
      let c = ended_by rows input (ends.BadLine line field) e in
      let place : line - 1 ≡ c.place = omega (arith, c.at) in
      record { first = omega (arith, c.at); last = c.last; bad = rw place c.bad; before = rw place c.before; started = rw place c.started },
  λ h. bad_run rows (cut input).lines (cut input).tail line field (line - 1) (omega (arith, h.first)) h.last h.bad h.before h.started,
)

-- it ends as too long exactly where a byte follows too many lines
long_law : (rows : Rows) (input : List ℕ) → ((scenario rows input).status ≡ ends.Long) ↔ IsTooLong rows input
long_law rows input = (
  λ e.
      let c = ended_by rows input ends.Long e in
      record { follows = (follows_limit line_limit input (lit< tt)).1 c.more; before = c.before; started = c.started },
  λ h. long_run rows (cut input).lines (cut input).tail (record { before = h.before; more = (follows_limit line_limit input (lit< tt)).0 h.follows; started = h.started }),
)

-- it ends for kept rows exactly where they are none of the genesis
bad_kept_law : (rows : Rows) (node height : ℕ) (input : List ℕ) → ((scenario rows input).status ≡ ends.KeptBad node height) ↔ IsKeptBad rows input node height
bad_kept_law rows node height input = (
  λ e.
      let c = ended_by rows input (ends.KeptBad node height) e in
      (c.0, record { count = c.1.count; genesis = c.1.genesis; lines = c.1.place; few = c.1.few; good = c.1.good; refused = c.1.refused }),
  λ h. refused_run rows (cut input).lines (cut input).tail h.0 (node, BadAt height) h.1.count h.1.lines h.1.genesis h.1.few h.1.good h.1.refused,
)

other_kept_law : (rows : Rows) (node : ℕ) (theirs ours : List ℕ) (input : List ℕ) → ((scenario rows input).status ≡ ends.KeptOther node theirs ours) ↔ IsKeptOther rows input node theirs ours
other_kept_law rows node theirs ours input = (
  λ e.
      let c = ended_by rows input (ends.KeptOther node theirs ours) e in
      (c.0, record { count = c.1.count; genesis = c.1.genesis; lines = c.1.place; few = c.1.few; good = c.1.good; refused = c.1.refused }, c.2),
  λ h.
      refused_run rows (cut input).lines (cut input).tail h.0 (node, OtherGenesis theirs) h.1.count h.1.lines h.1.genesis h.1.few h.1.good h.1.refused
      ∙ ap (ends.KeptOther node theirs) (sym h.2),
)

-- it never ends for its words
no_usage : (rows : Rows) (input : List ℕ) → (scenario rows input).status ≡ ends.Usage → ⊥
no_usage rows input e = ended_by rows input ends.Usage e

-- a status that is told of an input, where no fault ended the run
told_status : (before now : Option (List ℕ)) (k : Option Rows) (t : Told) (s : Status) → is_fault s ≡ false → Says before now k t s → s ≡ t.status
told_status before now k t s plain said = let told : EndsAs before now k t s = rw plain at said in told.1

told_or_fault : (before now : Option (List ℕ)) (k : Option Rows) (t : Told) (s : Status) → Says before now k t s → (s ≡ t.status) ⊎ IsTrue (is_fault s)
told_or_fault before now k t s said =
    elim (is_fault s) as (λ b. MatchBool b (AppendsFront before now t.bytes) (EndsAs before now k t s) → (s ≡ t.status) ⊎ IsTrue b) [
      | true ↦ λ _. inr refl
      | false ↦ λ told. inl told.1
    ] said

module _ (whole : List ℕ → Told) (left before now : Option (List ℕ)) (k : Option Rows) (s : Status) (r : IsRunOf whole left before now k s) where
  -- a status comes exactly by the kind of input of which it is told
  comes_by : (IsOfKind : List ℕ → Type 0) (status : Status) → is_fault status ≡ false → ((input : List ℕ) → ((whole input).status ≡ status) ↔ IsOfKind input) → ComesExactly left s status IsOfKind
  comes_by IsOfKind status plain law = record {
    only = λ e. (r.input, r.is, (law r.input).0 (sym (told_status before now k (whole r.input) s (ap is_fault e ∙ plain) r.said) ∙ e));
    there = λ surely.
        elim (told_or_fault before now k (whole r.input) s r.said) [
          | inl told ↦ inl (told ∙ (law r.input).1 (surely r.input r.is))
          | inr fault ↦ inr fault
        ];
  }

  -- a status that is told of no input never comes
  never_by : (status : Status) → is_fault status ≡ false → ((input : List ℕ) → (whole input).status ≡ status → ⊥) → s ≡ status → ⊥
  never_by status plain law e = law r.input (sym (told_status before now k (whole r.input) s (ap is_fault e ∙ plain) r.said) ∙ e)

-- where the told status is another, no fault ended the run, and it is done, it is that of the input
done_or_memory : (s : Status) (ReadRose WriteRose KeepRose : Type 0) → (s ≡ ends.ReadFault → ReadRose) → (s ≡ ends.WriteFault → WriteRose) → (s ≡ ends.KeepFault → KeepRose) → ¬ ReadRose → ¬ WriteRose → ¬ KeepRose
    → IsTrue (is_fault s) → s ≡ ends.NoMemory
done_or_memory ends.ReadFault R W K read write keep r w k f = absurd (r (read refl))
done_or_memory ends.WriteFault R W K read write keep r w k f = absurd (w (write refl))
done_or_memory ends.KeepFault R W K read write keep r w k f = absurd (k (keep refl))
done_or_memory ends.NoMemory R W K read write keep r w k f = refl
done_or_memory ends.Done R W K read write keep r w k f = absurd (cc)
done_or_memory (ends.BadLine line field) R W K read write keep r w k f = absurd (cc)
done_or_memory ends.Usage R W K read write keep r w k f = absurd (cc)
done_or_memory (ends.KeptBad node height) R W K read write keep r w k f = absurd (cc)
done_or_memory (ends.KeptOther node theirs ours) R W K read write keep r w k f = absurd (cc)
done_or_memory ends.Long R W K read write keep r w k f = absurd (cc)

-- a run whose every input is told to be done is done, or there was no memory, where no count rose
whole_by : (whole : List ℕ → Told) (left before now : Option (List ℕ)) (k : Option Rows) (s : Status) (ReadRose WriteRose KeepRose : Type 0) → IsRunOf whole left before now k s
    → (s ≡ ends.ReadFault → ReadRose) → (s ≡ ends.WriteFault → WriteRose) → (s ≡ ends.KeepFault → KeepRose) → HadSurely left (λ input. (whole input).status ≡ ends.Done)
    → ¬ ReadRose → ¬ WriteRose → ¬ KeepRose → IsWhole whole left before now k s
whole_by whole left before now k s R W K run read write keep surely r w q =
    elim (told_or_fault before now k (whole run.input) s run.said) [
      | inl told ↦ let done : s ≡ ends.Done = told ∙ surely run.input run.is in inl (done, (run.input, run.is, (let all : EndsAs before now k (whole run.input) s = rw (ap is_fault done) at run.said in all)))
      | inr fault ↦ inr (done_or_memory s R W K read write keep r w q fault)
    ]

module _ (rows : Rows) (left before now : Option (List ℕ)) (k : Option Rows) (s : Status) (r : IsRunOf (scenario rows) left before now k s) where
  -- a run of lines: each status by its cause
  pub lines_good : ComesExactly left s ends.Done (IsGoodScenario rows)
  lines_good = comes_by (scenario rows) left before now k s r (IsGoodScenario rows) ends.Done refl (good_law rows)

  pub lines_bad : (line field : ℕ) → ComesExactly left s (ends.BadLine line field) (λ input. IsFirstBad rows input line field)
  lines_bad line field = comes_by (scenario rows) left before now k s r (λ input. IsFirstBad rows input line field) (ends.BadLine line field) refl (bad_law rows line field)

  pub lines_long : ComesExactly left s ends.Long (IsTooLong rows)
  lines_long = comes_by (scenario rows) left before now k s r (IsTooLong rows) ends.Long refl (long_law rows)

  pub lines_kept_bad : (node height : ℕ) → ComesExactly left s (ends.KeptBad node height) (λ input. IsKeptBad rows input node height)
  lines_kept_bad node height = comes_by (scenario rows) left before now k s r (λ input. IsKeptBad rows input node height) (ends.KeptBad node height) refl (bad_kept_law rows node height)

  pub lines_kept_other : (node : ℕ) (theirs ours : List ℕ) → ComesExactly left s (ends.KeptOther node theirs ours) (λ input. IsKeptOther rows input node theirs ours)
  lines_kept_other node theirs ours = comes_by (scenario rows) left before now k s r (λ input. IsKeptOther rows input node theirs ours) (ends.KeptOther node theirs ours) refl (other_kept_law rows node theirs ours)

  pub lines_no_usage : s ≡ ends.Usage → ⊥
  lines_no_usage e = never_by (scenario rows) left before now k s r ends.Usage refl (no_usage rows) e

  pub lines_whole : (ReadRose WriteRose KeepRose : Type 0) → (s ≡ ends.ReadFault → ReadRose) → (s ≡ ends.WriteFault → WriteRose) → (s ≡ ends.KeepFault → KeepRose)
      → HadSurely left (IsGoodScenario rows) → ¬ ReadRose → ¬ WriteRose → ¬ KeepRose → IsWhole (scenario rows) left before now k s
  lines_whole R W K read write keep surely calm quiet still = whole_by (scenario rows) left before now k s R W K r read write keep (λ input is. (good_law rows input).1 (surely input is)) calm quiet still

-- there is no job
abbrev no_job : Option Job
no_job = None

-- a run that replays its input ends as its lines say, and no other run ends so
job_law : (j : Job) (seed events : ℕ) (rows : Rows) (status : Status) (IsOfKind : List ℕ → Type 0) → (ends.Done ≡ status → ⊥) → ((input : List ℕ) → ((scenario rows input).status ≡ status) ↔ IsOfKind input)
    → (input : List ℕ) → ((job_told j seed events rows input).status ≡ status) ↔ ((Some j ≡ Some jobs.Replay) × IsOfKind input)
job_law jobs.Replay seed events rows status IsOfKind undone law input = (λ e. (refl, (law input).0 e), λ both. (law input).1 both.1)
job_law jobs.SelfRun seed events rows status IsOfKind undone law input = (λ e. absurd (undone e), λ both. let no : Some jobs.SelfRun ≡ Some jobs.Replay = both.0 in absurd (cc))
job_law jobs.Generate seed events rows status IsOfKind undone law input = (λ e. absurd (undone e), λ both. let no : Some jobs.Generate ≡ Some jobs.Replay = both.0 in absurd (cc))

asked_law : (asked : Option Words) (rows : Rows) (status : Status) (IsOfKind : List ℕ → Type 0) → (ends.Usage ≡ status → ⊥) → (ends.Done ≡ status → ⊥) → ((input : List ℕ) → ((scenario rows input).status ≡ status) ↔ IsOfKind input)
    → (input : List ℕ) → ((asked_told asked rows input).status ≡ status) ↔ (IsReplay asked × IsOfKind input)
asked_law None rows status IsOfKind other undone law input = (λ e. absurd (other e), λ both. let no : no_job ≡ Some jobs.Replay = both.0 in absurd (cc))
asked_law (Some w) rows status IsOfKind other undone law input = job_law w.job w.seed w.events rows status IsOfKind undone law input

-- a run is done exactly where a generated scenario is asked for, or the replay of a good one
job_good : (j : Job) (seed events : ℕ) (rows : Rows) (input : List ℕ)
    → ((job_told j seed events rows input).status ≡ ends.Done) ↔ (((Some j ≡ Some jobs.SelfRun) ⊎ (Some j ≡ Some jobs.Generate)) ⊎ ((Some j ≡ Some jobs.Replay) × IsGoodScenario rows input))
job_good jobs.Replay seed events rows input = (
  λ e. inr (refl, (good_law rows input).0 e),
  λ h. elim h [
    | inl (inl own) ↦ let no : Some jobs.Replay ≡ Some jobs.SelfRun = own in absurd (cc)
    | inl (inr own) ↦ let no : Some jobs.Replay ≡ Some jobs.Generate = own in absurd (cc)
    | inr both ↦ (good_law rows input).1 both.1
  ],
)
job_good jobs.SelfRun seed events rows input = (λ e. inl (inl refl), λ h. refl)
job_good jobs.Generate seed events rows input = (λ e. inl (inr refl), λ h. refl)

asked_good : (asked : Option Words) (rows : Rows) (input : List ℕ) → ((asked_told asked rows input).status ≡ ends.Done) ↔ (IsOwnRun asked ⊎ (IsReplay asked × IsGoodScenario rows input))
asked_good None rows input = (
  λ e. absurd (cc),
  λ h. elim h [
    | inl (inl own) ↦ let no : no_job ≡ Some jobs.SelfRun = own in absurd (cc)
    | inl (inr own) ↦ let no : no_job ≡ Some jobs.Generate = own in absurd (cc)
    | inr both ↦ let no : no_job ≡ Some jobs.Replay = both.0 in absurd (cc)
  ],
)
asked_good (Some w) rows input = job_good w.job w.seed w.events rows input

-- it ends for its words exactly where they are not taken
job_usage : (j : Job) (seed events : ℕ) (rows : Rows) (input : List ℕ) → (job_told j seed events rows input).status ≡ ends.Usage → ⊥
job_usage jobs.Replay seed events rows input e = no_usage rows input e
job_usage jobs.SelfRun seed events rows input e = cc
job_usage jobs.Generate seed events rows input e = cc

asked_usage : (asked : Option Words) (rows : Rows) (input : List ℕ) → ((asked_told asked rows input).status ≡ ends.Usage) ↔ (asked ≡ None)
asked_usage None rows input = (λ e. refl, λ e. refl)
asked_usage (Some w) rows input = (λ e. absurd (job_usage w.job w.seed w.events rows input e), λ e. let no : Some w ≡ None = e in absurd (cc))

module _ (asked : Option Words) (rows : Rows) (left before now : Option (List ℕ)) (k : Option Rows) (s : Status) (r : IsRunOf (asked_told asked rows) left before now k s) where
  replay_by : (IsOfKind : List ℕ → Type 0) (status : Status) → is_fault status ≡ false → (ends.Usage ≡ status → ⊥) → (ends.Done ≡ status → ⊥) → ((input : List ℕ) → ((scenario rows input).status ≡ status) ↔ IsOfKind input)
      → ComesExactly left s status (λ input. IsReplay asked × IsOfKind input)
  replay_by IsOfKind status plain other undone law = comes_by (asked_told asked rows) left before now k s r (λ input. IsReplay asked × IsOfKind input) status plain (asked_law asked rows status IsOfKind other undone law)

  pub run_good : ComesExactly left s ends.Done (λ input. IsOwnRun asked ⊎ (IsReplay asked × IsGoodScenario rows input))
  run_good = comes_by (asked_told asked rows) left before now k s r (λ input. IsOwnRun asked ⊎ (IsReplay asked × IsGoodScenario rows input)) ends.Done refl (asked_good asked rows)

  pub run_bad : (line field : ℕ) → ComesExactly left s (ends.BadLine line field) (λ input. IsReplay asked × IsFirstBad rows input line field)
  run_bad line field = replay_by (λ input. IsFirstBad rows input line field) (ends.BadLine line field) refl (λ e. cc) (λ e. cc) (bad_law rows line field)

  pub run_long : ComesExactly left s ends.Long (λ input. IsReplay asked × IsTooLong rows input)
  run_long = replay_by (IsTooLong rows) ends.Long refl (λ e. cc) (λ e. cc) (long_law rows)

  pub run_kept_bad : (node height : ℕ) → ComesExactly left s (ends.KeptBad node height) (λ input. IsReplay asked × IsKeptBad rows input node height)
  run_kept_bad node height = replay_by (λ input. IsKeptBad rows input node height) (ends.KeptBad node height) refl (λ e. cc) (λ e. cc) (bad_kept_law rows node height)

  pub run_kept_other : (node : ℕ) (theirs ours : List ℕ) → ComesExactly left s (ends.KeptOther node theirs ours) (λ input. IsReplay asked × IsKeptOther rows input node theirs ours)
  run_kept_other node theirs ours = replay_by (λ input. IsKeptOther rows input node theirs ours) (ends.KeptOther node theirs ours) refl (λ e. cc) (λ e. cc) (other_kept_law rows node theirs ours)

  pub run_usage : ComesExactly left s ends.Usage (λ input. asked ≡ None)
  run_usage = comes_by (asked_told asked rows) left before now k s r (λ input. asked ≡ None) ends.Usage refl (asked_usage asked rows)

  pub run_whole : (ReadRose WriteRose KeepRose : Type 0) → (s ≡ ends.ReadFault → ReadRose) → (s ≡ ends.WriteFault → WriteRose) → (s ≡ ends.KeepFault → KeepRose)
      → HadSurely left (λ input. IsOwnRun asked ⊎ (IsReplay asked × IsGoodScenario rows input)) → ¬ ReadRose → ¬ WriteRose → ¬ KeepRose → IsWhole (asked_told asked rows) left before now k s
  run_whole R W K read write keep surely calm quiet still =
      whole_by (asked_told asked rows) left before now k s R W K r read write keep (λ input is. (asked_good asked rows input).1 (surely input is)) calm quiet still
