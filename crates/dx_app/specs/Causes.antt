-- When each status comes: what is wrong in the lines of an input, and how a run ends for it.
use Rattle.std.specs.Prelude.{◌≡◌, ℕ, ◌-◌, ◌<◌, ◌≤◌, ◌==◌, ◌⊎◌, nat_lt, if◌then◌else◌, IsTrue, List, [], ◌∷◌, ◌++◌, map, length, take, drop, slice_get, All, count_by, Option, Some, None, IsNone, option_map, Result, Ok, Err, IsOk}
use Rattle.dx_types.specs.declared.Genesis.{Genesis}
use Rattle.dx_types.specs.declared.status.Status.{Status}
use Rattle.dx_types.specs.declared.status.Status.TheVariants.{Done, NoMemory}
use Rattle.dx_io.specs.Rows.{Rows}
use Rattle.dx_codec.specs.Genesis.{digest_of}
use Rattle.dx_history.specs.Chains.{Unkept, BadAt, OtherGenesis}
use Rattle.dx_words.specs.declared.words.Job.{Job}
use Rattle.dx_words.specs.declared.words.Job.TheVariants.{Replay, SelfRun, Generate}
use Rattle.dx_words.specs.declared.words.Words.{Words}
use Rattle.dx_words.specs.Asked.{asked}
use Rattle.dx_spec.specs.Step.{◌>>=◌}
use Rattle.dx_scenario.specs.declared.event.Event.{Event}
use Rattle.dx_scenario.specs.Genesis.{genesis_of}
use Rattle.dx_scenario.specs.Events.{event_of}
use Rattle.dx_cluster.specs.World.{World, opened}
use Rattle.dx_cluster.specs.Laws.{after}
use Rattle.dx_text.specs.Lines.{newline, longest_line, cut}
use Rattle.dx_app.specs.Transcript.{Told, line_limit, genesis_in}
use Rattle.dx_app.specs.Runs.{is_fault, EndsAs}
use Rattle.dx_text.specs.Reading.{IsInput}

-- the place of what is wrong in a reading, if anything is
abbrev pub wrong_place : {A : Type 0} → Result A ℕ → Option ℕ
wrong_place (Ok x) = None
wrong_place (Err place) = Some place

-- the place of what is wrong in a line with its reading; a line that is too long is wrong at 0
abbrev pub fault_of : {A : Type 0} → List ℕ → Result A ℕ → Option ℕ
fault_of line reading = if nat_lt longest_line (length line) then Some 0 else wrong_place reading

-- the number of nodes of a genesis, 0 where it is none
abbrev pub count_of : Result (ℕ × Genesis) ℕ → ℕ
count_of (Ok first) = first.0
count_of (Err place) = 0

-- bytes without a newline are one line, which is wrong at 0
abbrev pub cut_fault : List ℕ → List (Option ℕ)
cut_fault [] = []
cut_fault (b ∷ bytes) = Some 0 ∷ []

-- for each line from the second on what is wrong in it, where it is to be an event of so many nodes
abbrev pub event_faults : ℕ → List (List ℕ) → List ℕ → List (Option ℕ)
event_faults nodes lines tail = map (λ line. fault_of line (event_of nodes line)) lines ++ cut_fault tail

-- for each line what is wrong in it: there has to be a first line, which is a genesis, and the others are events
abbrev pub line_faults : List (List ℕ) → List ℕ → List (Option ℕ)
line_faults [] tail = Some 0 ∷ []
line_faults (line ∷ lines) tail = fault_of line (genesis_of line) ∷ event_faults (count_of (genesis_of line)) lines tail

-- for each line of an input what is wrong in it
abbrev pub faults : List ℕ → List (Option ℕ)
faults input = line_faults (cut input).lines (cut input).tail

-- an event goes before others; a line that is none says nothing
abbrev pub with_event : Result Event ℕ → List Event → List Event
with_event (Ok event) events = event ∷ events
with_event (Err place) events = events

-- the events that lines say, in a scenario of so many nodes
abbrev pub events_in : ℕ → List (List ℕ) → List Event
events_in nodes [] = []
events_in nodes (line ∷ lines) = with_event (event_of nodes line) (events_in nodes lines)

-- the world behind a genesis line and the lines of events behind it, over kept rows; or the first node that is to start
-- from rows that are no chain of the genesis, and why
abbrev pub world_behind : Rows → ℕ × Genesis → List (List ℕ) → Result World (ℕ × Unkept)
world_behind rows first lines = opened first.0 first.1 rows >>= λ w. after w (events_in first.0 lines)

-- where the first of some lines is a genesis, its nodes are all started, and so is each node that the lines behind it start again
abbrev pub AreStarted : Rows → List (List ℕ) → Type 0
AreStarted rows lines = (first : ℕ × Genesis) → genesis_in lines ≡ Ok first → IsOk (world_behind rows first (drop 1 lines))

-- the first line is this genesis, and in front of any bad line this node is the first that is not started, for this cause
pub record IsUnkept (rows : Rows) (input : List ℕ) (g : Genesis) (node : ℕ) (unkept : Unkept) : Type 0 where
  pub count : ℕ
  pub genesis : genesis_in (cut input).lines ≡ Ok (count, g)
  -- so many lines are good, and no more than may be read
  pub lines : ℕ
  pub few : lines ≤ line_limit
  pub good : All IsNone (take lines (faults input))
  -- and the run does not go on behind the last of them
  pub refused : world_behind rows (count, g) (drop 1 (take lines (cut input).lines)) ≡ Err (node, unkept)

-- of the first node that is not started, at the first line or at a later one, the row at this height is the first bad one
abbrev pub IsKeptBad : Rows → List ℕ → ℕ → ℕ → Type 0
IsKeptBad rows input node height = (g : Genesis) × IsUnkept rows input g node (BadAt height)

-- the first line is a genesis with one digest, and the rows of the first node that is not started begin with another one
abbrev pub IsKeptOther : Rows → List ℕ → ℕ → List ℕ → List ℕ → Type 0
IsKeptOther rows input node theirs ours = (g : Genesis) × IsUnkept rows input g node (OtherGenesis theirs) × (ours ≡ digest_of g)

-- a good genesis line and then events, each with its newline, no more lines than may be read, and each node is started, at first and again
pub record IsGoodScenario (rows : Rows) (input : List ℕ) : Type 0 where
  pub good : All IsNone (faults input)
  pub few : length (faults input) ≤ line_limit
  pub started : AreStarted rows (cut input).lines

-- a line of this number is bad at this place, all lines before it are good, and each node that they start is started
pub record IsFirstBad (rows : Rows) (input : List ℕ) (line field : ℕ) : Type 0 where
  pub first : 1 ≤ line
  pub last : line ≤ line_limit
  pub bad : slice_get (faults input) (line - 1) ≡ Some (Some field)
  pub before : All IsNone (take (line - 1) (faults input))
  pub started : AreStarted rows (take (line - 1) (cut input).lines)

-- a byte follows so many newlines
pub record FollowsNewlines (newlines : ℕ) (input : List ℕ) : Type 0 where
  pub front : List ℕ
  pub rest : List ℕ
  pub joined : front ++ rest ≡ input
  pub count : count_by (λ b. b == newline) front ≡ newlines
  pub more : 0 < length rest

-- a byte follows the newline of the last line that may be read, all lines before it are good, and each node that they start is started
pub record IsTooLong (rows : Rows) (input : List ℕ) : Type 0 where
  pub follows : FollowsNewlines line_limit input
  pub before : All IsNone (take line_limit (faults input))
  pub started : AreStarted rows (take line_limit (cut input).lines)

-- the job that words ask for, if they are taken
abbrev pub job_asked : Option Words → Option Job
job_asked asked = option_map (λ w. w.job) asked

-- it is the replay of the input
abbrev pub IsReplay : Option Words → Type 0
IsReplay asked = job_asked asked ≡ Some Replay

-- it is a generated scenario, or the run of one
abbrev pub IsOwnRun : Option Words → Type 0
IsOwnRun asked = (job_asked asked ≡ Some SelfRun) ⊎ (job_asked asked ≡ Some Generate)

-- the words ask for the replay of the input
abbrev pub AskReplay : List (List ℕ) → Type 0
AskReplay words = IsReplay (asked words)

-- the words ask for a generated scenario, for its run, or for the replay of a good one
abbrev pub AskGoodRun : List (List ℕ) → Rows → List ℕ → Type 0
AskGoodRun words rows input = IsOwnRun (asked words) ⊎ (AskReplay words × IsGoodScenario rows input)

-- the source had left an input of a kind; where it does not tell what it had left, it may have been one
abbrev pub Had : Option (List ℕ) → (List ℕ → Type 0) → Type 0
Had left IsOfKind = (input : List ℕ) × IsInput left input × IsOfKind input

-- whatever the source had left, it was an input of a kind
abbrev pub HadSurely : Option (List ℕ) → (List ℕ → Type 0) → Type 0
HadSurely left IsOfKind = (input : List ℕ) → IsInput left input → IsOfKind input

-- a run ends so only for an input of a kind; and for each of them, unless the outside fails or memory is wanting
pub record ComesExactly (left : Option (List ℕ)) (result status : Status) (IsOfKind : List ℕ → Type 0) : Type 0 where
  pub only : result ≡ status → Had left IsOfKind
  pub there : HadSurely left IsOfKind → (result ≡ status) ⊎ IsTrue (is_fault result)

-- the run is done, and all that is told of the input is written and kept; or there was no memory
abbrev pub IsWhole : (List ℕ → Told) → Option (List ℕ) → Option (List ℕ) → Option (List ℕ) → Option Rows → Status → Type 0
IsWhole whole left written_before written rows_now status =
    ((status ≡ Done) × Had left (λ input. EndsAs written_before written rows_now (whole input) status)) ⊎ (status ≡ NoMemory)
