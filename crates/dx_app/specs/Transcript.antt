-- What the program writes and keeps for its words and its input, and how it ends.
use Rattle.std.specs.Prelude.{ℕ, suc, nat_lt, if◌then◌else◌, List, [], ◌∷◌, ◌++◌, length, slice_get, Option, Some, None, Result, Ok, Err}
use Rattle.std.specs.Option.{option_map_or}
use Rattle.std.specs.FinMap as map
use Rattle.std.specs.List.{concat, range_with_len}
use Rattle.sha2.specs.Sha256.{sha256}
use Rattle.dx_types.specs.declared.Genesis.{Genesis}
use Rattle.dx_types.specs.declared.status.Status.{Status}
use Rattle.dx_types.specs.declared.status.Status.TheVariants.{Done, BadLine, Usage, KeptBad, KeptOther, Long}
use Rattle.dx_io.specs.Rows.{Rows}
use Rattle.dx_codec.specs.Genesis.{digest_of}
use Rattle.dx_history.specs.Chains.{Unkept, BadAt, OtherGenesis}
use Rattle.dx_scenario.specs.Genesis.{genesis_of}
use Rattle.dx_scenario.specs.Events.{event_of}
use Rattle.dx_gen.specs.Texts.{scenario_lines}
use Rattle.dx_words.specs.declared.words.Job.{Job}
use Rattle.dx_words.specs.declared.words.Job.TheVariants.{Replay, SelfRun, Generate}
use Rattle.dx_words.specs.declared.words.Words.{Words}
use Rattle.dx_words.specs.Asked.{asked}
use Rattle.dx_streams.specs.Summaries.{summary_text}
use Rattle.dx_print.specs.declared.words.Word.TheVariants as words
use Rattle.dx_print.specs.declared.replies.Reply.{Reply}
use Rattle.dx_print.specs.Replies.{reply_line}
use Rattle.dx_print.specs.Statuses.{last_line}
use Rattle.dx_text.specs.Lines.{longest_line, cut}
use Rattle.dx_cluster.specs.World.{World, begun_all, opened, heights, Steps, step}

-- what is written, the status, and the rows that are kept then
pub record Told : Type 0 where
  pub bytes : List ℕ
  pub status : Status
  pub rows : Rows

-- the number of the last line that is read
abbrev pub line_limit : ℕ
line_limit = 1_000_000

-- a text is written before all else
abbrev pub told_after : List ℕ → Told → Told
told_after text t = record { bytes = text ++ t.bytes; status = t.status; rows = t.rows }

-- the run ends with a status, whose last line is written, and with these rows
abbrev pub ended : Status → Rows → Told
ended status rows = record { bytes = last_line status; status = status; rows = rows }

-- a line is bad at a place
abbrev pub bad_line : ℕ → ℕ → Rows → Told
bad_line n field rows = ended (BadLine n field) rows

-- behind the last newline nothing may follow
abbrev pub after_lines : ℕ → List ℕ → Rows → Told
after_lines n [] rows = ended Done rows
after_lines n (b ∷ bytes) rows = if nat_lt line_limit n then ended Long rows else bad_line n 0 rows

-- what is told of a line that is read, or its fault
abbrev pub or_bad : {A : Type 0} → ℕ → Rows → Result A ℕ → (A → Told) → Told
or_bad n rows (Err field) next = bad_line n field rows
or_bad n rows (Ok x) next = next x

-- how a run ends where the rows of a node are no chain of a genesis with a digest
abbrev pub unkept_status : List ℕ → ℕ → Unkept → Status
unkept_status digest node (BadAt height) = KeptBad node height
unkept_status digest node (OtherGenesis theirs) = KeptOther node theirs digest

-- the digest of the genesis of a node, if there is such a node
abbrev pub digest_at : World → ℕ → List ℕ
digest_at w node = option_map_or (λ p. digest_of p.genesis) (slice_get w.nodes node) []

-- an event is executed and its reply is written, and then what follows it; or the first row that is none of a node's
-- chain ends the run
abbrev pub event_told : World → ℕ → Steps → (World → Told) → Told
event_told w n (Ok done) next = told_after (reply_line n done.1) (next done.0)
event_told w n (Err unkept) next = ended (unkept_status (digest_at w unkept.0) unkept.0 unkept.1) w.rows

-- a line is read in a scenario of so many nodes, and then what follows it
abbrev pub line_told : World → ℕ → List ℕ → (World → Told) → Told
line_told w n line next = or_bad n w.rows (event_of (length w.nodes) line) (λ e. event_told w n (step w e) next)

-- the lines from the n-th on, and the bytes behind the last newline
unfoldable pub lines_told : World → ℕ → List (List ℕ) → List ℕ → Told
lines_told w n [] tail = after_lines n tail w.rows
lines_told w n (line ∷ lines) tail =
    if nat_lt line_limit n then ended Long w.rows
    else (if nat_lt longest_line (length line) then bad_line n 0 w.rows
    else line_told w n line (λ v. lines_told v (suc n) lines tail))

-- the rest of an input, from the n-th line on
abbrev pub rest_told : World → ℕ → List ℕ → Told
rest_told w n rest = lines_told w n (cut rest).lines (cut rest).tail

-- the reply to the first line
abbrev pub genesis_reply : World → Reply
genesis_reply w = record { word = words.Genesis; answer = heights w }

-- the nodes are started, and then what follows the first line; or the first node whose rows are no chain ends the run
abbrev pub started_told : Genesis → Rows → Result World (ℕ × Unkept) → (World → Told) → Told
started_told g rows (Err unkept) next = ended (unkept_status (digest_of g) unkept.0 unkept.1) (begun_all g rows (range_with_len 0 unkept.0))
started_told g rows (Ok w) next = told_after (reply_line 1 (genesis_reply w)) (next w)

-- the nodes of a genesis start from the kept rows
abbrev pub genesis_told : ℕ × Genesis → Rows → (World → Told) → Told
genesis_told first rows next = started_told first.1 rows (opened first.0 first.1 rows) next

-- the genesis of the first line, or the place of what is wrong in it; a line that is too long, or missing, is wrong at 0
abbrev pub genesis_in : List (List ℕ) → Result (ℕ × Genesis) ℕ
genesis_in [] = Err 0
genesis_in (line ∷ lines) = if nat_lt longest_line (length line) then Err 0 else genesis_of line

-- the first line is the genesis
abbrev pub scenario_told : Rows → List (List ℕ) → List ℕ → Told
scenario_told rows [] tail = bad_line 1 0 rows
scenario_told rows (line ∷ lines) tail =
    or_bad 1 rows (genesis_in (line ∷ lines)) (λ first. genesis_told first rows (λ w. lines_told w 2 lines tail))

-- what the run of a scenario over kept rows writes, its status, and what is kept then
abbrev pub scenario : Rows → List ℕ → Told
scenario rows input = scenario_told rows (cut input).lines (cut input).tail

-- what is told of whole lines alone, which need not be any
abbrev pub lines_alone : Rows → List ℕ → Told
lines_alone rows [] = ended Done rows
lines_alone rows (b ∷ bytes) = scenario rows (b ∷ bytes)

-- the bytes of a generated scenario
abbrev pub generated : ℕ → ℕ → List ℕ
generated seed events = concat (scenario_lines seed events)

-- a generated scenario is written, and nothing more is kept
abbrev pub generate_told : ℕ → ℕ → Rows → Told
generate_told seed events rows = record { bytes = generated seed events; status = Done; rows = rows }

-- the digest of what the run of a generated scenario over no rows writes
unfoldable pub run_digest : ℕ → ℕ → List ℕ
run_digest seed events = sha256 (scenario map.empty (generated seed events)).bytes

-- how many lines it has is written, and the digest of its run; nothing more is kept
abbrev pub self_told : ℕ → ℕ → Rows → Told
self_told seed events rows = record {
  bytes = summary_text (length (scenario_lines seed events)) (run_digest seed events);
  status = Done;
  rows = rows;
}

-- what is told of a job with a seed and so many orders
abbrev pub job_told : Job → ℕ → ℕ → Rows → List ℕ → Told
job_told Replay seed events rows input = scenario rows input
job_told SelfRun seed events rows input = self_told seed events rows
job_told Generate seed events rows input = generate_told seed events rows

-- what is told of what words ask for; words that are not taken end the run
abbrev pub asked_told : Option Words → Rows → List ℕ → Told
asked_told None rows input = ended Usage rows
asked_told (Some w) rows input = job_told w.job w.seed w.events rows input

-- what a run with these words writes for an input over kept rows, its status, and what is kept then
abbrev pub transcript : List (List ℕ) → Rows → List ℕ → Told
transcript words = asked_told (asked words)
