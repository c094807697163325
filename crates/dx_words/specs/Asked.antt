-- What the program's words ask for.
use Rattle.std.specs.Prelude.{◌≡◌, ◌<◌, ◌⊎◌, ℕ, length, true, ◌&&◌, ◌^◌, nat_lt, if◌then◌else◌, List, [], ◌∷◌, Option, Some, None, option_map, option_and_then, codes}
use Rattle.std.specs.Str.{bytes_eq}
use Rattle.std.specs.Str.Parse.{digits_value, without_leading_plus}
use Rattle.clap.specs.Words.{App, Kinds, Row, Rule, Text, first_of, fault_of, matches_of, new_app, new_rule, one_of, with_rule}
use Rattle.clap.specs.Simple.{on_top}
use Rattle.clap.specs.ValueTests.{is_numeral}
use Rattle.clap.specs.declared.builder.action.ArgAction.TheVariants.{Set}
use Rattle.clap.specs.declared.builder.value_parser.ValueParser.TheVariants as parsers
use Rattle.dx_words.specs.declared.words.Job.{Job}
use Rattle.dx_words.specs.declared.words.Job.TheVariants.{Replay, SelfRun, Generate}
use Rattle.dx_words.specs.declared.words.Words.{Words}

-- the job, as a text
abbrev pub job_rule : Rule
job_rule = record (new_rule (codes "job")) { long = Some (codes "job"); action = Some Set; defaults = codes "replay" ∷ [] }

-- the seed, from 0 to 2^63 − 1
abbrev pub seed_rule : Rule
seed_rule = record (new_rule (codes "seed")) {
  long = Some (codes "seed");
  action = Some Set;
  defaults = codes "1" ∷ [];
  parser = Some (parsers.Unsigned 0 9_223_372_036_854_775_807);
}

-- the number of orders, from 1 to 100,000
abbrev pub events_rule : Rule
events_rule = record (new_rule (codes "events")) {
  long = Some (codes "events");
  action = Some Set;
  defaults = codes "420" ∷ [];
  parser = Some (parsers.Unsigned 1 100_000);
}

-- one command without subcommands and with these three options; the words begin behind the program's name
unfoldable pub perpnode : App
perpnode =
    with_rule (with_rule (with_rule (on_top (λ s. record s { no_binary_name = true }) (new_app (codes "perpnode"))) job_rule) seed_rule)
    events_rule

-- the job that a text names
abbrev pub job_named : Text → Option Job
job_named text =
    if bytes_eq text (codes "replay") then Some Replay
    else (if bytes_eq text (codes "selfrun") then Some SelfRun else (if bytes_eq text (codes "generate") then Some Generate else None))

-- the number of so many bits that a text writes
abbrev pub number_in : ℕ → Text → Option ℕ
number_in bits text =
    let digits = without_leading_plus text in
    if is_numeral digits && nat_lt (digits_value 10 digits) (2 ^ bits) then Some (digits_value 10 digits) else None

-- what the matches of the three options say
abbrev pub job_of : List Row → Option Job
job_of rows = option_and_then job_named (first_of (codes "job") rows)

abbrev pub seed_of : List Row → Option ℕ
seed_of rows = option_and_then (number_in 64) (one_of (codes "seed") rows)

abbrev pub events_of : List Row → Option ℕ
events_of rows = option_and_then (number_in 32) (one_of (codes "events") rows)

-- what the command's matches ask for
unfoldable pub words_in : List Row → Option Words
words_in rows =
    option_and_then (λ job.
    option_and_then (λ seed.
    option_map (λ events. record { job = job; seed = seed; events = events }) (events_of rows)) (seed_of rows)) (job_of rows)

-- what is asked for, unless the command refuses the words by some kind
abbrev pub unless_refused : Kinds → Option Words → Option Words
unless_refused [] words = words
unless_refused (kind ∷ kinds) words = None

-- what the words ask for, where the command takes them
unfoldable pub asked : List Text → Option Words
asked words = unless_refused (fault_of perpnode words) (words_in (matches_of perpnode words))

-- the command refuses the words by some kind, or it takes them and no job has the name that they give
unfoldable pub IsRefused : List Text → Type 0
IsRefused words = (0 < length (fault_of perpnode words)) ⊎ (job_of (matches_of perpnode words) ≡ None)
