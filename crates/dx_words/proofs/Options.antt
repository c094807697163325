-- What a parse reads of the program's options.
use Rattle.std.proofs.Common.{◌≡◌, ◌∙◌, ◌<◌, ◌≤◌, ◌^◌, ◌||◌, ◌++◌, ℕ, zero, suc, true, false, List, [], ◌∷◌, length, is_some, Option, Some, None, codes, refl, sym, ap, subst, inl, inr, arith, lit<}
use Rattle.std.specs.List.{All, slice_index, slice_index_or}
use Rattle.std.specs.Str.{bytes_eq}
use Rattle.std.proofs.lemmas.List.Elements.{All-nil}
use Rattle.clap.specs.Facts.{WantsDefault, args_of, groups_of, least_values}
use Rattle.clap.specs.Built.{AddsArg, IsAuto, IsParsedFrom, IsPlain, IsPlainArg, SameRules}
use Rattle.clap.specs.Words.{Row, Text, found_of, one_of, rows_of}
use Rattle.clap.specs.declared.builder.action.ArgAction.TheVariants.{Set}
use Rattle.clap.specs.declared.builder.arg.Arg.{Arg}
use Rattle.clap.specs.declared.builder.command.Command.{Command}
use Rattle.clap.specs.declared.builder.command.Command.TheOpen.{Command-F}
use Rattle.clap.specs.declared.builder.command.Command.TheViews.{out-Command}
use Rattle.clap.specs.declared.builder.value_parser.ValueParser.TheVariants as parsers
use Rattle.clap.specs.declared.parser.matches.ArgMatches.{ArgMatches}
use Rattle.clap.proofs.BuiltLemmas.{plain_same}
use Rattle.clap.proofs.CallerLemmas.{added_plain}
use Rattle.dx_words.specs.declared.words.Words.{Words}
use Rattle.dx_words.specs.Asked.{job_of, seed_of, events_of, number_in, words_in}
use Rattle.std.specs.Prelude.{option_and_then, option_map}
use Rattle.dx_words.specs.declared.words.Job.{Job}
use Rattle.dx_words.specs.Options.{IsNumberOption, HasOptions}
use Rattle.dx_words.proofs.Given.{number_given}

-- an option in a command is as it was given
number_same : (name : Text) (low high : ℕ) (a b : Arg) → SameRules a b → IsNumberOption name low high a → IsNumberOption name low high b
number_same name low high a b r h = record {
  named = ap (λ x. x.now) r.id ∙ h.named;
  plain = plain_same a b r h.plain;
  defaults = (r.ifs ∙ h.defaults.0, subst (λ xs. 0 < length xs) (sym (r.defaults h.defaults.1)) h.defaults.1);
  set = r.action Set h.set;
  whole = r.val_delim ∙ h.whole;
  least = r.least h.set h.least;
  parser = r.parser (parsers.Unsigned low high) h.parser;
}

-- the command that takes no name of the program is else as it was
pub same_args : (c d : Command) → out-Command d ≡ record (out-Command c) { no_binary_name = true } → args_of c ≡ [] → args_of d ≡ []
same_args c d e none = ap (λ (f : Command-F Command). f.args.items) e ∙ none

pub same_groups : (c d : Command) → out-Command d ≡ record (out-Command c) { no_binary_name = true } → groups_of c ≡ [] → groups_of d ≡ []
same_groups c d e none = ap (λ (f : Command-F Command). f.groups.items) e ∙ none

pub same_locals : (c d : Command) → out-Command d ≡ record (out-Command c) { no_binary_name = true } → (out-Command c).has_globals ≡ false → (out-Command d).has_globals ≡ false
same_locals c d e none = ap (λ (f : Command-F Command). f.has_globals) e ∙ none

-- three options are added to an empty command
pub options_added : (c0 c1 c2 c3 : Command) (job seed events : Arg) → args_of c0 ≡ [] → groups_of c0 ≡ [] → (out-Command c0).has_globals ≡ false
    → AddsArg c0 job c1 → AddsArg c1 seed c2 → AddsArg c2 events c3 → job.global ≡ false → seed.global ≡ false → events.global ≡ false
    → job.id.now ≡ codes "job" → IsPlainArg job → IsNumberOption (codes "seed") 0 9_223_372_036_854_775_807 seed
    → IsNumberOption (codes "events") 1 100_000 events → HasOptions c3
options_added c0 c1 c2 c3 job seed events no_args no_groups no_globals in1 in2 in3 job_local seed_local events_local named plain seed_is events_is =
    let bare : IsPlain c0 = (subst (All IsPlainArg) (sym no_args) (All-nil IsPlainArg), no_groups) in
    record {
      job = in1.arg;
      seed = in2.arg;
      events = in3.arg;
      list = in3.args ∙ ap (λ l. l ++ in3.arg ∷ []) (in2.args ∙ ap (λ l. l ++ in2.arg ∷ []) (in1.args ∙ ap (λ l. l ++ in1.arg ∷ []) no_args));
      job_named = ap (λ x. x.now) in1.rules.id ∙ named;
      seed_is = number_same _ _ _ seed in2.arg in2.rules seed_is;
      events_is = number_same _ _ _ events in3.arg in3.rules events_is;
      plain = added_plain c2 c3 events in3 (added_plain c1 c2 seed in2 (added_plain c0 c1 job in1 bare plain) seed_is.plain) events_is.plain;
      local = stays c2 c3 events in3 (stays c1 c2 seed in2 (stays c0 c1 job in1 no_globals job_local) seed_local) events_local;
    }
  where
    stays : (c d : Command) (a : Arg) → AddsArg c a d → (out-Command c).has_globals ≡ false → a.global ≡ false → (out-Command d).has_globals ≡ false
    stays c d a added none local = added.globals ∙ (ap (λ b. b || a.global) none ∙ ap (λ b. false || b) local)

-- of the three names no two are one
only_seed : (job seed events : Arg) → job.id.now ≡ codes "job" → seed.id.now ≡ codes "seed" → events.id.now ≡ codes "events"
    → (j : ℕ) (e : Arg) → j < 3 → bytes_eq (slice_index_or (job ∷ seed ∷ events ∷ []) j e).id.now seed.id.now ≡ true → j ≡ 1
only_seed job seed events a b c zero e lt same = let bad : false ≡ true = rw (a, b) at same in absurd (cc)
only_seed job seed events a b c (suc zero) e lt same = refl
only_seed job seed events a b c (suc (suc zero)) e lt same = let bad : false ≡ true = rw (b, c) at same in absurd (cc)
only_seed job seed events a b c (suc (suc (suc j))) e lt same = absurd (omega (arith, lt))

only_events : (job seed events : Arg) → job.id.now ≡ codes "job" → seed.id.now ≡ codes "seed" → events.id.now ≡ codes "events"
    → (j : ℕ) (e : Arg) → j < 3 → bytes_eq (slice_index_or (job ∷ seed ∷ events ∷ []) j e).id.now events.id.now ≡ true → j ≡ 2
only_events job seed events a b c zero e lt same = let bad : false ≡ true = rw (a, c) at same in absurd (cc)
only_events job seed events a b c (suc zero) e lt same = let bad : false ≡ true = rw (b, c) at same in absurd (cc)
only_events job seed events a b c (suc (suc zero)) e lt same = refl
only_events job seed events a b c (suc (suc (suc j))) e lt same = absurd (omega (arith, lt))

-- a name of a first letter is not empty, and none of those that building adds
not_empty : (name : Text) (first : ℕ) → slice_index name 0 ≡ first → 0 < first → name ≡ [] → ⊥
not_empty name first is some e =
    let bad : 0 ≡ first = sym (ap (λ t. slice_index t 0) e) ∙ is in
    omega (arith, bad, some)

not_auto : (a : Arg) (first : ℕ) → slice_index a.id.now 0 ≡ first → (first ≡ 104 → ⊥) → (first ≡ 118 → ⊥) → IsAuto a → ⊥
not_auto a first is no_help no_version (inl e) = no_help (sym is ∙ ap (λ t. slice_index t 0) e)
not_auto a first is no_help no_version (inr e) = no_version (sym is ∙ ap (λ t. slice_index t 0) e)

-- the option at a place of the command is read
number_read_at : (c : Command) (m : ArgMatches) → HasOptions c → IsParsedFrom c m → (k : ℕ) (a : Arg) (name : Text) (first low high bits : ℕ) → IsNumberOption name low high a
    → slice_index_or (args_of c) k a ≡ a → k < length (args_of c)
    → ((j : ℕ) (e : Arg) → j < length (args_of c) → bytes_eq (slice_index_or (args_of c) j e).id.now a.id.now ≡ true → j ≡ k)
    → slice_index name 0 ≡ first → 0 < first → (first ≡ 104 → ⊥) → (first ≡ 118 → ⊥) → high < 2 ^ bits
    → is_some (option_and_then (number_in bits) (one_of name (rows_of (found_of m)))) ≡ true
number_read_at c m h p k a name first low high bits is elem lt only letter some no_help no_version fits =
    let id_is : (slice_index_or (args_of c) k a).id.now ≡ a.id.now = ap (λ (x : Arg). x.id.now) elem in
    let name_is : (slice_index_or (args_of c) k a).id.now ≡ name = id_is ∙ is.named in
    let letter_is : slice_index (slice_index_or (args_of c) k a).id.now 0 ≡ first = ap (λ t. slice_index t 0) name_is ∙ letter in
    let Some_of : Text → Type 0 = λ t. is_some (option_and_then (number_in bits) (one_of t (rows_of (found_of m)))) ≡ true in
    subst Some_of name_is
    (number_given c m p h.plain h.local k a lt (subst WantsDefault (sym elem) is.defaults)
    (ap (λ (x : Arg). x.action) elem ∙ is.set) (ap (λ (x : Arg). x.val_delim) elem ∙ is.whole) (subst (λ (x : Arg). 1 ≤ least_values x) (sym elem) is.least)
    (λ j e low_j same. only j e low_j (subst (λ (t : Text). bytes_eq (slice_index_or (args_of c) j e).id.now t ≡ true) id_is same))
    (not_empty (slice_index_or (args_of c) k a).id.now first letter_is some) (not_auto (slice_index_or (args_of c) k a) first letter_is no_help no_version)
    low high bits fits (ap (λ (x : Arg). x.value_parser) elem ∙ is.parser))

pub seed_given : (c : Command) (m : ArgMatches) → HasOptions c → IsParsedFrom c m → is_some (seed_of (rows_of (found_of m))) ≡ true
seed_given c m h p =
    let Only : List Arg → Type 0 = λ l. (j : ℕ) (e : Arg) → j < length l → bytes_eq (slice_index_or l j e).id.now h.seed.id.now ≡ true → j ≡ 1 in
    number_read_at c m h p 1 h.seed (codes "seed") 115 0 9_223_372_036_854_775_807 64 h.seed_is
    (ap (λ l. slice_index_or l 1 h.seed) h.list) (subst (λ (l : List Arg). 1 < length l) (sym h.list) (lit< tt))
    (subst Only (sym h.list) (only_seed h.job h.seed h.events h.job_named h.seed_is.named h.events_is.named))
    refl (lit< tt) (λ e. omega (arith, e)) (λ e. omega (arith, e)) (lit< tt)

pub events_given : (c : Command) (m : ArgMatches) → HasOptions c → IsParsedFrom c m → is_some (events_of (rows_of (found_of m))) ≡ true
events_given c m h p =
    let Only : List Arg → Type 0 = λ l. (j : ℕ) (e : Arg) → j < length l → bytes_eq (slice_index_or l j e).id.now h.events.id.now ≡ true → j ≡ 2 in
    number_read_at c m h p 2 h.events (codes "events") 101 1 100_000 32 h.events_is
    (ap (λ l. slice_index_or l 2 h.events) h.list) (subst (λ (l : List Arg). 2 < length l) (sym h.list) (lit< tt))
    (subst Only (sym h.list) (only_events h.job h.seed h.events h.job_named h.seed_is.named h.events_is.named))
    refl (lit< tt) (λ e. omega (arith, e)) (λ e. omega (arith, e)) (lit< tt)

abbrev words_of : Job → ℕ → ℕ → Words
words_of job seed events = record { job = job; seed = seed; events = events }

-- where both numbers are there, it is the job that is missing
pub job_missing : (rows : List Row) → is_some (seed_of rows) ≡ true → is_some (events_of rows) ≡ true → words_in rows ≡ None → job_of rows ≡ None
unfolding words_in
job_missing rows some_seed some_events none = go (job_of rows) (seed_of rows) (events_of rows) some_seed some_events none
  where
    go : (j : Option Job) (s e : Option ℕ) → is_some s ≡ true → is_some e ≡ true
        → option_and_then (λ job. option_and_then (λ seed. option_map (λ events. words_of job seed events) e) s) j ≡ None
        → j ≡ None
    go None s e p q none = refl
    go (Some j) (Some s) (Some e) p q none = absurd (cc)
    go (Some j) (Some s) None p q none = absurd (cc)
    go (Some j) None e p q none = absurd (cc)
