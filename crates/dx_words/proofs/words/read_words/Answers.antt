use Rattle.std.proofs.Common.{◌∙◌, sym}
use Rattle.clap.specs.Words.{found_of, rows_of}
use Rattle.dx_words.proofs.Asking.{asked_by, none_by, refused_by, nameless_by, read_ok, read_err}
use Rattle.dx_words.proofs.Options.{seed_given, events_given, job_missing}
use Rattle.dx_words.proofs.words.read_words.Goals as goal

pub returns-in-Ok-clause-read : goal.returns-in-Ok-clause-read
returns-in-Ok-clause-read c =
    let is = c.in_ok-command.ensures.app in
    read_ok _ c.words_in.result c.ok_or.result
    (asked_by _ _ c.try_get_matches_from.result is c.try_get_matches_from.ensures.kinds c.in-Ok.matches c.in-Ok.is c.try_get_matches_from.ensures.matches ∙ sym c.words_in.ensures)
    c.ok_or.ensures.value

pub returns-in-Ok-clause-usage : goal.returns-in-Ok-clause-usage
returns-in-Ok-clause-usage c =
    let is = c.in_ok-command.ensures.app in
    read_err c.words_in.result c.ok_or.result _ c.ok_or.ensures.value
    (λ none. asked_by _ _ c.try_get_matches_from.result is c.try_get_matches_from.ensures.kinds c.in-Ok.matches c.in-Ok.is c.try_get_matches_from.ensures.matches ∙ sym c.words_in.ensures ∙ none)

pub returns-in-Ok-clause-only : goal.returns-in-Ok-clause-only
returns-in-Ok-clause-only c =
    let is = c.in_ok-command.ensures.app in
    let has = c.in_ok-command.ensures.options in
    let parsed = c.in-Ok.ensures.parsed in
    read_err c.words_in.result c.ok_or.result _ c.ok_or.ensures.value
    (λ none. nameless_by _ _ c.try_get_matches_from.result is c.try_get_matches_from.ensures.kinds c.in-Ok.matches c.in-Ok.is c.try_get_matches_from.ensures.matches
    (job_missing (rows_of (found_of c.in-Ok.matches)) (seed_given _ _ has parsed) (events_given _ _ has parsed) (sym c.words_in.ensures ∙ none)))

pub returns-in-Err-clause-usage : goal.returns-in-Err-clause-usage
returns-in-Err-clause-usage c = λ usage.
    let is = c.in_ok-command.ensures.app in
    none_by _ _ c.try_get_matches_from.result is c.try_get_matches_from.ensures.kinds c.in-Err.error c.in-Err.is (c.refusal.ensures usage)

pub returns-in-Err-clause-only : goal.returns-in-Err-clause-only
returns-in-Err-clause-only c = λ usage.
    let is = c.in_ok-command.ensures.app in
    refused_by _ _ c.try_get_matches_from.result is c.try_get_matches_from.ensures.kinds c.in-Err.error c.in-Err.is (c.refusal.ensures usage)
