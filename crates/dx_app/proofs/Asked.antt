-- What the words ask for, and how a run of it ends.
use Rattle.std.proofs.Common.{◌≡◌, ◌∙◌, ℕ, List, Option, Some, None, refl, sym, ap, subst, inr}
use Rattle.dx_types.specs.declared.status.Status.{Status}
use Rattle.dx_types.specs.declared.status.Status.TheVariants as ends
use Rattle.dx_io.specs.Rows.{Rows}
use Rattle.dx_words.specs.declared.words.Job.{Job}
use Rattle.dx_words.specs.declared.words.Job.TheVariants as jobs
use Rattle.dx_words.specs.declared.words.Words.{Words}
use Rattle.dx_words.specs.declared.words.WordsFault.{WordsFault}
use Rattle.dx_words.specs.declared.words.WordsFault.TheVariants as asking
use Rattle.dx_text.specs.Lines.{rest_of}
use Rattle.dx_app.specs.Transcript.{Told, ended, scenario, generate_told, self_told, job_told, asked_told}
use Rattle.dx_app.specs.Runs.{Says, AppendsLast, IsRunOf, EndsUnasked}
use Rattle.dx_app.specs.Causes.{job_asked}
use Rattle.dx_text.proofs.Outputs.{keeps_front, rest_is_input}
use Rattle.dx_app.proofs.Runs.{says_at_fault, says_kept}
use Rattle.dx_app.proofs.Kept.{says_front}

-- the job of what is asked for
pub job_is : (asked : Option Words) (w : Words) (j : Job) → asked ≡ Some w → job_asked asked ≡ Some j → w.job ≡ j
job_is asked w j e a = let same : Some w.job ≡ Some j = ap job_asked (sym e) ∙ a in cc

pub asked_job : (asked : Option Words) (w : Words) (j : Job) → asked ≡ Some w → w.job ≡ j → job_asked asked ≡ Some j
asked_job asked w j e is = ap job_asked e ∙ ap Some is

module _ (rows : Rows) (left w0 w1 : Option (List ℕ)) (k : Option Rows) (s : Status) where
  -- nothing was read or kept
  pub unread_run : (whole : List ℕ → Told) (t : Rows → Told) → (whole (rest_of left) ≡ t rows) → k ≡ Some rows → ((r : Rows) → Says w0 w1 (Some r) (t r) s) → IsRunOf whole left w0 w1 k s
  unread_run whole t is e a = record { input = rest_of left; is = rest_is_input left; said = subst (λ x. Says w0 w1 k x s) (sym is) (says_kept w0 w1 k rows (t rows) s e (a rows)) }

  -- the words are not taken, or there was no memory to read them
  pub unasked_run : (asked : Option Words) (fault : WordsFault) → (fault ≡ asking.Usage → asked ≡ None) → k ≡ Some rows → EndsUnasked w0 w1 fault s → IsRunOf (asked_told asked rows) left w0 w1 k s
  unasked_run asked asking.Usage none e a = unread_run (asked_told asked rows) (λ r. ended ends.Usage r) (ap (λ o. asked_told o rows (rest_of left)) (none refl)) e a
  unasked_run asked asking.NoMemory none e a =
      record { input = rest_of left; is = rest_is_input left; said = says_at_fault w0 w1 k (asked_told asked rows (rest_of left)) s (inr a.0) (keeps_front w0 w1 _ a.1) }

  -- the input is replayed
  pub replay_run : (w : Words) → w.job ≡ jobs.Replay → IsRunOf (scenario rows) left w0 w1 k s → IsRunOf (asked_told (Some w) rows) left w0 w1 k s
  replay_run w is r = subst (λ j. IsRunOf (job_told j w.seed w.events rows) left w0 w1 k s) (sym is) r

  -- a generated scenario is run
  pub self_run : (w : Words) → w.job ≡ jobs.SelfRun → k ≡ Some rows → ((r : Rows) → Says w0 w1 (Some r) (self_told w.seed w.events r) s) → IsRunOf (asked_told (Some w) rows) left w0 w1 k s
  self_run w is e a = unread_run (asked_told (Some w) rows) (self_told w.seed w.events) (ap (λ j. job_told j w.seed w.events rows (rest_of left)) is) e a

  -- a generated scenario is written
  pub generate_run : (w : Words) → w.job ≡ jobs.Generate → k ≡ Some rows → ((r : Rows) → Says w0 w1 (Some r) (generate_told w.seed w.events r) s) → IsRunOf (asked_told (Some w) rows) left w0 w1 k s
  generate_run w is e a = unread_run (asked_told (Some w) rows) (generate_told w.seed w.events) (ap (λ j. job_told j w.seed w.events rows (rest_of left)) is) e a

  -- what is asked for is done
  pub asked_run : (asked : Option Words) (w : Words) → asked ≡ Some w → IsRunOf (asked_told (Some w) rows) left w0 w1 k s → IsRunOf (asked_told asked rows) left w0 w1 k s
  asked_run asked w e r = subst (λ o. IsRunOf (asked_told o rows) left w0 w1 k s) (sym e) r

-- at most a front of a last line is written where words are not read
pub unasked_last : (w0 w1 : Option (List ℕ)) (rows : Rows) (fault : WordsFault) (s : Status) → EndsUnasked w0 w1 fault s → AppendsLast w0 w1
unasked_last w0 w1 rows asking.Usage s a = (ends.Usage, says_front w0 w1 (Some rows) (ended ends.Usage rows) s (a rows))
unasked_last w0 w1 rows asking.NoMemory s a = (ends.Usage, keeps_front w0 w1 _ a.1)
