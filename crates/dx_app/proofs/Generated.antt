-- The lines of a generated scenario, written one after another, and the digest of their run.
use Rattle.std.proofs.Common.{◌≡◌, ◌∙◌, ◌+◌, ◌*◌, ◌/◌, ◌++◌, ℕ, List, [], ◌∷◌, Option, Some, false, refl, sym, ap, subst, append_assoc, append-nil}
use Rattle.std.specs.List.{concat}
use Rattle.std.specs.FinMap as map
use Rattle.std.specs.Io.KnownBytes.{Appends}
use Rattle.sha2.specs.Sha256.{sha256}
use Rattle.dx_types.specs.declared.status.Status.{Status}
use Rattle.dx_io.specs.Rows.{Rows}
use Rattle.dx_gen.specs.Texts.{scenario_lines}
use Rattle.dx_gen.proofs.Counts.{scenario_count}
use Rattle.dx_streams.specs.Summaries.{summary_text}
use Rattle.dx_text.specs.Output.{AppendsFront}
use Rattle.dx_app.specs.OwnRuns.{Writes}
use Rattle.dx_app.specs.Transcript.{generated, run_digest, self_told, scenario}
use Rattle.dx_app.specs.Runs.{is_fault, EndsAs, IsRunOf}
use Rattle.dx_text.specs.Reading.{IsInput}
use Rattle.dx_text.proofs.Outputs.{appends_nothing, appends_then}

-- nothing is written yet
pub writes_first : (o : Option (List ℕ)) (lines : List (List ℕ)) → Writes (concat lines) o o lines
writes_first o lines = record { out = []; wrote = appends_nothing o; joined = refl }

module _ (whole : List ℕ) (a b : Option (List ℕ)) (lines : List (List ℕ)) (w : Writes whole a b lines) where
  -- one more line is written
  pub writes_more : (c : Option (List ℕ)) (line : List ℕ) (more : List (List ℕ)) → lines ≡ line ∷ more → Appends b c line → Writes whole a c more
  writes_more c line more e p = record {
    out = w.out ++ line;
    wrote = appends_then a b c w.out line w.wrote p;
    joined = append_assoc w.out line (concat more) ∙ ap (λ ls. w.out ++ concat ls) (sym e) ∙ w.joined;
  }

  -- all lines are written
  pub writes_all : lines ≡ [] → Appends a b whole
  writes_all e = subst (λ xs. Appends a b xs) (sym (append-nil w.out) ∙ ap (λ ls. w.out ++ concat ls) (sym e) ∙ w.joined) w.wrote

  -- it ends before a line
  pub writes_front : AppendsFront a b whole
  writes_front = (w.out, w.wrote, (concat lines, w.joined))

  -- it ends within a line
  pub writes_part : (c : Option (List ℕ)) (line : List ℕ) (more : List (List ℕ)) → lines ≡ line ∷ more → AppendsFront b c line → AppendsFront a c whole
  writes_part c line more e f = (
    w.out ++ f.0,
    appends_then a b c w.out f.0 w.wrote f.1,
    (
      f.2.0 ++ concat more,
      append_assoc w.out f.0 (f.2.0 ++ concat more)
          ∙ ap (λ xs. w.out ++ xs) (sym (append_assoc f.0 f.2.0 (concat more)) ∙ ap (λ xs. xs ++ concat more) f.2.1)
          ∙ ap (λ ls. w.out ++ concat ls) (sym e) ∙ w.joined,
    ),
  )

-- what the run of a generated scenario over no rows writes has the digest of that run
pub hashed : (seed events : ℕ) (lines : List (List ℕ)) (left before now : Option (List ℕ)) (k : Option Rows) (s : Status) (written : List ℕ) → IsRunOf (scenario map.empty) left before now k s → lines ≡ scenario_lines seed events
    → left ≡ Some (concat lines) → before ≡ Some [] → now ≡ Some written → is_fault s ≡ false → sha256 written ≡ run_digest seed events
unfolding run_digest
hashed seed events lines left before now k s written r all l b n plain =
    let told : IsInput (Some (concat lines)) r.input = subst (λ x. IsInput x r.input) l r.is in
    let input : r.input ≡ generated seed events = told ∙ ap concat all in
    let said : EndsAs before now k (scenario map.empty r.input) s = rw plain at r.said in
    let wrote : Appends (Some []) now (scenario map.empty r.input).bytes = subst (λ x. Appends x now (scenario map.empty r.input).bytes) b said.0 in
    let whole : Appends (Some []) (Some written) (scenario map.empty r.input).bytes = subst (λ x. Appends (Some []) x (scenario map.empty r.input).bytes) n wrote in
    ap sha256 (whole ∙ ap (λ xs. (scenario map.empty xs).bytes) input)

-- the text of the number of lines and of the digest is what is told
pub summed : (seed events count : ℕ) (digest text shown : List ℕ) (rows : Rows) → count ≡ 11 + events + 6 * (events / 7) → digest ≡ run_digest seed events → text ≡ summary_text count digest → shown ≡ text
    → (self_told seed events rows).bytes ≡ shown
summed seed events count digest text shown rows c d t s =
    ap (λ n. summary_text n (run_digest seed events)) (scenario_count seed events ∙ sym c) ∙ ap (summary_text count) (sym d) ∙ sym t ∙ sym s
