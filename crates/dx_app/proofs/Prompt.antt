-- How far a run has read, and what it has answered by then.
use Rattle.std.proofs.Common.{◌≡◌, ◌<◌, ◌≤◌, ◌⊎◌, ℕ, List, [], ◌++◌, refl, sym, ap, subst, ◌∙◌, arith, append_assoc, append-nil, Option}
use Rattle.std.specs.Io.KnownBytes.{Appends, Consumes}
use Rattle.dx_types.specs.declared.status.Status.{Status}
use Rattle.dx_types.specs.declared.status.Status.TheVariants as ends
use Rattle.dx_cluster.specs.declared.cluster.Cluster.{Cluster}
use Rattle.dx_io.specs.Rows.{Rows}
use Rattle.dx_cluster.specs.World.{World}
use Rattle.dx_text.specs.Output.{AppendsFront}
use Rattle.dx_app.specs.Transcript.{Told, told_after, ended, rest_told, scenario, lines_alone}
use Rattle.dx_text.specs.declared.lines.ReadError.{ReadError}
use Rattle.dx_text.specs.declared.lines.ReadError.TheVariants as errors
use Rattle.dx_app.specs.Runs.{Says, IsRunOf, AppendsLast, Holds, GoesOn, EndsReading}
use Rattle.dx_app.specs.Prompt.{AppendsSome, StopsInLine, HasAnswered, AnswersWholeLines, AnswersAllBehind, RepliesAreOut, ReadsNoFurther}
use Rattle.dx_text.specs.Reading.{HasNoNewline, IsNear, ReadsTo}
use Rattle.dx_text.proofs.Outputs.{appends_nothing, appends_then, consumes_nothing, consumes_then}
use Rattle.dx_text.proofs.Near.{ahead_near}
use Rattle.dx_app.proofs.Runs.{lines_at_hand, nothing_told}
use Rattle.dx_app.proofs.Kept.{says_front, alone_is}

-- a run ends as a failed read only where a read failed
pub read_failed : (e : ReadError) (s : Status) → EndsReading e s → s ≡ ends.ReadFault → e ≡ errors.Failed
read_failed errors.Failed s h k = refl
read_failed errors.NoMemory s h k = let no : ends.NoMemory ≡ ends.ReadFault = sym h ∙ k in absurd (cc)

-- nothing was written where a read failed
pub stops : (h0 : List ℕ) (l0 l1 written : Option (List ℕ)) → ReadsTo h0 l0 l1 HasNoNewline → StopsInLine h0 l0 l1 written written
stops h0 l0 l1 written r = record { in_line = r; silent = appends_nothing written }

-- what a run has written
pub says_some : (before now : Option (List ℕ)) (k : Option Rows) (t : Told) (s : Status) → Says before now k t s → AppendsSome before now
says_some before now k t s said = let front = says_front before now k t s said in (front.0, front.1)

pub run_some : (whole : List ℕ → Told) (left before now : Option (List ℕ)) (k : Option Rows) (s : Status) → IsRunOf whole left before now k s → AppendsSome before now
run_some whole left before now k s r = says_some before now k (whole r.input) s r.said

pub last_some : (before now : Option (List ℕ)) → AppendsLast before now → AppendsSome before now
last_some before now a = (a.1.0, a.1.1)

pub front_some : (before now : Option (List ℕ)) (bytes : List ℕ) → AppendsFront before now bytes → AppendsSome before now
front_some before now bytes f = (f.0, f.1)

pub silent_some : (before now : Option (List ℕ)) → now ≡ before → AppendsSome before now
silent_some before now e = subst (AppendsSome before) (sym e) ([], appends_nothing before)

module _ (whole : List ℕ → Told) (h0 h1 : List ℕ) (l0 l1 l2 w0 w1 w2 : Option (List ℕ)) (k1 : Option Rows) (c : Cluster) (n : ℕ) (g : GoesOn whole h0 h1 l0 l1 w0 w1 c k1 n) where
  -- the lines so far are told alone
  lines_done : whole g.lines ≡ told_after g.out (ended ends.Done g.world.rows)
  lines_done = ap whole (sym (append-nil g.lines)) ∙ sym (g.told []) ∙ ap (told_after g.out) (nothing_told g.world n)

  lines_bytes : (whole g.lines).bytes ≡ g.out
  lines_bytes = ap (λ (t : Told). t.bytes) lines_done ∙ append-nil g.out

  -- no more lines are answered
  answered_here : (got more : List ℕ) → Consumes l1 l2 got → Appends w1 w2 more → HasAnswered whole h0 l0 l2 w0 w2 (h1 ++ got) more
  answered_here got more r a = record {
    got = g.got ++ got;
    read = consumes_then l0 l1 l2 g.got got g.read r;
    lines = g.lines;
    joined = lines_at_hand h0 h1 g.lines g.got got g.joined;
    done = ap (λ (t : Told). t.status) lines_done;
    wrote = subst (λ xs. Appends w0 w2 (xs ++ more)) (sym lines_bytes) (appends_then w0 w1 w2 g.out more g.wrote a);
  }

  pub behind_here : ReadsTo h1 l1 l2 IsNear → AppendsSome w1 w2 → AnswersAllBehind whole h0 l0 l2 w0 w2
  behind_here r a = (h1 ++ r.got, a.0, r.kind, answered_here r.got a.0 r.read a.1)

  pub whole_here : StopsInLine h1 l1 l2 w1 w2 → AnswersWholeLines whole h0 l0 l2 w0 w2
  whole_here e = let r = e.in_line in (h1 ++ r.got, r.kind, answered_here r.got [] r.read e.silent)

  -- more lines are answered
  answered_later : (others more : List ℕ) → HasAnswered (rest_told g.world n) h1 l1 l2 w1 w2 others more → HasAnswered whole h0 l0 l2 w0 w2 others more
  answered_later others more k =
      let told : whole (g.lines ++ k.lines) ≡ told_after g.out (rest_told g.world n k.lines) = sym (g.told k.lines) in
      record {
        got = g.got ++ k.got;
        read = consumes_then l0 l1 l2 g.got k.got g.read k.read;
        lines = g.lines ++ k.lines;
        joined = lines_at_hand h0 h1 g.lines g.got k.got g.joined ∙ ap (λ xs. g.lines ++ xs) k.joined ∙ sym (append_assoc g.lines k.lines others);
        done = ap (λ (t : Told). t.status) told ∙ k.done;
        wrote = subst (λ xs. Appends w0 w2 xs) (sym (ap (λ (t : Told). t.bytes ++ more) told ∙ append_assoc g.out (rest_told g.world n k.lines).bytes more))
            (appends_then w0 w1 w2 g.out ((rest_told g.world n k.lines).bytes ++ more) g.wrote k.wrote);
      }

  pub behind_later : ((v : World) → Holds c k1 v → AnswersAllBehind (rest_told v n) h1 l1 l2 w1 w2) → AnswersAllBehind whole h0 l0 l2 w0 w2
  behind_later y =
      let k = y g.world g.holds in
      (k.0, k.1, k.2, answered_later k.0 k.1 k.3)

  pub whole_later : ((v : World) → Holds c k1 v → AnswersWholeLines (rest_told v n) h1 l1 l2 w1 w2) → AnswersWholeLines whole h0 l0 l2 w0 w2
  whole_later y =
      let k = y g.world g.holds in
      (k.0, k.1, answered_later k.0 [] k.2)

-- lines that are done are told alone as their scenario
answered_alone : (rows : Rows) (l0 l1 w0 w1 : Option (List ℕ)) (others more : List ℕ) → HasAnswered (scenario rows) [] l0 l1 w0 w1 others more → HasAnswered (lines_alone rows) [] l0 l1 w0 w1 others more
answered_alone rows l0 l1 w0 w1 others more k =
    let same : lines_alone rows k.lines ≡ scenario rows k.lines = alone_is rows k.lines k.done in
    record {
      got = k.got;
      read = k.read;
      lines = k.lines;
      joined = k.joined;
      done = ap (λ (t : Told). t.status) same ∙ k.done;
      wrote = subst (λ (t : Told). Appends w0 w1 (t.bytes ++ more)) (sym same) k.wrote;
    }

pub no_further : (rows : Rows) (l0 l1 w0 w1 : Option (List ℕ)) → AnswersAllBehind (scenario rows) [] l0 l1 w0 w1 → ReadsNoFurther rows l0 l1 w0 w1
no_further rows l0 l1 w0 w1 k = (k.0, k.1, k.2, answered_alone rows l0 l1 w0 w1 k.0 k.1 k.3)

pub replies_out : (rows : Rows) (l0 l1 w0 w1 : Option (List ℕ)) → AnswersWholeLines (scenario rows) [] l0 l1 w0 w1 → RepliesAreOut rows l0 l1 w0 w1
replies_out rows l0 l1 w0 w1 k = (k.0, k.1, answered_alone rows l0 l1 w0 w1 k.0 [] k.2)

-- no line is answered yet
nothing_answered : (rows : Rows) (h0 : List ℕ) (l0 l1 w0 w1 : Option (List ℕ)) (got more : List ℕ) → h0 ≡ [] → Consumes l0 l1 got → Appends w0 w1 more → HasAnswered (lines_alone rows) [] l0 l1 w0 w1 (h0 ++ got) more
nothing_answered rows h0 l0 l1 w0 w1 got more none r a = record { got = got; read = r; lines = []; joined = ap (λ xs. xs ++ got) (sym none); done = refl; wrote = a }

pub no_further_first : (rows : Rows) (h0 : List ℕ) (l0 l1 w0 w1 : Option (List ℕ)) → h0 ≡ [] → ReadsTo h0 l0 l1 IsNear → AppendsSome w0 w1 → ReadsNoFurther rows l0 l1 w0 w1
no_further_first rows h0 l0 l1 w0 w1 none r a = (h0 ++ r.got, a.0, r.kind, nothing_answered rows h0 l0 l1 w0 w1 r.got a.0 none r.read a.1)

pub replies_out_first : (rows : Rows) (h0 : List ℕ) (l0 l1 w0 w1 : Option (List ℕ)) → h0 ≡ [] → StopsInLine h0 l0 l1 w0 w1 → RepliesAreOut rows l0 l1 w0 w1
replies_out_first rows h0 l0 l1 w0 w1 none e = let r = e.in_line in (h0 ++ r.got, r.kind, nothing_answered rows h0 l0 l1 w0 w1 r.got [] none r.read e.silent)

-- nothing is read
pub unread : (rows : Rows) (left w0 w1 : Option (List ℕ)) → AppendsSome w0 w1 → ReadsNoFurther rows left left w0 w1
unread rows left w0 w1 a = no_further_first rows [] left left w0 w1 refl (record { got = []; read = consumes_nothing left; kind = ahead_near [] (omega arith) }) a
