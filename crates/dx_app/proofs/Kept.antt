-- What is kept where a run ends: just what its executed lines put.
use Rattle.std.proofs.Common.{◌≡◌, ◌≤◌, inl, inr, ℕ, List, [], ◌∷◌, ◌++◌, length, refl, sym, ap, subst, ◌∙◌, append_assoc, append-nil, true, false, arith, MatchBool, Option, Some, Ok, Err}
use Rattle.std.specs.Io.KnownBytes.{Appends, Keeps}
use Rattle.dx_types.specs.declared.status.Status.{Status}
use Rattle.dx_types.specs.declared.status.Status.TheVariants as ends
use Rattle.dx_io.specs.Rows.{Rows}
use Rattle.dx_scenario.specs.declared.event.Event.{Event}
use Rattle.dx_scenario.specs.declared.fault.LineFault.{LineFault}
use Rattle.dx_scenario.specs.declared.fault.LineFault.TheVariants as faults
use Rattle.dx_scenario.specs.Events.{event_of}
use Rattle.dx_print.specs.declared.replies.Reply.{Reply}
use Rattle.dx_print.specs.Replies.{reply_line}
use Rattle.dx_print.specs.Statuses.{last_line}
use Rattle.dx_cluster.specs.declared.cluster.Cluster.{Cluster}
use Rattle.dx_cluster.specs.declared.fault.StartFault.{StartFault}
use Rattle.dx_cluster.specs.declared.fault.StartFault.TheVariants as starts
use Rattle.dx_cluster.specs.World.{World, Steps, step, world_or, HasStepped, AreEither, Breaks}
use Rattle.dx_text.specs.declared.lines.Cut.TheVariants.{Line}
use Rattle.dx_text.specs.Lines.{newline, rest_of, CutsLine}
use Rattle.dx_text.specs.Output.{IsPrefix, AppendsFront}
use Rattle.dx_app.specs.Transcript.{Told, line_limit, told_after, ended, lines_told, rest_told, scenario, lines_alone}
use Rattle.dx_app.specs.Runs.{is_fault, EndsAs, Says, AppendsLast, FollowsReplies, Executes, Holds, GoesOn, line_alone, ExecutesLine, StopsAtLine, EndsAtLine, EndsUnserved}
use Rattle.dx_text.proofs.Newlines.{at_most_one}
use Rattle.dx_text.proofs.Outputs.{appends_then, keeps_front, nothing_front, front_more, rest_is_input, read_is_input}
use Rattle.dx_app.proofs.Nodes.{stepped_world}
use Rattle.dx_app.proofs.Runs.{lines_at_hand, line_at_hand, line_then, rest_line, nothing_told, event_is}

-- a front of what is told is written, whatever the status
pub says_front : (before now : Option (List ℕ)) (k : Option Rows) (t : Told) (s : Status) → Says before now k t s → AppendsFront before now t.bytes
says_front before now k t s said =
    elim (is_fault s) as (λ b. MatchBool b (AppendsFront before now t.bytes) (EndsAs before now k t s) → AppendsFront before now t.bytes) [
      | true ↦ λ front. front
      | false ↦ λ all. (t.bytes, all.0, ([], append-nil t.bytes))
    ] said

-- a last line is written, or a front of it
pub says_last : (before now : Option (List ℕ)) (k : Option Rows) (last : Status) (rows : Rows) (s : Status) → Says before now k (ended last rows) s → AppendsLast before now
says_last before now k last rows s said = (last, says_front before now k (ended last rows) s said)

-- nothing is written
pub keeps_last : (before now : Option (List ℕ)) → Keeps before now → AppendsLast before now
keeps_last before now k = (ends.Done, keeps_front before now [] k)

pub silent_last : (written : Option (List ℕ)) → AppendsLast written written
silent_last written = (ends.Done, nothing_front written [])

pub fault_last : (before now : Option (List ℕ)) (rows : Rows) (n : ℕ) (fault : LineFault) (s : Status) → EndsAtLine before now n fault s → AppendsLast before now
fault_last before now rows n (faults.Bad field) s e = says_last before now (Some rows) (ends.BadLine n field) rows s (e rows)
fault_last before now rows n faults.NoMemory s e = keeps_last before now e.1

pub unserved_last : (before now : Option (List ℕ)) (rows : Rows) (fault : StartFault) (s : Status) → EndsUnserved before now fault s → AppendsLast before now
unserved_last before now rows (starts.KeptBad node height) s e = says_last before now (Some rows) (ends.KeptBad node height) rows s (e rows)
unserved_last before now rows (starts.KeptOther node theirs ours) s e = says_last before now (Some rows) (ends.KeptOther node theirs ours) rows s (e rows)
unserved_last before now rows starts.KeepFault s e = keeps_last before now e.1
unserved_last before now rows starts.NoMemory s e = keeps_last before now e.1

-- no reply is written whole
pub front_follows : (before now : Option (List ℕ)) (told : List ℕ) → AppendsFront before now told → FollowsReplies [] told before now
front_follows before now told f = record { out = f.0; wrote = f.1; whole = (f.0, refl); part = f.2 }

prefix_after : (text front bytes : List ℕ) → IsPrefix front bytes → IsPrefix (text ++ front) (text ++ bytes)
prefix_after text front bytes p = (p.0, append_assoc text front p.0 ∙ ap (λ xs. text ++ xs) p.1)

-- replies were written before
follows_after : (a b c : Option (List ℕ)) (text replies told : List ℕ) → Appends a b text → FollowsReplies replies told b c → FollowsReplies (text ++ replies) (text ++ told) a c
follows_after a b c text replies told p f = record {
  out = text ++ f.out;
  wrote = appends_then a b c text f.out p f.wrote;
  whole = prefix_after text replies f.out f.whole;
  part = prefix_after text f.out told f.part;
}

follows_as : (a c : Option (List ℕ)) (x y u v : List ℕ) → x ≡ y → u ≡ v → FollowsReplies x u a c → FollowsReplies y v a c
follows_as a c x y u v d e f = subst (λ xs. FollowsReplies xs v a c) d (subst (λ xs. FollowsReplies x xs a c) e f)

-- no line is executed any more
pub stops_here : (w : World) (n : ℕ) (h0 : List ℕ) (left before now : Option (List ℕ)) (k : Option Rows) → k ≡ Some w.rows → AppendsLast before now → Executes (rest_told w n) h0 left before now k
stops_here w n h0 left before now k e a = (
  rest_of left,
  rest_is_input left,
  record {
    lines = [];
    others = h0 ++ rest_of left;
    joined = refl;
    done = ap (λ (t : Told). t.status) (nothing_told w n);
    keeps = e ∙ ap (λ (t : Told). Some t.rows) (sym (nothing_told w n));
    answered = [];
    one = [];
    split = refl;
    good = ap (λ (t : Told). t.status) (nothing_told w n);
    few = omega arith;
    last = a.0;
    wrote = subst (λ (t : Told). FollowsReplies t.bytes (t.bytes ++ last_line a.0) before now) (sym (nothing_told w n)) (front_follows before now (last_line a.0) a.1);
  },
)

alone_line : (w : World) (n : ℕ) (line : List ℕ) (h0 h1 : List ℕ) (l0 l1 : Option (List ℕ)) → CutsLine h0 h1 line l0 l1 Line → n ≤ line_limit → rest_told w n (line ++ newline ∷ []) ≡ line_alone w n line
unfolding lines_told
alone_line w n line h0 h1 l0 l1 k few = rest_line w n line [] k.is.1 k.is.2 few

-- a run ends at a line
pub line_stops : (h0 h1 line : List ℕ) (l0 l1 before now : Option (List ℕ)) (r : Option Rows) (w : World) (n : ℕ) → CutsLine h0 h1 line l0 l1 Line → n ≤ line_limit → StopsAtLine w n line before now r → Executes (rest_told w n) h0 l0 before now r
line_stops h0 h1 line l0 l1 before now r w n k few (inl e) = stops_here w n h0 l0 before now r e.0 e.1
line_stops h0 h1 line l0 l1 before now r w n k few (inr e) =
    let alone = alone_line w n line h0 h1 l0 l1 k few in (
      k.got ++ rest_of l1,
      read_is_input l0 l1 k.got (rest_of l1) k.read (rest_is_input l1),
      record {
        lines = line ++ newline ∷ [];
        others = h1 ++ rest_of l1;
        joined = line_at_hand h0 h1 line k.got k.is.0 (rest_of l1) ∙ sym (line_then line (h1 ++ rest_of l1));
        done = ap (λ (t : Told). t.status) alone ∙ e.done;
        keeps = e.keeps ∙ ap (λ (t : Told). Some t.rows) (sym alone);
        answered = [];
        one = line ++ newline ∷ [];
        split = refl;
        good = ap (λ (t : Told). t.status) (nothing_told w n);
        few = at_most_one line k.is.1;
        last = ends.Done;
        wrote = follows_as before now [] (rest_told w n []).bytes ((line_alone w n line).bytes ++ []) ((rest_told w n (line ++ newline ∷ [])).bytes ++ last_line ends.Done)
            (ap (λ (t : Told). t.bytes) (sym (nothing_told w n))) (ap (λ (t : Told). t.bytes ++ []) (sym alone))
            (front_follows before now ((line_alone w n line).bytes ++ []) (front_more before now (line_alone w n line).bytes [] e.wrote));
      },
    )

-- a run that has gone on ends
pub executes_then : (whole : List ℕ → Told) (h0 h1 : List ℕ) (l0 l1 w0 w1 w2 : Option (List ℕ)) (k1 k2 : Option Rows) (c : Cluster) (n : ℕ) → GoesOn whole h0 h1 l0 l1 w0 w1 c k1 n
    → ((v : World) → Holds c k1 v → Executes (rest_told v n) h1 l1 w1 w2 k2) → Executes whole h0 l0 w0 w2 k2
executes_then whole h0 h1 l0 l1 w0 w1 w2 k1 k2 c n g y =
    let x = y g.world g.holds in
    let r = x.2 in
    let told : whole (g.lines ++ r.lines) ≡ told_after g.out (rest_told g.world n r.lines) = sym (g.told r.lines) in
    let first : whole (g.lines ++ r.answered) ≡ told_after g.out (rest_told g.world n r.answered) = sym (g.told r.answered) in (
      g.got ++ x.0,
      read_is_input l0 l1 g.got x.0 g.read x.1,
      record {
        lines = g.lines ++ r.lines;
        others = r.others;
        joined = lines_at_hand h0 h1 g.lines g.got x.0 g.joined ∙ ap (λ xs. g.lines ++ xs) r.joined ∙ sym (append_assoc g.lines r.lines r.others);
        done = ap (λ (t : Told). t.status) told ∙ r.done;
        keeps = r.keeps ∙ ap (λ (t : Told). Some t.rows) (sym told);
        answered = g.lines ++ r.answered;
        one = r.one;
        split = ap (λ xs. g.lines ++ xs) r.split ∙ sym (append_assoc g.lines r.answered r.one);
        good = ap (λ (t : Told). t.status) first ∙ r.good;
        few = r.few;
        last = r.last;
        wrote = follows_as w0 w2 (g.out ++ (rest_told g.world n r.answered).bytes) (whole (g.lines ++ r.answered)).bytes
            (g.out ++ ((rest_told g.world n r.lines).bytes ++ last_line r.last)) ((whole (g.lines ++ r.lines)).bytes ++ last_line r.last)
            (ap (λ (t : Told). t.bytes) (sym first))
            (sym (append_assoc g.out (rest_told g.world n r.lines).bytes (last_line r.last)) ∙ ap (λ (t : Told). t.bytes ++ last_line r.last) (sym told))
            (follows_after w0 w1 w2 g.out (rest_told g.world n r.answered).bytes ((rest_told g.world n r.lines).bytes ++ last_line r.last) g.wrote r.wrote);
      },
    )

-- lines whose scenario is done are told alone as that scenario
pub alone_is : (rows : Rows) (lines : List ℕ) → (scenario rows lines).status ≡ ends.Done → lines_alone rows lines ≡ scenario rows lines
alone_is rows [] e = let no : ends.BadLine 1 0 ≡ ends.Done = e in absurd (cc)
alone_is rows (b ∷ lines) e = refl

pub executes_alone : (rows : Rows) (h0 : List ℕ) (left before now : Option (List ℕ)) (k : Option Rows) → Executes (scenario rows) h0 left before now k → Executes (lines_alone rows) h0 left before now k
executes_alone rows h0 left before now k x =
    let r = x.2 in
    let same : lines_alone rows r.lines ≡ scenario rows r.lines = alone_is rows r.lines r.done in
    let first : lines_alone rows r.answered ≡ scenario rows r.answered = alone_is rows r.answered r.good in (
      x.0,
      x.1,
      record {
        lines = r.lines;
        others = r.others;
        joined = r.joined;
        done = ap (λ (t : Told). t.status) same ∙ r.done;
        keeps = r.keeps ∙ ap (λ (t : Told). Some t.rows) (sym same);
        answered = r.answered;
        one = r.one;
        split = r.split;
        good = ap (λ (t : Told). t.status) first ∙ r.good;
        few = r.few;
        last = r.last;
        wrote = follows_as before now (scenario rows r.answered).bytes (lines_alone rows r.answered).bytes
            ((scenario rows r.lines).bytes ++ last_line r.last) ((lines_alone rows r.lines).bytes ++ last_line r.last)
            (ap (λ (t : Told). t.bytes) (sym first)) (ap (λ (t : Told). t.bytes ++ last_line r.last) (sym same)) r.wrote;
      },
    )

-- no line is executed
pub executes_none : (rows : Rows) (left before now : Option (List ℕ)) (k : Option Rows) → k ≡ Some rows → AppendsLast before now → Executes (lines_alone rows) [] left before now k
executes_none rows left before now k e a = (
  rest_of left,
  rest_is_input left,
  record {
    lines = [];
    others = rest_of left;
    joined = refl;
    done = refl;
    keeps = e;
    answered = [];
    one = [];
    split = refl;
    good = refl;
    few = omega arith;
    last = a.0;
    wrote = front_follows before now (last_line a.0) a.1;
  },
)

module _ (w0 w1 : Option (List ℕ)) (k : Option Rows) (w : World) (nodes n : ℕ) (line : List ℕ) (e : Event) (c : length w.nodes ≡ nodes) (o : event_of nodes line ≡ Ok e) where
  event_alone : (r : World × Reply) → step w e ≡ Ok r → line_alone w n line ≡ told_after (reply_line n r.1) (ended ends.Done r.0.rows)
  event_alone r is = event_is w nodes n line e (Ok r) (λ v. ended ends.Done v.rows) c o is

  executes_line : (r : World × Reply) → step w e ≡ Ok r → k ≡ Some r.0.rows → AppendsFront w0 w1 (reply_line n r.1) → ExecutesLine w n line w0 w1 k
  executes_line r is keeps f =
      let alone = event_alone r is in
      record {
        done = ap (λ (t : Told). t.status) alone;
        keeps = keeps ∙ ap (λ (t : Told). Some t.rows) (sym alone);
        wrote = subst (λ (t : Told). AppendsFront w0 w1 t.bytes) (sym alone) (front_more w0 w1 (reply_line n r.1) [] f);
      }

  -- the reply is not written whole
  pub reply_stops : (d : Cluster) (r : Reply) (text : List ℕ) → HasStepped (step w e) d r k → text ≡ reply_line n r → AppendsFront w0 w1 text → StopsAtLine w n line w0 w1 k
  reply_stops d r text h t f =
      let s = stepped_world (step w e) d r k h in
      inr (executes_line s.behind s.is s.keeps.told (subst (λ xs. AppendsFront w0 w1 xs) (t ∙ ap (reply_line n) s.done.replied) f))

  -- there is no reply
  pub unreplied_stops : (d : Cluster) (r : Reply) → HasStepped (step w e) d r k → ((text : List ℕ) → AppendsFront w0 w1 text) → StopsAtLine w n line w0 w1 k
  unreplied_stops d r h f =
      let s = stepped_world (step w e) d r k h in
      inr (executes_line s.behind s.is s.keeps.told (f (reply_line n s.behind.1)))

  -- the rows are those before the event, or those behind it
  either_stops : (s : Steps) → step w e ≡ s → AreEither k w.rows (world_or w s).rows → Keeps w0 w1 → StopsAtLine w n line w0 w1 k
  either_stops s is (inl keeps) q = inl (keeps, keeps_last w0 w1 q)
  either_stops (Ok r) is (inr keeps) q = inr (executes_line r is keeps (keeps_front w0 w1 _ q))
  either_stops (Err unkept) is (inr keeps) q = inl (keeps, keeps_last w0 w1 q)

  -- the event is not answered
  pub unserved_stops : (fault : StartFault) (s : Status) → Breaks w (step w e) k fault → EndsUnserved w0 w1 fault s → StopsAtLine w n line w0 w1 k
  unserved_stops starts.KeepFault s b u = either_stops (step w e) refl b u.1
  unserved_stops starts.NoMemory s b u = either_stops (step w e) refl b u.1
  unserved_stops (starts.KeptBad node height) s b u = inl (b.1, unserved_last w0 w1 w.rows (starts.KeptBad node height) s u)
  unserved_stops (starts.KeptOther node theirs ours) s b u = inl (b.2, unserved_last w0 w1 w.rows (starts.KeptOther node theirs ours) s u)
