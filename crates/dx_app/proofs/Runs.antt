-- What a run has written so far, and what it goes on to write.
use Rattle.std.proofs.Common.{◌≡◌, ◌<◌, ◌≤◌, ◌+◌, ◌⊎◌, inl, inr, ℕ, suc, List, [], ◌∷◌, ◌++◌, length, refl, sym, ap, subst, ◌∙◌, arith, append_assoc, append-nil, true, false, cond, add-one, length-append, lit<, ◌==◌, MatchBool, Option, Some, Result, Ok, Err}
use Rattle.std.proofs.lemmas.Bool.{le-ltb, lt-ltb}
use Rattle.std.specs.Io.KnownBytes.{Appends, IsAtEnd, Consumes}
use Rattle.dx_types.specs.declared.status.Status.{Status}
use Rattle.dx_types.specs.declared.status.Status.TheVariants as ends
use Rattle.dx_scenario.specs.declared.event.Event.{Event}
use Rattle.dx_scenario.specs.declared.fault.LineFault.{LineFault}
use Rattle.dx_scenario.specs.declared.fault.LineFault.TheVariants as faults
use Rattle.dx_scenario.specs.Parts.{Fails}
use Rattle.dx_scenario.specs.Events.{event_of}
use Rattle.dx_print.specs.declared.replies.Reply.{Reply}
use Rattle.dx_print.specs.Replies.{reply_line}
use Rattle.dx_cluster.specs.declared.cluster.Cluster.{Cluster}
use Rattle.dx_text.specs.declared.lines.Cut.TheVariants.{Line, Broken, End}
use Rattle.dx_text.specs.declared.lines.ReadError.{ReadError}
use Rattle.dx_text.specs.declared.lines.ReadError.TheVariants as errors
use Rattle.dx_text.specs.Lines.{newline, longest_line, has_newline, cut, with_byte, AreBroken, rest_of, CutsLine, ReadsOn}
use Rattle.dx_text.specs.Output.{AppendsFront}
use Rattle.dx_cluster.specs.declared.fault.StartFault.{StartFault}
use Rattle.dx_cluster.specs.declared.fault.StartFault.TheVariants as starts
use Rattle.dx_cluster.specs.World.{World, Steps, step, HasStepped, Breaks}
use Rattle.dx_io.specs.Rows.{Rows}
use Rattle.dx_history.specs.Chains.{BadAt, OtherGenesis}
use Rattle.dx_app.specs.Transcript.{Told, line_limit, told_after, ended, bad_line, or_bad, digest_at, event_told, line_told, lines_told, rest_told}
use Rattle.dx_app.specs.Runs.{is_fault, EndsAs, Says, IsRunOf, Holds, GoesOn, IsAnswered, EndsAtLine, EndsUnserved, EndsReading}
use Rattle.dx_text.proofs.Newlines.{cut_line, rest_at_end}
use Rattle.dx_app.proofs.Nodes.{IsStepped, stepped_world, digest_told}
use Rattle.dx_text.proofs.Outputs.{appends_nothing, appends_then, keeps_front, nothing_front, front_more, consumes_then, rest_is_input, read_is_input}

-- a fault ends a run behind a front of what is told
pub says_by_fault : (before now : Option (List ℕ)) (k : Option Rows) (t : Told) (s : Status) → is_fault s ≡ true → AppendsFront before now t.bytes → Says before now k t s
says_by_fault before now k t s e f = rw e f

-- a write ended early
pub says_at_fault : (before now : Option (List ℕ)) (k : Option Rows) (t : Told) (s : Status) → (s ≡ ends.WriteFault) ⊎ (s ≡ ends.NoMemory) → AppendsFront before now t.bytes → Says before now k t s
says_at_fault before now k t s (inl e) f = rw e f
says_at_fault before now k t s (inr e) f = rw e f

-- a text was written before
says_after : (before now end : Option (List ℕ)) (k : Option Rows) (out : List ℕ) (t : Told) (s : Status) → Appends before now out → Says now end k t s → Says before end k (told_after out t) s
says_after before now end k out t s a y =
    elim (is_fault s) as (λ b. MatchBool b (AppendsFront now end t.bytes) (EndsAs now end k t s) → MatchBool b (AppendsFront before end (out ++ t.bytes)) (EndsAs before end k (told_after out t) s)) [
      | true ↦ λ f. (out ++ f.0, appends_then before now end out f.0 a f.1, (f.2.0, append_assoc out f.0 f.2.0 ∙ ap (λ xs. out ++ xs) f.2.1))
      | false ↦ λ f. (appends_then before now end out t.bytes a f.0, f.1, f.2)
    ] y

-- the rows are those of a keeper that was not called
pub says_kept : (before now : Option (List ℕ)) (k : Option Rows) (rows : Rows) (t : Told) (s : Status) → k ≡ Some rows → Says before now (Some rows) t s → Says before now k t s
says_kept before now k rows t s e y = subst (λ r. Says before now r t s) (sym e) y

pub run_kept : (whole : List ℕ → Told) (left before now : Option (List ℕ)) (k : Option Rows) (rows : Rows) (s : Status) → k ≡ Some rows → IsRunOf whole left before now (Some rows) s → IsRunOf whole left before now k s
run_kept whole left before now k rows s e r = subst (λ q. IsRunOf whole left before now q s) (sym e) r

-- nothing was read or written, and the run ends at a fault
pub run_at_fault : (left before : Option (List ℕ)) (k : Option Rows) (whole : List ℕ → Told) (s : Status) → (s ≡ ends.ReadFault) ⊎ (s ≡ ends.NoMemory) → IsRunOf whole left before before k s
run_at_fault left before k whole s (inl e) = record { input = rest_of left; is = rest_is_input left; said = rw e (nothing_front before (whole (rest_of left)).bytes) }
run_at_fault left before k whole s (inr e) = record { input = rest_of left; is = rest_is_input left; said = rw e (nothing_front before (whole (rest_of left)).bytes) }

pub reading_fails : (e : ReadError) (s : Status) → EndsReading e s → (s ≡ ends.ReadFault) ⊎ (s ≡ ends.NoMemory)
reading_fails errors.Failed s h = inl h
reading_fails errors.NoMemory s h = inr h

-- bytes at hand, and then those that were read and a rest, are lines that are answered, and then those at hand and the rest
pub lines_at_hand : (before at_hand lines got rest : List ℕ) → before ++ got ≡ lines ++ at_hand → before ++ (got ++ rest) ≡ lines ++ (at_hand ++ rest)
lines_at_hand before at_hand lines got rest e = sym (append_assoc before got rest) ∙ ap (λ xs. xs ++ rest) e ∙ append_assoc lines at_hand rest

-- a run that has gone on ends
pub run_then : (whole : List ℕ → Told) (h0 h1 : List ℕ) (l0 l1 w0 w1 w2 : Option (List ℕ)) (k1 k2 : Option Rows) (c : Cluster) (n : ℕ) (s : Status) → GoesOn whole h0 h1 l0 l1 w0 w1 c k1 n
    → ((v : World) → Holds c k1 v → IsRunOf (λ rest. rest_told v n (h1 ++ rest)) l1 w1 w2 k2 s) → IsRunOf (λ rest. whole (h0 ++ rest)) l0 w0 w2 k2 s
run_then whole h0 h1 l0 l1 w0 w1 w2 k1 k2 c n s g y =
    let r = y g.world g.holds in
    record {
      input = g.got ++ r.input;
      is = read_is_input l0 l1 g.got r.input g.read r.is;
      said = subst (λ t. Says w0 w2 k2 t s) (g.told (h1 ++ r.input) ∙ ap whole (sym (lines_at_hand h0 h1 g.lines g.got r.input g.joined)))
          (says_after w0 w1 w2 k2 g.out (rest_told g.world n (h1 ++ r.input)) s g.wrote r.said);
    }

-- a run that has gone on goes on
pub goes_on_then : (whole : List ℕ → Told) (h0 h1 h2 : List ℕ) (l0 l1 l2 w0 w1 w2 : Option (List ℕ)) (k1 k2 : Option Rows) (c d : Cluster) (n m : ℕ) → GoesOn whole h0 h1 l0 l1 w0 w1 c k1 n
    → ((v : World) → Holds c k1 v → GoesOn (rest_told v n) h1 h2 l1 l2 w1 w2 d k2 m) → GoesOn whole h0 h2 l0 l2 w0 w2 d k2 m
goes_on_then whole h0 h1 h2 l0 l1 l2 w0 w1 w2 k1 k2 c d n m g y =
    let k = y g.world g.holds in
    record {
      world = k.world;
      holds = k.holds;
      got = g.got ++ k.got;
      read = consumes_then l0 l1 l2 g.got k.got g.read k.read;
      lines = g.lines ++ k.lines;
      joined = lines_at_hand h0 h1 g.lines g.got k.got g.joined ∙ ap (λ xs. g.lines ++ xs) k.joined ∙ sym (append_assoc g.lines k.lines h2);
      out = g.out ++ k.out;
      wrote = appends_then w0 w1 w2 g.out k.out g.wrote k.wrote;
      told = λ rest.
          ap (λ (xs : List ℕ). record { bytes = xs; status = (rest_told k.world m rest).status; rows = (rest_told k.world m rest).rows }) (append_assoc g.out k.out (rest_told k.world m rest).bytes)
          ∙ ap (told_after g.out) (k.told rest) ∙ g.told (k.lines ++ rest) ∙ ap whole (sym (append_assoc g.lines k.lines rest));
    }

-- nothing has been read or written
pub goes_on_first : (at_hand : List ℕ) (left written : Option (List ℕ)) (k : Option Rows) (c : Cluster) (w : World) (n : ℕ) → Consumes left left [] → Holds c k w → GoesOn (rest_told w n) at_hand at_hand left left written written c k n
goes_on_first at_hand left written k c w n nothing st = record {
  world = w;
  holds = st;
  got = [];
  read = nothing;
  lines = [];
  joined = append-nil at_hand;
  out = [];
  wrote = appends_nothing written;
  told = λ rest. refl;
}

-- the first line of a rest, where no limit is passed
pub rest_line : (w : World) (n : ℕ) (line rest : List ℕ) → has_newline line ≡ false → length line ≤ longest_line → n ≤ line_limit → rest_told w n (line ++ newline ∷ rest) ≡ line_told w n line (λ v. rest_told v (suc n) rest)
unfolding lines_told
rest_line w n line rest h short few =
    ap (λ c. lines_told w n c.lines c.tail) (cut_line line rest h) ∙ rw (le-ltb line_limit n few, le-ltb longest_line (length line) short) refl

-- the bytes of a line are at hand, and what follows it
pub line_at_hand : (h0 h1 line got : List ℕ) → h0 ++ got ≡ line ++ newline ∷ h1 → (rest : List ℕ) → h0 ++ (got ++ rest) ≡ line ++ newline ∷ (h1 ++ rest)
line_at_hand h0 h1 line got e rest = sym (append_assoc h0 got rest) ∙ ap (λ xs. xs ++ rest) e ∙ append_assoc line (newline ∷ h1) rest

-- a line with its newline, and a rest
pub line_then : (line rest : List ℕ) → (line ++ newline ∷ []) ++ rest ≡ line ++ newline ∷ rest
line_then line rest = append_assoc line (newline ∷ []) rest

-- a line is answered, and the run goes on behind it
pub line_goes_on : (h0 h1 line : List ℕ) (l0 l1 w0 w1 : Option (List ℕ)) (r : Option Rows) (c : Cluster) (w : World) (n : ℕ) → CutsLine h0 h1 line l0 l1 Line → n ≤ line_limit → IsAnswered w n line c r w0 w1
    → GoesOn (rest_told w n) h0 h1 l0 l1 w0 w1 c r (n + 1)
line_goes_on h0 h1 line l0 l1 w0 w1 r c w n k few a = record {
  world = a.world;
  holds = a.holds;
  got = k.got;
  read = k.read;
  lines = line ++ newline ∷ [];
  joined = k.is.0 ∙ sym (line_then line h1);
  out = a.out;
  wrote = a.wrote;
  told = λ rest. rw add-one (sym (ap (rest_told w n) (line_then line rest) ∙ rest_line w n line rest k.is.1 k.is.2 few ∙ a.told (λ v. rest_told v (suc n) rest)));
}

-- a line ends the run
pub line_ends : (h0 h1 line : List ℕ) (l0 l1 w0 w1 : Option (List ℕ)) (r : Option Rows) (w : World) (n : ℕ) (s : Status) → CutsLine h0 h1 line l0 l1 Line → n ≤ line_limit → ((next : World → Told) → Says w0 w1 r (line_told w n line next) s)
    → IsRunOf (λ rest. rest_told w n (h0 ++ rest)) l0 w0 w1 r s
line_ends h0 h1 line l0 l1 w0 w1 r w n s k few a = record {
  input = k.got ++ rest_of l1;
  is = read_is_input l0 l1 k.got (rest_of l1) k.read (rest_is_input l1);
  said = subst (λ t. Says w0 w1 r t s) (sym (ap (rest_told w n) (line_at_hand h0 h1 line k.got k.is.0 (rest_of l1)) ∙ rest_line w n line (h1 ++ rest_of l1) k.is.1 k.is.2 few)) (a (λ v. rest_told v (suc n) (h1 ++ rest_of l1)));
}

broken_told : (w : World) (n : ℕ) (lines : List (List ℕ)) (tail : List ℕ) → AreBroken lines tail → n ≤ line_limit → lines_told w n lines tail ≡ bad_line n 0 w.rows
unfolding lines_told
broken_told w n [] [] b few = absurd (omega (arith, b))
broken_told w n [] (x ∷ xs) b few = rw (le-ltb line_limit n few) refl
broken_told w n (line ∷ lines) tail b few = rw (le-ltb line_limit n few, lt-ltb longest_line (length line) b) refl

-- a line that is too long or has no newline ends the run
pub broken_ends : (h0 h1 line : List ℕ) (l0 l1 w0 w1 : Option (List ℕ)) (r : Option Rows) (w : World) (n : ℕ) (s : Status) → CutsLine h0 h1 line l0 l1 Broken → n ≤ line_limit → r ≡ Some w.rows → ((rows : Rows) → Says w0 w1 (Some rows) (bad_line n 0 rows) s)
    → IsRunOf (λ rest. rest_told w n (h0 ++ rest)) l0 w0 w1 r s
broken_ends h0 h1 line l0 l1 w0 w1 r w n s k few e a =
    let broken : rest_told w n (h0 ++ (k.got ++ rest_of l1)) ≡ bad_line n 0 w.rows = ap (rest_told w n) (sym (append_assoc h0 k.got (rest_of l1))) ∙ broken_told w n _ _ k.is few in
    record {
      input = k.got ++ rest_of l1;
      is = read_is_input l0 l1 k.got (rest_of l1) k.read (rest_is_input l1);
      said = subst (λ t. Says w0 w1 r t s) (sym broken) (says_kept w0 w1 r w.rows _ s e (a w.rows));
    }

pub nothing_at_hand : (h0 got rest : List ℕ) → h0 ++ got ≡ [] → rest ≡ [] → h0 ++ (got ++ rest) ≡ []
nothing_at_hand h0 got rest e r = sym (append_assoc h0 got rest) ∙ rw (e, r) refl

pub nothing_told : (w : World) (n : ℕ) → rest_told w n [] ≡ ended ends.Done w.rows
unfolding lines_told
nothing_told w n = refl

-- the input has ended
pub end_ends : (h0 h1 line : List ℕ) (l0 l1 written : Option (List ℕ)) (r : Option Rows) (w : World) (n : ℕ) → CutsLine h0 h1 line l0 l1 End → r ≡ Some w.rows → IsRunOf (λ rest. rest_told w n (h0 ++ rest)) l0 written written r ends.Done
end_ends h0 h1 line l0 l1 written r w n k e =
    let nothing : rest_told w n (h0 ++ (k.got ++ rest_of l1)) ≡ ended ends.Done w.rows = ap (rest_told w n) (nothing_at_hand h0 k.got (rest_of l1) k.is.0 k.is.2) ∙ nothing_told w n in
    record {
      input = k.got ++ rest_of l1;
      is = read_is_input l0 l1 k.got (rest_of l1) k.read (rest_is_input l1);
      said = subst (λ t. Says written written r t ends.Done) (sym nothing) (appends_nothing written, refl, e);
    }

-- there is a byte
IsSomething : List (List ℕ) → List ℕ → Type 0
IsSomething [] tail = 0 < length tail
IsSomething (line ∷ lines) tail = Unit {0}

with_byte_is : (b : ℕ) (lines : List (List ℕ)) (tail : List ℕ) → IsSomething (with_byte b lines tail).lines (with_byte b lines tail).tail
unfolding IsSomething
with_byte_is b [] tail = omega arith
with_byte_is b (line ∷ lines) tail = tt

something_cut : (bytes : List ℕ) → 0 < length bytes → IsSomething (cut bytes).lines (cut bytes).tail
unfolding IsSomething
something_cut [] h = h
something_cut (b ∷ bytes) h =
    elim (b == newline) as (λ t. IsSomething (cond t (record { lines = [] ∷ (cut bytes).lines; tail = (cut bytes).tail }) (with_byte b (cut bytes).lines (cut bytes).tail)).lines (cond t (record { lines = [] ∷ (cut bytes).lines; tail = (cut bytes).tail }) (with_byte b (cut bytes).lines (cut bytes).tail)).tail)
    [ true ↦ tt | false ↦ with_byte_is b (cut bytes).lines (cut bytes).tail ]

over_told : (w : World) (n : ℕ) (lines : List (List ℕ)) (tail : List ℕ) → line_limit < n → IsSomething lines tail → lines_told w n lines tail ≡ ended ends.Long w.rows
unfolding lines_told IsSomething
over_told w n [] [] h s = absurd (omega (arith, s))
over_told w n [] (x ∷ xs) h s = rw (lt-ltb line_limit n h) refl
over_told w n (line ∷ lines) tail h s = rw (lt-ltb line_limit n h) refl

-- bytes are left behind the last line that may be read
pub over_ends : (h0 h1 : List ℕ) (l0 l1 w0 w1 : Option (List ℕ)) (w : World) (s : Status) → ReadsOn h0 h1 l0 l1 → 0 < length h1 → ((rows : Rows) → Says w0 w1 (Some rows) (ended ends.Long rows) s) → IsRunOf (λ rest. rest_told w 1000001 (h0 ++ rest)) l0 w0 w1 (Some w.rows) s
over_ends h0 h1 l0 l1 w0 w1 w s r some a =
    let joined : h0 ++ (r.got ++ rest_of l1) ≡ h1 ++ rest_of l1 = sym (append_assoc h0 r.got (rest_of l1)) ∙ ap (λ xs. xs ++ rest_of l1) (sym r.joined) in
    let more : 0 < length (h1 ++ rest_of l1) = omega (arith, some, length-append h1 (rest_of l1)) in
    let over : rest_told w 1000001 (h0 ++ (r.got ++ rest_of l1)) ≡ ended ends.Long w.rows = ap (rest_told w 1000001) joined ∙ over_told w 1000001 _ _ (lit< tt) (something_cut (h1 ++ rest_of l1) more) in
    record {
      input = r.got ++ rest_of l1;
      is = read_is_input l0 l1 r.got (rest_of l1) r.read (rest_is_input l1);
      said = subst (λ t. Says w0 w1 (Some w.rows) t s) (sym over) (a w.rows);
    }

-- nothing is left behind the last line that may be read
pub none_over : (h0 h1 : List ℕ) (l0 l1 written : Option (List ℕ)) (w : World) → ReadsOn h0 h1 l0 l1 → h1 ≡ [] → IsAtEnd l1 → IsRunOf (λ rest. rest_told w 1000001 (h0 ++ rest)) l0 written written (Some w.rows) ends.Done
none_over h0 h1 l0 l1 written w r none at_end =
    let nothing : rest_told w 1000001 (h0 ++ (r.got ++ rest_of l1)) ≡ ended ends.Done w.rows = ap (rest_told w 1000001) (nothing_at_hand h0 r.got (rest_of l1) (sym r.joined ∙ none) (rest_at_end l1 at_end)) ∙ nothing_told w 1000001 in
    record {
      input = r.got ++ rest_of l1;
      is = read_is_input l0 l1 r.got (rest_of l1) r.read (rest_is_input l1);
      said = subst (λ t. Says written written (Some w.rows) t ends.Done) (sym nothing) (appends_nothing written, refl, refl);
    }

pub line_is : (w : World) (nodes n : ℕ) (line : List ℕ) (r : Result Event ℕ) (next : World → Told) → length w.nodes ≡ nodes → event_of nodes line ≡ r → line_told w n line next ≡ or_bad n w.rows r (λ e. event_told w n (step w e) next)
line_is w nodes n line r next c e = ap (λ k. or_bad n w.rows (event_of k line) (λ e. event_told w n (step w e) next)) c ∙ ap (λ q. or_bad n w.rows q (λ e. event_told w n (step w e) next)) e

-- a line that is no event
pub fault_ends : (w0 w1 : Option (List ℕ)) (k : Option Rows) (w : World) (nodes n : ℕ) (line : List ℕ) (fault : LineFault) (s : Status) (next : World → Told) → length w.nodes ≡ nodes → k ≡ Some w.rows
    → Fails fault (event_of nodes line) → EndsAtLine w0 w1 n fault s → Says w0 w1 k (line_told w n line next) s
fault_ends w0 w1 k w nodes n line (faults.Bad field) s next c kept f e =
    subst (λ t. Says w0 w1 k t s) (sym (line_is w nodes n line (Err field) next c f)) (says_kept w0 w1 k w.rows (bad_line n field w.rows) s kept (e w.rows))
fault_ends w0 w1 k w nodes n line faults.NoMemory s next c kept f e = says_at_fault w0 w1 k _ s (inr e.0) (keeps_front w0 w1 _ e.1)

-- a line that is an event, and what it comes to
pub event_is : (w : World) (nodes n : ℕ) (line : List ℕ) (e : Event) (s : Steps) (next : World → Told) → length w.nodes ≡ nodes → event_of nodes line ≡ Ok e → step w e ≡ s → line_told w n line next ≡ event_told w n s next
event_is w nodes n line e s next c o is = line_is w nodes n line (Ok e) next c o ∙ ap (λ x. event_told w n x next) is

-- an event that is not answered
pub unserved_ends : (w0 w1 : Option (List ℕ)) (k : Option Rows) (w : World) (nodes n : ℕ) (line : List ℕ) (e : Event) (fault : StartFault) (s : Status) (next : World → Told) → length w.nodes ≡ nodes → event_of nodes line ≡ Ok e
    → Breaks w (step w e) k fault → EndsUnserved w0 w1 fault s → Says w0 w1 k (line_told w n line next) s
unserved_ends w0 w1 k w nodes n line e starts.KeepFault s next c o b u = says_by_fault w0 w1 k _ s (ap is_fault u.0) (keeps_front w0 w1 _ u.1)
unserved_ends w0 w1 k w nodes n line e starts.NoMemory s next c o b u = says_by_fault w0 w1 k _ s (ap is_fault u.0) (keeps_front w0 w1 _ u.1)
unserved_ends w0 w1 k w nodes n line e (starts.KeptBad node height) s next c o b u =
    subst (λ t. Says w0 w1 k t s) (sym (event_is w nodes n line e (Err (node, BadAt height)) next c o b.0))
    (says_kept w0 w1 k w.rows (ended (ends.KeptBad node height) w.rows) s b.1 (u w.rows))
unserved_ends w0 w1 k w nodes n line e (starts.KeptOther node theirs ours) s next c o b u =
    let digest : ours ≡ digest_at w node = digest_told w e (node, OtherGenesis theirs) ours b.0 b.1 in
    subst (λ t. Says w0 w1 k t s) (ap (λ d. ended (ends.KeptOther node theirs d) w.rows) digest ∙ sym (event_is w nodes n line e (Err (node, OtherGenesis theirs)) next c o b.0))
    (says_kept w0 w1 k w.rows (ended (ends.KeptOther node theirs ours) w.rows) s b.2 (u w.rows))

pub line_event : (w : World) (nodes n : ℕ) (line text : List ℕ) (e : Event) (c : Cluster) (r : Reply) (rows : Option Rows) (next : World → Told) → length w.nodes ≡ nodes → event_of nodes line ≡ Ok e → (d : IsStepped (step w e) c r rows) → text ≡ reply_line n r
    → line_told w n line next ≡ told_after text (next d.behind.0)
line_event w nodes n line text e c r rows next k o d t =
    event_is w nodes n line e (Ok d.behind) next k o d.is ∙ ap (λ (x : Reply). told_after (reply_line n x) (next d.behind.0)) (sym d.done.replied) ∙ ap (λ xs. told_after xs (next d.behind.0)) (sym t)

-- a reply that is written in part
pub reply_ends : (w0 w1 : Option (List ℕ)) (k : Option Rows) (w : World) (nodes n : ℕ) (line text : List ℕ) (e : Event) (c : Cluster) (r : Reply) (s : Status) (next : World → Told) → length w.nodes ≡ nodes → event_of nodes line ≡ Ok e
    → HasStepped (step w e) c r k → text ≡ reply_line n r → AppendsFront w0 w1 text → (s ≡ ends.WriteFault) ⊎ (s ≡ ends.NoMemory) → Says w0 w1 k (line_told w n line next) s
reply_ends w0 w1 k w nodes n line text e c r s next m o h t f v =
    let d = stepped_world (step w e) c r k h in
    subst (λ x. Says w0 w1 k x s) (sym (line_event w nodes n line text e c r k next m o d t)) (says_at_fault w0 w1 k _ s v (front_more w0 w1 text (next d.behind.0).bytes f))

-- a reply that is written
pub is_answered : (w0 w1 : Option (List ℕ)) (k : Option Rows) (w : World) (nodes n : ℕ) (line text : List ℕ) (e : Event) (c : Cluster) (r : Reply) → length w.nodes ≡ nodes → event_of nodes line ≡ Ok e
    → HasStepped (step w e) c r k → text ≡ reply_line n r → Appends w0 w1 text → IsAnswered w n line c k w0 w1
is_answered w0 w1 k w nodes n line text e c r m o h t a =
    let d = stepped_world (step w e) c r k h in
    record {
      world = d.behind.0;
      holds = (d.done.stands, d.keeps);
      out = text;
      wrote = a;
      told = λ next. line_event w nodes n line text e c r k next m o d t;
    }
