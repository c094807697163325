-- The first line of an input, and the start of the nodes.
use Rattle.std.proofs.Common.{◌≡◌, ◌<◌, ◌≤◌, ◌+◌, ◌⊎◌, inl, inr, ℕ, zero, suc, List, [], ◌∷◌, ◌++◌, length, refl, sym, ap, subst, ◌∙◌, arith, append-nil, false, Option, Some, Result, Ok, Err}
use Rattle.std.specs.List.{range_with_len}
use Rattle.std.specs.FinMap.{empty}
use Rattle.std.proofs.lemmas.Bool.{le-ltb, lt-ltb}
use Rattle.std.specs.Io.KnownBytes.{Appends}
use Rattle.dx_types.specs.declared.Block.{Block}
use Rattle.dx_types.specs.declared.Genesis.{Genesis}
use Rattle.dx_spec.specs.Step.{◌>>=◌}
use Rattle.dx_types.specs.declared.status.Status.{Status}
use Rattle.dx_types.specs.declared.status.Status.TheVariants as ends
use Rattle.dx_io.specs.Rows.{Rows}
use Rattle.dx_codec.specs.Genesis.{digest_of}
use Rattle.dx_history.specs.Chains.{Unkept, BadAt, OtherGenesis, kept}
use Rattle.dx_scenario.specs.declared.fault.LineFault.{LineFault}
use Rattle.dx_scenario.specs.declared.fault.LineFault.TheVariants as faults
use Rattle.dx_scenario.specs.Parts.{Fails}
use Rattle.dx_scenario.specs.Genesis.{genesis_of}
use Rattle.dx_print.specs.Replies.{reply_line}
use Rattle.dx_cluster.specs.declared.cluster.Cluster.{Cluster}
use Rattle.dx_cluster.specs.declared.fault.StartFault.{StartFault}
use Rattle.dx_cluster.specs.declared.fault.StartFault.TheVariants as starts
use Rattle.dx_node_spec.specs.Node.{Node}
use Rattle.dx_cluster.specs.World.{World, node_of, nodes_of, opened, begun_all, Opens, IsBegun, OpenRefused}
use Rattle.dx_text.specs.declared.lines.Cut.TheVariants.{Line, Broken, End}
use Rattle.dx_text.specs.Lines.{newline, longest_line, has_newline, cut, AreBroken, rest_of, CutsLine}
use Rattle.dx_text.specs.Output.{AppendsFront}
use Rattle.dx_app.specs.Transcript.{Told, told_after, ended, bad_line, or_bad, rest_told, genesis_reply, started_told, genesis_told, genesis_in, scenario_told, scenario, lines_alone}
use Rattle.dx_app.specs.Runs.{is_fault, Says, AppendsLast, FollowsReplies, IsRunOf, KeepsLines, Holds, GoesOn, EndsAtLine, EndsUnserved, OpensTo}
use Rattle.dx_text.specs.Reading.{IsInput}
use Rattle.dx_text.proofs.Newlines.{cut_line, at_most_one}
use Rattle.dx_text.proofs.Outputs.{keeps_front, front_more, rest_is_input, read_is_input}
use Rattle.dx_app.proofs.Kept.{unserved_last, front_follows, alone_is}
use Rattle.dx_app.proofs.Runs.{says_by_fault, says_at_fault, says_kept, lines_at_hand, line_at_hand, line_then, nothing_at_hand, nothing_told}

genesis_line : (line rest : List ℕ) → has_newline line ≡ false → length line ≤ longest_line → genesis_in (cut (line ++ newline ∷ rest)).lines ≡ genesis_of line
genesis_line line rest h short = ap (λ c. genesis_in c.lines) (cut_line line rest h) ∙ rw (le-ltb longest_line (length line) short) refl

scenario_line : (rows : Rows) (line rest : List ℕ) → has_newline line ≡ false → length line ≤ longest_line → scenario rows (line ++ newline ∷ rest) ≡ or_bad 1 rows (genesis_of line) (λ first. genesis_told first rows (λ w. rest_told w 2 rest))
scenario_line rows line rest h short = ap (λ c. scenario_told rows c.lines c.tail) (cut_line line rest h) ∙ rw (le-ltb longest_line (length line) short) refl

-- the first line is at hand
first_at_hand : (h0 h1 line got : List ℕ) → h0 ≡ [] → h0 ++ got ≡ line ++ newline ∷ h1 → (rest : List ℕ) → got ++ rest ≡ line ++ newline ∷ (h1 ++ rest)
first_at_hand h0 h1 line got none e rest = ap (λ xs. xs ++ (got ++ rest)) (sym none) ∙ line_at_hand h0 h1 line got e rest

-- the first line is a good one
pub opens : (h0 h1 line : List ℕ) (l0 l1 : Option (List ℕ)) (first : ℕ × Genesis) → h0 ≡ [] → CutsLine h0 h1 line l0 l1 Line → genesis_of line ≡ Ok first → OpensTo first h1 l0 l1
opens h0 h1 line l0 l1 first none k e = record {
  got = k.got;
  read = k.read;
  lines = line ++ newline ∷ [];
  joined = ap (λ xs. xs ++ k.got) (sym none) ∙ k.is.0 ∙ sym (line_then line h1);
  few = at_most_one line k.is.1;
  genesis = λ rest. ap (λ xs. genesis_in (cut xs).lines) (line_then line rest) ∙ genesis_line line rest k.is.1 k.is.2 ∙ e;
  told = λ rows rest. ap (scenario rows) (line_then line rest) ∙ scenario_line rows line rest k.is.1 k.is.2 ∙ ap (λ r. or_bad 1 rows r (λ x. genesis_told x rows (λ w. rest_told w 2 rest))) e;
}

-- the first line is no genesis
pub opening_ends : (h0 h1 line : List ℕ) (l0 l1 w0 w1 : Option (List ℕ)) (rows : Rows) (fault : LineFault) (s : Status) → h0 ≡ [] → CutsLine h0 h1 line l0 l1 Line → Fails fault (genesis_of line) → EndsAtLine w0 w1 1 fault s → IsRunOf (scenario rows) l0 w0 w1 (Some rows) s
opening_ends h0 h1 line l0 l1 w0 w1 rows (faults.Bad field) s none k f e =
    let bad : scenario rows (k.got ++ rest_of l1) ≡ bad_line 1 field rows =
    ap (scenario rows) (first_at_hand h0 h1 line k.got none k.is.0 (rest_of l1)) ∙ scenario_line rows line (h1 ++ rest_of l1) k.is.1 k.is.2 ∙ ap (λ r. or_bad 1 rows r (λ x. genesis_told x rows (λ w. rest_told w 2 (h1 ++ rest_of l1)))) f in
    record {
      input = k.got ++ rest_of l1;
      is = read_is_input l0 l1 k.got (rest_of l1) k.read (rest_is_input l1);
      said = subst (λ t. Says w0 w1 (Some rows) t s) (sym bad) (e rows);
    }
opening_ends h0 h1 line l0 l1 w0 w1 rows faults.NoMemory s none k f e = record {
  input = k.got ++ rest_of l1;
  is = read_is_input l0 l1 k.got (rest_of l1) k.read (rest_is_input l1);
  said = says_at_fault w0 w1 (Some rows) _ s (inr e.0) (keeps_front w0 w1 _ e.1);
}

broken_scenario : (rows : Rows) (lines : List (List ℕ)) (tail : List ℕ) → AreBroken lines tail → scenario_told rows lines tail ≡ bad_line 1 0 rows
broken_scenario rows [] tail b = refl
broken_scenario rows (line ∷ lines) tail b = rw (lt-ltb longest_line (length line) b) refl

-- the first line is too long or has no newline
pub broken_opening : (h0 h1 line : List ℕ) (l0 l1 w0 w1 : Option (List ℕ)) (rows : Rows) (s : Status) → h0 ≡ [] → CutsLine h0 h1 line l0 l1 Broken → ((k : Rows) → Says w0 w1 (Some k) (bad_line 1 0 k) s) → IsRunOf (scenario rows) l0 w0 w1 (Some rows) s
broken_opening h0 h1 line l0 l1 w0 w1 rows s none k a =
    let broken : scenario rows (k.got ++ rest_of l1) ≡ bad_line 1 0 rows = ap (λ xs. scenario rows (xs ++ rest_of l1)) (ap (λ xs. xs ++ k.got) (sym none)) ∙ broken_scenario rows _ _ k.is in
    record {
      input = k.got ++ rest_of l1;
      is = read_is_input l0 l1 k.got (rest_of l1) k.read (rest_is_input l1);
      said = subst (λ t. Says w0 w1 (Some rows) t s) (sym broken) (a rows);
    }

-- there is no first line
pub no_opening : (h0 h1 line : List ℕ) (l0 l1 w0 w1 : Option (List ℕ)) (rows : Rows) (s : Status) → h0 ≡ [] → CutsLine h0 h1 line l0 l1 End → ((k : Rows) → Says w0 w1 (Some k) (bad_line 1 0 k) s) → IsRunOf (scenario rows) l0 w0 w1 (Some rows) s
no_opening h0 h1 line l0 l1 w0 w1 rows s none k a =
    let nothing : k.got ++ rest_of l1 ≡ [] = ap (λ xs. xs ++ (k.got ++ rest_of l1)) (sym none) ∙ nothing_at_hand h0 k.got (rest_of l1) k.is.0 k.is.2 in
    record {
      input = k.got ++ rest_of l1;
      is = read_is_input l0 l1 k.got (rest_of l1) k.read (rest_is_input l1);
      said = subst (λ t. Says w0 w1 (Some rows) t s) (sym (ap (scenario rows) nothing)) (a rows);
    }

-- the first node that is not started is one of the genesis
node_refused : (g : Genesis) (number : ℕ) (r : Result (List Block) Unkept) (u : ℕ × Unkept) → ◌≡◌ {A = Result Node (ℕ × Unkept)} (node_of g number r) (Err u) → number ≡ u.0
node_refused g number (Ok blocks) u e = absurd (cc)
node_refused g number (Err unkept) u e = cc

module _ (g : Genesis) (rows : Rows) (k n : ℕ) (rest : (v : ℕ × Unkept) → nodes_of g rows (range_with_len (k + 1) n) ≡ Err v → v.0 < k + 1 + n) (u : ℕ × Unkept) where
  others_within : (p : Node) (r : Result (List Node) (ℕ × Unkept)) → nodes_of g rows (range_with_len (k + 1) n) ≡ r → ◌≡◌ {A = Result (List Node) (ℕ × Unkept)} (r >>= λ ps. Ok (p ∷ ps)) (Err u) → u.0 < k + suc n
  others_within p (Ok ps) is e = absurd (cc)
  others_within p (Err own) is e =
      let same : own ≡ u = cc in
      let less : u.0 < k + 1 + n = rest u (is ∙ ap Err same) in
      omega (arith, less)

  first_within : (r : Result Node (ℕ × Unkept)) → node_of g k (kept g rows k) ≡ r
      → ◌≡◌ {A = Result (List Node) (ℕ × Unkept)} (r >>= λ p. nodes_of g rows (range_with_len (k + 1) n) >>= λ ps. Ok (p ∷ ps)) (Err u) → u.0 < k + suc n
  first_within (Ok p) is e = others_within p (nodes_of g rows (range_with_len (k + 1) n)) refl e
  first_within (Err own) is e =
      let same : own ≡ u = cc in
      let here : k ≡ u.0 = node_refused g k (kept g rows k) u (is ∙ ap Err same) in
      omega (arith, here)

nodes_within : (g : Genesis) (rows : Rows) (k n : ℕ) (u : ℕ × Unkept) → nodes_of g rows (range_with_len k n) ≡ Err u → u.0 < k + n
nodes_within g rows k zero u e = absurd (let no : ◌≡◌ {A = Result (List Node) (ℕ × Unkept)} (Ok []) (Err u) = e in cc)
nodes_within g rows k (suc n) u e = first_within g rows k n (λ v is. nodes_within g rows (k + 1) n v is) u (node_of g k (kept g rows k)) refl e

refused_within : (count : ℕ) (g : Genesis) (rows : Rows) (u : ℕ × Unkept) → opened count g rows ≡ Err u → u.0 ≤ count
refused_within count g rows u e = go (nodes_of g rows (range_with_len 0 count)) refl e
  where
    go : (r : Result (List Node) (ℕ × Unkept)) → nodes_of g rows (range_with_len 0 count) ≡ r
        → ◌≡◌ {A = Result World (ℕ × Unkept)} (r >>= λ ps. Ok (record { nodes = ps; slots = empty; rows = begun_all g rows (range_with_len 0 count) })) (Err u) → u.0 ≤ count
    go (Ok ps) is e = absurd (cc)
    go (Err own) is e =
        let same : own ≡ u = cc in
        let less : u.0 < 0 + count = nodes_within g rows 0 count u (is ∙ ap Err same) in
        omega (arith, less)

-- the world of nodes that are started
pub opened_world : (step : Result World (ℕ × Unkept)) (c : Cluster) (k : Option Rows) → Opens step c k → (w : World) × (step ≡ Ok w) × Holds c k w
opened_world (Ok w) c k o = (w, refl, (o.0, o.1))
opened_world (Err unkept) c k o = absurd o

module _ (rows : Rows) (first : ℕ × Genesis) (h1 : List ℕ) (l0 l1 w0 w1 : Option (List ℕ)) (o : OpensTo first h1 l0 l1) where
  -- the input, where nothing is read any more
  abbrev text : List ℕ
  text = o.got ++ rest_of l1

  is_text : IsInput l0 text
  is_text = read_is_input l0 l1 o.got (rest_of l1) o.read (rest_is_input l1)

  text_is : text ≡ o.lines ++ (h1 ++ rest_of l1)
  text_is = lines_at_hand [] h1 o.lines o.got (rest_of l1) o.joined

  genesis_is : genesis_in (cut text).lines ≡ Ok first
  genesis_is = ap (λ xs. genesis_in (cut xs).lines) text_is ∙ o.genesis (h1 ++ rest_of l1)

  text_told : (step : Result World (ℕ × Unkept)) → opened first.0 first.1 rows ≡ step → scenario rows text ≡ started_told first.1 rows step (λ w. rest_told w 2 (h1 ++ rest_of l1))
  text_told step e = ap (scenario rows) text_is ∙ o.told rows (h1 ++ rest_of l1) ∙ ap (λ r. started_told first.1 rows r (λ w. rest_told w 2 (h1 ++ rest_of l1))) e

  at_text : (k : Option Rows) (t : Told) (s : Status) → scenario rows text ≡ t → Says w0 w1 k t s → IsRunOf (scenario rows) l0 w0 w1 k s
  at_text k t s e y = record { input = text; is = is_text; said = subst (λ x. Says w0 w1 k x s) (sym e) y }

  -- the nodes are not started
  pub unopened_ends : (k : Option Rows) (fault : StartFault) (s : Status) → OpenRefused first.0 (opened first.0 first.1 rows) first.1 rows k fault → EndsUnserved w0 w1 fault s → IsRunOf (scenario rows) l0 w0 w1 k s
  unopened_ends k (starts.KeptBad node height) s r e =
      let begun : Rows = begun_all first.1 rows (range_with_len 0 node) in
      at_text k (ended (ends.KeptBad node height) begun) s (text_told (Err (node, BadAt height)) r.0) (says_kept w0 w1 k begun (ended (ends.KeptBad node height) begun) s r.1 (e begun))
  unopened_ends k (starts.KeptOther node theirs ours) s r e =
      let begun : Rows = begun_all first.1 rows (range_with_len 0 node) in
      at_text k (ended (ends.KeptOther node theirs (digest_of first.1)) begun) s (text_told (Err (node, OtherGenesis theirs)) r.0)
      (subst (λ d. Says w0 w1 k (ended (ends.KeptOther node theirs d) begun) s) r.1 (says_kept w0 w1 k begun (ended (ends.KeptOther node theirs ours) begun) s r.2 (e begun)))
  unopened_ends k starts.KeepFault s r e = at_text k _ s refl (says_by_fault w0 w1 k (scenario rows text) s (ap is_fault e.0) (keeps_front w0 w1 _ e.1))
  unopened_ends k starts.NoMemory s r e = at_text k _ s refl (says_by_fault w0 w1 k (scenario rows text) s (ap is_fault e.0) (keeps_front w0 w1 _ e.1))

  starting : (k : Option Rows) (count : ℕ) → count ≤ first.0 → IsBegun count first.1 rows k → AppendsLast w0 w1 → KeepsLines rows l0 w0 w1 k
  starting k count few b a = inl (record { input = text; is = is_text; first = first; genesis = genesis_is; count = count; few = few; keeps = b; silent = a })

  pub unopened_keeps : (k : Option Rows) (fault : StartFault) (s : Status) → OpenRefused first.0 (opened first.0 first.1 rows) first.1 rows k fault → EndsUnserved w0 w1 fault s → KeepsLines rows l0 w0 w1 k
  unopened_keeps k (starts.KeptBad node height) s r e = starting k node (refused_within first.0 first.1 rows (node, BadAt height) r.0) r.1 (unserved_last w0 w1 rows (starts.KeptBad node height) s e)
  unopened_keeps k (starts.KeptOther node theirs ours) s r e = starting k node (refused_within first.0 first.1 rows (node, OtherGenesis theirs) r.0) r.2 (unserved_last w0 w1 rows (starts.KeptOther node theirs ours) s e)
  unopened_keeps k starts.KeepFault s r e = starting k r.0 r.1 r.2 (unserved_last w0 w1 rows starts.KeepFault s e)
  unopened_keeps k starts.NoMemory s r e = starting k r.0 r.1 r.2 (unserved_last w0 w1 rows starts.NoMemory s e)

  module _ (w : World) (e : opened first.0 first.1 rows ≡ Ok w) where
    -- the reply to the first line is written in part, or there was no memory for it
    pub greeting_ends : (k : Option Rows) (s : Status) → AppendsFront w0 w1 (reply_line 1 (genesis_reply w)) → (s ≡ ends.WriteFault) ⊎ (s ≡ ends.NoMemory) → IsRunOf (scenario rows) l0 w0 w1 k s
    greeting_ends k s f v = at_text k _ s (text_told (Ok w) e) (says_at_fault w0 w1 k _ s v (front_more w0 w1 (reply_line 1 (genesis_reply w)) _ f))

    -- what is told of the first line, and then of what follows it
    first_told : (rest : List ℕ) → scenario rows (o.lines ++ rest) ≡ told_after (reply_line 1 (genesis_reply w)) (rest_told w 2 rest)
    first_told rest = o.told rows rest ∙ ap (λ r. started_told first.1 rows r (λ v. rest_told v 2 rest)) e

    alone_told : lines_alone rows o.lines ≡ told_after (reply_line 1 (genesis_reply w)) (ended ends.Done w.rows)
    alone_told =
        let told : scenario rows o.lines ≡ told_after (reply_line 1 (genesis_reply w)) (ended ends.Done w.rows) =
        ap (scenario rows) (sym (append-nil o.lines)) ∙ first_told [] ∙ ap (told_after (reply_line 1 (genesis_reply w))) (nothing_told w 2) in
        alone_is rows o.lines (ap (λ (t : Told). t.status) told) ∙ told

    pub greeting_keeps : (k : Option Rows) → k ≡ Some w.rows → AppendsFront w0 w1 (reply_line 1 (genesis_reply w)) → KeepsLines rows l0 w0 w1 k
    greeting_keeps k r f = inr (
      text,
      is_text,
      record {
        lines = o.lines;
        others = h1 ++ rest_of l1;
        joined = text_is;
        done = ap (λ (t : Told). t.status) alone_told;
        keeps = r ∙ ap (λ (t : Told). Some t.rows) (sym alone_told);
        answered = [];
        one = o.lines;
        split = refl;
        good = refl;
        few = o.few;
        last = ends.Done;
        wrote = subst (λ (t : Told). FollowsReplies [] (t.bytes ++ []) w0 w1) (sym alone_told)
            (front_follows w0 w1 _ (front_more w0 w1 (reply_line 1 (genesis_reply w) ++ []) [] (front_more w0 w1 (reply_line 1 (genesis_reply w)) [] f)));
      },
    )

    -- the reply to the first line is written
    pub greeted : (c : Cluster) (k : Option Rows) → Holds c k w → Appends w0 w1 (reply_line 1 (genesis_reply w)) → GoesOn (scenario rows) [] h1 l0 l1 w0 w1 c k 2
    greeted c k st a = record {
      world = w;
      holds = st;
      got = o.got;
      read = o.read;
      lines = o.lines;
      joined = o.joined;
      out = reply_line 1 (genesis_reply w);
      wrote = a;
      told = λ rest. sym (first_told rest);
    }
