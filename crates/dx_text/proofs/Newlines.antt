-- Lists of bytes, and their first newline.
use Rattle.std.proofs.Common.{◌≡◌, ◌≤◌, ◌<◌, ◌+◌, ◌==◌, ℕ, List, [], ◌∷◌, ◌++◌, take, drop, length, arith, refl, sym, ap, subst, ◌∙◌, true, false, cond, get_or, ◌||◌, add-one, suc, append_assoc, append-nil, Option, Some, None}
use Rattle.std.proofs.Math.Seq.{drop-cons}
use Rattle.std.proofs.lemmas.List.{take-append-drop, take_more}
use Rattle.std.proofs.lemmas.List.Folds.{list_any-append}
use Rattle.std.proofs.lemmas.List.Sums.{sum_by-cons}
use Rattle.std.proofs.lemmas.Bool.{ne_eqb}
use Rattle.std.specs.Io.KnownBytes.{Consumes, IsAtEnd}
use Rattle.dx_text.specs.declared.lines.Cut.{Cut}
use Rattle.dx_text.specs.declared.lines.Cut.TheVariants.{Line, Broken, End}
use Rattle.dx_text.specs.Lines.{newline, longest_line, has_newline, newlines_in, with_byte, cut, AreBroken, rest_of, CutsLine, ReadsOn, TakesPieces, TakesToNewline, TakesAll, EndsLine}
use Rattle.dx_text.proofs.Outputs.{consumes_nothing, consumes_then}

pub split_at_newline : (bytes : List ℕ) (i : ℕ) → i < length bytes → get_or bytes i 0 ≡ newline → bytes ≡ take i bytes ++ newline ∷ drop (i + 1) bytes
split_at_newline bytes i h e =
    let d : drop i bytes ≡ newline ∷ drop (i + 1) bytes = rw add-one (drop-cons bytes i 0 h ∙ ap (λ x. x ∷ drop (suc i) bytes) e) in
    sym (take-append-drop i bytes) ∙ ap (λ xs. take i bytes ++ xs) d

pub none_more : (bytes : List ℕ) (i : ℕ) → i < length bytes → has_newline (take i bytes) ≡ false → (get_or bytes i 0 ≡ newline → ⊥) → has_newline (take (i + 1) bytes) ≡ false
none_more bytes i h none other =
    ap has_newline (take_more bytes i 0 h) ∙ list_any-append (λ b. b == newline) (take i bytes) (get_or bytes i 0 ∷ []) ∙ rw (none, ne_eqb (get_or bytes i 0) newline other) refl

first_without : (b : ℕ) (bytes : List ℕ) → has_newline (b ∷ bytes) ≡ false → ((b == newline) ≡ false) × (has_newline bytes ≡ false)
first_without b bytes h = elim (b == newline) as (λ t. (t || has_newline bytes) ≡ false → (t ≡ false) × (has_newline bytes ≡ false)) [ true ↦ λ e. cc | false ↦ λ e. (refl, e) ] h

both_without : (xs ys : List ℕ) → has_newline xs ≡ false → has_newline ys ≡ false → has_newline (xs ++ ys) ≡ false
both_without xs ys p q = list_any-append (λ b. b == newline) xs ys ∙ rw (p, q) refl

-- a line with its newline has one
one_newline : (line : List ℕ) → has_newline line ≡ false → newlines_in (line ++ newline ∷ []) ≡ 1
one_newline [] h = refl
one_newline (b ∷ line) h =
    let both = first_without b line h in
    sum_by-cons (λ x. cond (x == newline) 1 0) b (line ++ newline ∷ []) ∙ ap (λ n. cond (b == newline) 1 0 + n) (one_newline line both.1) ∙ ap (λ t. cond t 1 0 + 1) both.0

pub at_most_one : (line : List ℕ) → has_newline line ≡ false → newlines_in (line ++ newline ∷ []) ≤ 1
at_most_one line h = subst (λ n. n ≤ 1) (sym (one_newline line h)) (omega arith)

-- bytes with no newline are no whole line
pub cut_tail : (bytes : List ℕ) → has_newline bytes ≡ false → cut bytes ≡ record { lines = []; tail = bytes }
cut_tail [] h = refl
cut_tail (b ∷ bytes) h =
    let both = first_without b bytes h in
    rw (both.0, cut_tail bytes both.1) refl

-- bytes up to a newline are the first line
pub cut_line : (line rest : List ℕ) → has_newline line ≡ false → cut (line ++ newline ∷ rest) ≡ record { lines = line ∷ (cut rest).lines; tail = (cut rest).tail }
cut_line [] rest h = refl
cut_line (b ∷ line) rest h =
    let both = first_without b line h in
    rw (both.0, cut_line line rest both.1) refl

-- how long the first line is at least
first_len : List (List ℕ) → List ℕ → ℕ
first_len [] tail = length tail
first_len (line ∷ lines) tail = length line

first_len-with_byte : (b : ℕ) (lines : List (List ℕ)) (tail : List ℕ) → first_len (with_byte b lines tail).lines (with_byte b lines tail).tail ≡ suc (first_len lines tail)
unfolding first_len
first_len-with_byte b [] tail = refl
first_len-with_byte b (line ∷ lines) tail = refl

starts_with_long : (piece rest : List ℕ) → has_newline piece ≡ false → length piece ≤ first_len (cut (piece ++ rest)).lines (cut (piece ++ rest)).tail
starts_with_long [] rest h = omega arith
starts_with_long (b ∷ piece) rest h =
    let both = first_without b piece h in
    rw both.0 (rw (first_len-with_byte b (cut (piece ++ rest)).lines (cut (piece ++ rest)).tail) (omega (arith, starts_with_long piece rest both.1)))

broken_by_length : (lines : List (List ℕ)) (tail : List ℕ) → longest_line < first_len lines tail → AreBroken lines tail
unfolding first_len
broken_by_length [] tail h = omega arith
broken_by_length (line ∷ lines) tail h = h

-- a piece that is too long, with no newline, is broken, whatever follows it
broken_long : (piece rest : List ℕ) → has_newline piece ≡ false → longest_line < length piece → AreBroken (cut (piece ++ rest)).lines (cut (piece ++ rest)).tail
broken_long piece rest h long = broken_by_length _ _ (omega (arith, starts_with_long piece rest h))

broken_tail : (bytes : List ℕ) → has_newline bytes ≡ false → 0 < length bytes → AreBroken (cut bytes).lines (cut bytes).tail
broken_tail bytes h some = rw (cut_tail bytes h) some

-- a read where nothing is at hand
pub filled : (at_hand after : List ℕ) (before left : Option (List ℕ)) → at_hand ≡ [] → Consumes before left after → ReadsOn at_hand after before left
filled at_hand after before left e c = record { got = after; read = c; joined = ap (λ xs. xs ++ after) (sym e) }

-- no read where there is something at hand
pub not_filled : (at_hand : List ℕ) (left : Option (List ℕ)) → ReadsOn at_hand at_hand left left
not_filled at_hand left = record { got = []; read = consumes_nothing left; joined = sym (append-nil at_hand) }

-- no piece of a line yet
pub no_pieces : (at_hand line : List ℕ) (left : Option (List ℕ)) → line ≡ [] → TakesPieces at_hand at_hand line left left
no_pieces at_hand line left e = record { got = []; read = consumes_nothing left; joined = append-nil at_hand ∙ ap (λ xs. xs ++ at_hand) (sym e) }

pub pieces_read : (h0 h1 h2 line : List ℕ) (l0 l1 l2 : Option (List ℕ)) → TakesPieces h0 h1 line l0 l1 → ReadsOn h1 h2 l1 l2 → TakesPieces h0 h2 line l0 l2
pieces_read h0 h1 h2 line l0 l1 l2 p r = record {
  got = p.got ++ r.got;
  read = consumes_then l0 l1 l2 p.got r.got p.read r.read;
  joined = sym (append_assoc h0 p.got r.got) ∙ ap (λ xs. xs ++ r.got) p.joined ∙ append_assoc line h1 r.got ∙ ap (λ xs. line ++ xs) (sym r.joined);
}

-- one more piece, with no newline
pub more_pieces : (h0 h1 h2 h3 line more : List ℕ) (l0 l1 l2 : Option (List ℕ)) → TakesPieces h0 h1 line l0 l1 → ReadsOn h1 h2 l1 l2 → TakesAll h2 h3 line more → TakesPieces h0 h3 more l0 l2
more_pieces h0 h1 h2 h3 line more l0 l1 l2 p r t =
    let q = pieces_read h0 h1 h2 line l0 l1 l2 p r in
    record { got = q.got; read = q.read; joined = q.joined ∙ sym t.joined ∙ sym (append-nil more) ∙ ap (λ xs. more ++ xs) (sym t.emptied) }

pub unbroken_more : (h2 h3 line more : List ℕ) → has_newline line ≡ false → TakesAll h2 h3 line more → has_newline more ≡ false
unbroken_more h2 h3 line more h t = ap has_newline t.joined ∙ both_without line h2 h t.unbroken

-- the piece up to a newline
last_piece : (h0 h1 h2 h3 line whole : List ℕ) (l0 l1 l2 : Option (List ℕ)) (p : TakesPieces h0 h1 line l0 l1) (r : ReadsOn h1 h2 l1 l2) → TakesToNewline h2 h3 line whole
    → h0 ++ (p.got ++ r.got) ≡ whole ++ newline ∷ h3
unfolding pieces_read
last_piece h0 h1 h2 h3 line whole l0 l1 l2 p r t =
    (pieces_read h0 h1 h2 line l0 l1 l2 p r).joined ∙ ap (λ xs. line ++ xs) t.cut_off ∙ sym (append_assoc line t.piece (newline ∷ h3)) ∙ ap (λ xs. xs ++ newline ∷ h3) (sym t.joined)

unbroken_whole : (h2 h3 line whole : List ℕ) → has_newline line ≡ false → TakesToNewline h2 h3 line whole → has_newline whole ≡ false
unbroken_whole h2 h3 line whole h t = ap has_newline t.joined ∙ both_without line t.piece h t.unbroken

-- a whole line
pub cuts_line : (h0 h1 h2 h3 line whole : List ℕ) (l0 l1 l2 : Option (List ℕ)) → TakesPieces h0 h1 line l0 l1 → ReadsOn h1 h2 l1 l2 → has_newline line ≡ false → TakesToNewline h2 h3 line whole → length whole ≤ longest_line
    → CutsLine h0 h3 whole l0 l2 Line
cuts_line h0 h1 h2 h3 line whole l0 l1 l2 p r h t short = record {
  got = p.got ++ r.got;
  read = consumes_then l0 l1 l2 p.got r.got p.read r.read;
  is = (last_piece h0 h1 h2 h3 line whole l0 l1 l2 p r t, unbroken_whole h2 h3 line whole h t, short);
}

-- a line that its last piece makes too long
pub cuts_long : (h0 h1 h2 h3 line whole : List ℕ) (l0 l1 l2 : Option (List ℕ)) → TakesPieces h0 h1 line l0 l1 → ReadsOn h1 h2 l1 l2 → has_newline line ≡ false → TakesToNewline h2 h3 line whole → longest_line < length whole
    → CutsLine h0 h3 whole l0 l2 Broken
cuts_long h0 h1 h2 h3 line whole l0 l1 l2 p r h t long =
    let joined : (h0 ++ (p.got ++ r.got)) ++ rest_of l2 ≡ whole ++ (newline ∷ h3 ++ rest_of l2) =
    ap (λ xs. xs ++ rest_of l2) (last_piece h0 h1 h2 h3 line whole l0 l1 l2 p r t) ∙ append_assoc whole (newline ∷ h3) (rest_of l2) in
    record {
      got = p.got ++ r.got;
      read = consumes_then l0 l1 l2 p.got r.got p.read r.read;
      is = rw joined (broken_long whole (newline ∷ h3 ++ rest_of l2) (unbroken_whole h2 h3 line whole h t) long);
    }

-- a line that is too long already
pub cuts_over_long : (h0 h1 line : List ℕ) (l0 l1 : Option (List ℕ)) → TakesPieces h0 h1 line l0 l1 → has_newline line ≡ false → longest_line < length line → CutsLine h0 h1 line l0 l1 Broken
cuts_over_long h0 h1 line l0 l1 p h long =
    let joined : (h0 ++ p.got) ++ rest_of l1 ≡ line ++ (h1 ++ rest_of l1) = ap (λ xs. xs ++ rest_of l1) p.joined ∙ append_assoc line h1 (rest_of l1) in
    record { got = p.got; read = p.read; is = rw joined (broken_long line (h1 ++ rest_of l1) h long) }

pub rest_at_end : (left : Option (List ℕ)) → IsAtEnd left → rest_of left ≡ []
rest_at_end None e = refl
rest_at_end (Some xs) e = e

-- the end of the input
pub cuts_end : (h0 h1 h2 line : List ℕ) (l0 l1 l2 : Option (List ℕ)) (answer : Cut) → TakesPieces h0 h1 line l0 l1 → ReadsOn h1 h2 l1 l2 → has_newline line ≡ false → h2 ≡ [] → IsAtEnd l2 → EndsLine answer line
    → CutsLine h0 h2 line l0 l2 answer
cuts_end h0 h1 h2 line l0 l1 l2 Line p r h none at_end e = absurd e
cuts_end h0 h1 h2 line l0 l1 l2 Broken p r h none at_end e =
    let q = pieces_read h0 h1 h2 line l0 l1 l2 p r in
    let whole : (h0 ++ q.got) ++ rest_of l2 ≡ line =
    ap (λ xs. (h0 ++ q.got) ++ xs) (rest_at_end l2 at_end) ∙ append-nil (h0 ++ q.got) ∙ q.joined ∙ ap (λ xs. line ++ xs) none ∙ append-nil line in
    record { got = q.got; read = q.read; is = rw whole (broken_tail line h e) }
cuts_end h0 h1 h2 line l0 l1 l2 End p r h none at_end e =
    let q = pieces_read h0 h1 h2 line l0 l1 l2 p r in
    record { got = q.got; read = q.read; is = (q.joined ∙ rw (e, none) refl, none, rest_at_end l2 at_end) }
