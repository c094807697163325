-- How far a reader of lines has read its source.
use Rattle.std.proofs.Common.{◌≡◌, ◌<◌, ◌≤◌, ◌⊎◌, inl, inr, ℕ, List, [], ◌++◌, length, refl, sym, ap, subst, ◌∙◌, arith, append-nil, false, Option, Some, None}
use Rattle.std.specs.Io.KnownBytes.{Keeps, Consumes}
use Rattle.dx_text.specs.Lines.{longest_line, has_newline, ReadsOn, TakesPieces, TakesAll}
use Rattle.dx_text.specs.Reading.{buffer, HasNoNewline, IsNear, ReadsTo}
use Rattle.dx_text.proofs.Outputs.{consumes_then}
use Rattle.dx_text.proofs.Newlines.{pieces_read}

keeps_consumes : (before left : Option (List ℕ)) → Keeps before left → Consumes before left []
keeps_consumes None left k = tt
keeps_consumes (Some xs) None k = absurd k
keeps_consumes (Some xs) (Some ys) k = sym k

front_near : (front ahead : List ℕ) → has_newline front ≡ false → length front ≤ longest_line → length ahead ≤ buffer → IsNear (front ++ ahead)
front_near front ahead h short few = record { front = front; ahead = ahead; joined = refl; unbroken = h; short = short; few = few }

-- at most one buffer
pub ahead_near : (bytes : List ℕ) → length bytes ≤ buffer → IsNear bytes
ahead_near bytes few = front_near [] bytes refl (omega arith) few

-- the front of a line
line_near : (line : List ℕ) → has_newline line ≡ false → length line ≤ longest_line → IsNear line
line_near line h short = subst IsNear (append-nil line) (front_near line [] h short (omega arith))

-- pieces of a line were taken, and then a buffer was read
pub pieces_near : (h0 h1 h2 line : List ℕ) (l0 l1 l2 : Option (List ℕ)) → TakesPieces h0 h1 line l0 l1 → ReadsOn h1 h2 l1 l2 → has_newline line ≡ false → length line ≤ longest_line → length h2 ≤ buffer → ReadsTo h0 l0 l2 IsNear
pieces_near h0 h1 h2 line l0 l1 l2 p r h short few =
    let q = pieces_read h0 h1 h2 line l0 l1 l2 p r in
    record { got = q.got; read = q.read; kind = subst IsNear (sym q.joined) (front_near line h2 h short few) }

-- pieces of a line were taken, and then a read failed
stopped : (h0 h1 line : List ℕ) (l0 l1 l2 : Option (List ℕ)) (IsOfKind : List ℕ → Type 0) → TakesPieces h0 h1 line l0 l1 → h1 ≡ [] → Keeps l1 l2 → IsOfKind line → ReadsTo h0 l0 l2 IsOfKind
stopped h0 h1 line l0 l1 l2 IsOfKind p none k is =
    let all : h0 ++ (p.got ++ []) ≡ line = ap (λ xs. h0 ++ xs) (append-nil p.got) ∙ p.joined ∙ ap (λ xs. line ++ xs) none ∙ append-nil line in
    record { got = p.got ++ []; read = consumes_then l0 l1 l2 p.got [] p.read (keeps_consumes l1 l2 k); kind = subst IsOfKind (sym all) is }

pub stopped_near : (h0 h1 line : List ℕ) (l0 l1 l2 : Option (List ℕ)) → TakesPieces h0 h1 line l0 l1 → h1 ≡ [] → Keeps l1 l2 → has_newline line ≡ false → length line ≤ longest_line → ReadsTo h0 l0 l2 IsNear
stopped_near h0 h1 line l0 l1 l2 p none k h short = stopped h0 h1 line l0 l1 l2 IsNear p none k (line_near line h short)

pub stopped_in_line : (h0 h1 line : List ℕ) (l0 l1 l2 : Option (List ℕ)) → TakesPieces h0 h1 line l0 l1 → h1 ≡ [] → Keeps l1 l2 → has_newline line ≡ false → ReadsTo h0 l0 l2 HasNoNewline
stopped_in_line h0 h1 line l0 l1 l2 p none k h = stopped h0 h1 line l0 l1 l2 HasNoNewline p none k h

-- one more piece of a line, with no newline
pub more_near : (h2 h3 line more : List ℕ) → has_newline line ≡ false → length line ≤ longest_line → length h2 ≤ buffer → TakesAll h2 h3 line more → IsNear (more ++ h3)
more_near h2 h3 line more h short few t =
    let all : more ++ h3 ≡ line ++ h2 = ap (λ xs. more ++ xs) t.emptied ∙ append-nil more ∙ t.joined in
    subst IsNear (sym all) (front_near line h2 h short few)

-- a line is too long already
pub over_near : (h0 h1 line : List ℕ) (l0 l1 : Option (List ℕ)) → TakesPieces h0 h1 line l0 l1 → (line ≡ []) ⊎ IsNear (line ++ h1) → longest_line < length line → ReadsTo h0 l0 l1 IsNear
over_near h0 h1 line l0 l1 p (inl none) long = let nothing : length line ≡ 0 = ap length none in absurd (omega (arith, nothing, long))
over_near h0 h1 line l0 l1 p (inr near) long = record { got = p.got; read = p.read; kind = subst IsNear (sym p.joined) near }

-- a buffer was read
pub read_near : (h0 h1 : List ℕ) (l0 l1 : Option (List ℕ)) → ReadsOn h0 h1 l0 l1 → length h1 ≤ buffer → ReadsTo h0 l0 l1 IsNear
read_near h0 h1 l0 l1 r few = record { got = r.got; read = r.read; kind = subst IsNear r.joined (ahead_near h1 few) }

-- a read failed where nothing was at hand
failed : (h0 : List ℕ) (l0 l1 : Option (List ℕ)) (IsOfKind : List ℕ → Type 0) → h0 ≡ [] → Keeps l0 l1 → IsOfKind [] → ReadsTo h0 l0 l1 IsOfKind
failed h0 l0 l1 IsOfKind none k is = record { got = []; read = keeps_consumes l0 l1 k; kind = subst IsOfKind (sym (append-nil h0 ∙ none)) is }

pub failed_near : (h0 : List ℕ) (l0 l1 : Option (List ℕ)) → h0 ≡ [] → Keeps l0 l1 → ReadsTo h0 l0 l1 IsNear
failed_near h0 l0 l1 none k = failed h0 l0 l1 IsNear none k (ahead_near [] (omega arith))

pub failed_in_line : (h0 : List ℕ) (l0 l1 : Option (List ℕ)) → h0 ≡ [] → Keeps l0 l1 → ReadsTo h0 l0 l1 HasNoNewline
failed_in_line h0 l0 l1 none k = failed h0 l0 l1 HasNoNewline none k refl
