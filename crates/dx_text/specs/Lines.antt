-- The lines of an input, and how they are cut off.
use Rattle.std.specs.Prelude.{◌≡◌, ℕ, ◌<◌, ◌≤◌, ◌==◌, List, [], ◌∷◌, ◌++◌, length, count_by, Bool, true, false, if◌then◌else◌, Option, Some, None}
use Rattle.std.specs.List.{list_any}
use Rattle.std.specs.Io.KnownBytes.{Consumes}
use Rattle.dx_text.specs.declared.lines.Cut.{Cut}
use Rattle.dx_text.specs.declared.lines.Cut.TheVariants.{Line, Broken, End}

-- the byte that ends a line
abbrev pub newline : ℕ
newline = 10

-- the most bytes of a line, without its newline
abbrev pub longest_line : ℕ
longest_line = 1_048_576

-- a newline is among the bytes
abbrev pub has_newline : List ℕ → Bool
has_newline bytes = list_any (λ b. b == newline) bytes

-- how many of the bytes are newlines
abbrev pub newlines_in : List ℕ → ℕ
newlines_in bytes = count_by (λ b. b == newline) bytes

-- the lines that end in a newline, each without it, and what follows the last newline
pub record Input : Type 0 where
  pub lines : List (List ℕ)
  pub tail : List ℕ

-- a byte before all else
abbrev pub with_byte : ℕ → List (List ℕ) → List ℕ → Input
with_byte b [] tail = record { lines = []; tail = b ∷ tail }
with_byte b (line ∷ lines) tail = record { lines = (b ∷ line) ∷ lines; tail = tail }

-- the bytes, cut at their newlines
abbrev pub cut : List ℕ → Input
cut [] = record { lines = []; tail = [] }
cut (b ∷ bytes) = if b == newline then record { lines = [] ∷ (cut bytes).lines; tail = (cut bytes).tail } else with_byte b (cut bytes).lines (cut bytes).tail

-- the first line is too long, or has no newline
abbrev pub AreBroken : List (List ℕ) → List ℕ → Type 0
AreBroken [] tail = 0 < length tail
AreBroken (line ∷ lines) tail = longest_line < length line

-- what is left of a source, nothing where it does not tell
abbrev pub rest_of : Option (List ℕ) → List ℕ
rest_of None = []
rest_of (Some bytes) = bytes

-- what an answer says of bytes at hand, of the bytes at hand after it, and of the rest
abbrev pub IsCut : List ℕ → Cut → List ℕ → List ℕ → List ℕ → Type 0
IsCut bytes Line line after rest = (bytes ≡ line ++ newline ∷ after) × (has_newline line ≡ false) × (length line ≤ longest_line)
IsCut bytes Broken line after rest = AreBroken (cut (bytes ++ rest)).lines (cut (bytes ++ rest)).tail
IsCut bytes End line after rest = (bytes ≡ []) × (after ≡ []) × (rest ≡ [])

-- a line is cut off the bytes at hand and those that were read behind them
pub record CutsLine (at_hand after line : List ℕ) (left_before left : Option (List ℕ)) (answer : Cut) : Type 0 where
  pub got : List ℕ
  pub read : Consumes left_before left got
  pub is : IsCut (at_hand ++ got) answer line after (rest_of left)

-- bytes are read behind those at hand
pub record ReadsOn (at_hand after : List ℕ) (left_before left : Option (List ℕ)) : Type 0 where
  pub got : List ℕ
  pub read : Consumes left_before left got
  pub joined : after ≡ at_hand ++ got

-- bytes are read behind those at hand, and a piece of a line is taken off the front
pub record TakesPieces (at_hand after line : List ℕ) (left_before left : Option (List ℕ)) : Type 0 where
  pub got : List ℕ
  pub read : Consumes left_before left got
  pub joined : at_hand ++ got ≡ line ++ after

-- a piece goes from the bytes at hand to a line, up to their first newline and with it
pub record TakesToNewline (old new line with_piece : List ℕ) : Type 0 where
  pub piece : List ℕ
  pub cut_off : old ≡ piece ++ newline ∷ new
  pub joined : with_piece ≡ line ++ piece
  pub unbroken : has_newline piece ≡ false

-- all of the bytes at hand go to a line, and none is a newline
pub record TakesAll (old new line with_piece : List ℕ) : Type 0 where
  pub emptied : new ≡ []
  pub joined : with_piece ≡ line ++ old
  pub unbroken : has_newline old ≡ false

-- the bytes at hand go to a line, up to their first newline, if there is one
abbrev pub Takes : Bool → List ℕ → List ℕ → List ℕ → List ℕ → Type 0
Takes true old new line with_piece = TakesToNewline old new line with_piece
Takes false old new line with_piece = TakesAll old new line with_piece

-- what the end of an input makes of the bytes of its last line
abbrev pub EndsLine : Cut → List ℕ → Type 0
EndsLine Line line = ⊥
EndsLine Broken line = 0 < length line
EndsLine End line = line ≡ []
