-- How far a source is read.
use Rattle.std.specs.Prelude.{◌≡◌, ℕ, ◌≤◌, List, ◌++◌, length, false, Option, Some, None, ⊤}
use Rattle.std.specs.Io.KnownBytes.{Consumes}
use Rattle.dx_text.specs.Lines.{longest_line, has_newline}

-- the bytes of a source or a sink, where it tells them
abbrev pub Known : Type 0
Known = Option (List ℕ)

-- the most bytes that are read at once
abbrev pub buffer : ℕ
buffer = 4096

-- the input is what the source had left, where it tells that
abbrev pub IsInput : Known → List ℕ → Type 0
IsInput None input = ⊤
IsInput (Some bytes) input = input ≡ bytes

-- none of the bytes is a newline
abbrev pub HasNoNewline : List ℕ → Type 0
HasNoNewline bytes = has_newline bytes ≡ false

-- the front of a line, and then at most one buffer
pub record IsNear (bytes : List ℕ) : Type 0 where
  pub front : List ℕ
  pub ahead : List ℕ
  pub joined : bytes ≡ front ++ ahead
  pub unbroken : HasNoNewline front
  pub short : length front ≤ longest_line
  pub few : length ahead ≤ buffer

-- bytes are read behind those at hand, and together they are of a kind
pub record ReadsTo (at_hand : List ℕ) (left_before left : Known) (IsOfKind : List ℕ → Type 0) : Type 0 where
  pub got : List ℕ
  pub read : Consumes left_before left got
  pub kind : IsOfKind (at_hand ++ got)
