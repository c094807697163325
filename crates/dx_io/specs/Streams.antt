-- What an answer of a read says of the end of the input.
use Rattle.std.specs.Prelude.{◌≡◌, ℕ, List, [], Option, Some, None, ⊤, ◌↔◌}

-- the answer is 0 exactly where no known byte is left
abbrev pub TellsEnd : Option (List ℕ) → ℕ → Type 0
TellsEnd None count = ⊤
TellsEnd (Some bytes) count = (count ≡ 0) ↔ (bytes ≡ [])
