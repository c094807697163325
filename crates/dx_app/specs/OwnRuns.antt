-- How far a generated scenario is written.
use Rattle.std.specs.Prelude.{◌≡◌, ℕ, List, ◌++◌, Option}
use Rattle.std.specs.Io.KnownBytes.{Appends}
use Rattle.std.specs.List.{concat}

-- of the bytes some are written, and the others are those of the lines that are left
pub record Writes (whole : List ℕ) (before now : Option (List ℕ)) (lines : List (List ℕ)) : Type 0 where
  pub out : List ℕ
  pub wrote : Appends before now out
  pub joined : out ++ concat lines ≡ whole
