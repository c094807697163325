-- How far a run reads, and what it has answered by then: each line is answered before the next one is executed.
use Rattle.std.specs.Prelude.{◌≡◌, List, [], ◌++◌, ℕ}
use Rattle.std.specs.Io.KnownBytes.{Appends, Consumes}
use Rattle.dx_types.specs.declared.status.Status.TheVariants.{Done}
use Rattle.dx_text.specs.Reading.{Known, HasNoNewline, IsNear, ReadsTo}
use Rattle.dx_io.specs.Rows.{Rows}
use Rattle.dx_app.specs.Transcript.{Told, lines_alone}

-- something is written, or nothing
abbrev pub AppendsSome : Known → Known → Type 0
AppendsSome written_before written = (more : List ℕ) × Appends written_before written more

-- a failed read ends a run within a line, and nothing is written
pub record StopsInLine (at_hand : List ℕ) (left_before left written_before written : Known) : Type 0 where
  pub in_line : ReadsTo at_hand left_before left HasNoNewline
  pub silent : Appends written_before written []

-- of the bytes at hand and those that were read there are whole lines at first, which are answered, and then others;
-- what is told of those lines alone is written whole, and then some more
pub record HasAnswered (whole : List ℕ → Told) (at_hand : List ℕ)
    (left_before left written_before written : Known) (others more : List ℕ) : Type 0 where
  pub got : List ℕ
  pub read : Consumes left_before left got
  pub lines : List ℕ
  pub joined : at_hand ++ got ≡ lines ++ others
  pub done : (whole lines).status ≡ Done
  pub wrote : Appends written_before written ((whole lines).bytes ++ more)

-- all whole lines are answered, and nothing else is written
abbrev pub AnswersWholeLines : (List ℕ → Told) → List ℕ → Known → Known → Known → Known → Type 0
AnswersWholeLines whole at_hand left_before left written_before written =
    (others : List ℕ) × HasNoNewline others
    × HasAnswered whole at_hand left_before left written_before written others []

-- all whole lines are answered but for one front of a line and at most one buffer
abbrev pub AnswersAllBehind : (List ℕ → Told) → List ℕ → Known → Known → Known → Known → Type 0
AnswersAllBehind whole at_hand left_before left written_before written =
    (others more : List ℕ) × IsNear others
    × HasAnswered whole at_hand left_before left written_before written others more

-- just the replies to all lines are written that are whole in what was taken from the source
abbrev pub RepliesAreOut : Rows → Known → Known → Known → Known → Type 0
RepliesAreOut rows left_before left written_before written =
    AnswersWholeLines (lines_alone rows) [] left_before left written_before written

-- the source was read no further than the front of a line whose reply need not be written yet, and at most one buffer
abbrev pub ReadsNoFurther : Rows → Known → Known → Known → Known → Type 0
ReadsNoFurther rows left_before left written_before written =
    AnswersAllBehind (lines_alone rows) [] left_before left written_before written
