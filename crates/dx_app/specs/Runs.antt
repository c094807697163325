-- What a run has done so far, and how it ended.
use Rattle.std.specs.Prelude.{◌≡◌, ◌≤◌, ◌⊎◌, ℕ, Bool, true, false, List, [], ◌++◌, Option, Some, Ok, ⊤, MatchBool}
use Rattle.std.specs.List.{range_with_len}
use Rattle.std.specs.Io.KnownBytes.{Appends, Keeps, Consumes}
use Rattle.dx_types.specs.declared.Genesis.{Genesis}
use Rattle.dx_types.specs.declared.status.Status.{Status}
use Rattle.dx_types.specs.declared.status.Status.TheVariants.{Done, BadLine, Usage, KeptBad, KeptOther, Long, ReadFault, WriteFault, KeepFault, NoMemory}
use Rattle.dx_io.specs.Rows.{Rows}
use Rattle.dx_words.specs.declared.words.WordsFault.{WordsFault}
use Rattle.dx_words.specs.declared.words.WordsFault.TheVariants as asking
use Rattle.dx_scenario.specs.declared.fault.LineFault.{LineFault}
use Rattle.dx_scenario.specs.declared.fault.LineFault.TheVariants as faults
use Rattle.dx_print.specs.Statuses.{last_line}
use Rattle.dx_cluster.specs.declared.cluster.Cluster.{Cluster}
use Rattle.dx_cluster.specs.declared.fault.StartFault.{StartFault}
use Rattle.dx_cluster.specs.declared.fault.StartFault.TheVariants as starts
use Rattle.dx_cluster.specs.World.{World, Stands, KeepsRows, begun_all}
use Rattle.dx_text.specs.declared.lines.ReadError.{ReadError}
use Rattle.dx_text.specs.declared.lines.ReadError.TheVariants as errors
use Rattle.dx_text.specs.Lines.{cut, newlines_in}
use Rattle.dx_text.specs.Output.{IsPrefix, AppendsFront}
use Rattle.dx_text.specs.Reading.{IsInput}
use Rattle.dx_app.specs.Transcript.{Told, told_after, ended, bad_line, line_told, rest_told, genesis_in, genesis_told, scenario, lines_alone}

-- a fault of the outside, or want of memory
abbrev pub is_fault : Status → Bool
is_fault Done = false
is_fault (BadLine line field) = false
is_fault Usage = false
is_fault (KeptBad node height) = false
is_fault (KeptOther node kept ours) = false
is_fault Long = false
is_fault ReadFault = true
is_fault WriteFault = true
is_fault KeepFault = true
is_fault NoMemory = true

-- the run ends as is told: just that is written, the status is the told one, and so are the rows
abbrev pub EndsAs : Option (List ℕ) → Option (List ℕ) → Option Rows → Told → Status → Type 0
EndsAs written_before written rows_now told status = Appends written_before written told.bytes × (status ≡ told.status) × (rows_now ≡ Some told.rows)

-- the same, but at a fault only that a front of what is told is written
abbrev pub Says : Option (List ℕ) → Option (List ℕ) → Option Rows → Told → Status → Type 0
Says written_before written rows_now told status = MatchBool (is_fault status) (AppendsFront written_before written told.bytes) (EndsAs written_before written rows_now told status)

-- at most a front of a last line is written
abbrev pub AppendsLast : Option (List ℕ) → Option (List ℕ) → Type 0
AppendsLast written_before written = (last : Status) × AppendsFront written_before written (last_line last)

-- what was written and kept, and how the run ended, is what is told of the input; where the source does not tell what it had left, of some input
pub record IsRunOf (whole : List ℕ → Told) (left written_before written : Option (List ℕ)) (rows_now : Option Rows) (status : Status) : Type 0 where
  pub input : List ℕ
  pub is : IsInput left input
  pub said : Says written_before written rows_now (whole input) status

-- these replies are written whole, and then a front of what is told behind them; so no more is written than is told
pub record FollowsReplies (replies told : List ℕ) (written_before written : Option (List ℕ)) : Type 0 where
  -- just this is written
  pub out : List ℕ
  pub wrote : Appends written_before written out
  pub whole : IsPrefix replies out
  pub part : IsPrefix out told

-- just some lines at the front of a text are executed, and all of them but the last one are answered
pub record ExecutesLines (alone : List ℕ → Told) (text : List ℕ) (written_before written : Option (List ℕ)) (rows_now : Option Rows) : Type 0 where
  -- these lines, and what is not executed
  pub lines : List ℕ
  pub others : List ℕ
  pub joined : text ≡ lines ++ others
  -- they are whole, and good
  pub done : (alone lines).status ≡ Done
  -- just what they put is kept
  pub keeps : rows_now ≡ Some (alone lines).rows
  -- whole lines at first, and then at most one line
  pub answered : List ℕ
  pub one : List ℕ
  pub split : lines ≡ answered ++ one
  pub good : (alone answered).status ≡ Done
  pub few : newlines_in one ≤ 1
  -- a front of the replies to all of them is written, and then of the last line of a run: so no reply is written to what
  -- is not kept; and the replies to those at first are written whole: so a reply is written before the next line is executed
  pub last : Status
  pub wrote : FollowsReplies (alone answered).bytes ((alone lines).bytes ++ last_line last) written_before written

-- the same of the bytes at hand and an input that the source had left
abbrev pub Executes : (List ℕ → Told) → List ℕ → Option (List ℕ) → Option (List ℕ) → Option (List ℕ) → Option Rows → Type 0
Executes alone at_hand left written_before written rows_now =
    (input : List ℕ) × IsInput left input × ExecutesLines alone (at_hand ++ input) written_before written rows_now

-- not all nodes are started
pub record IsStarting (rows : Rows) (left written_before written : Option (List ℕ)) (rows_now : Option Rows) : Type 0 where
  -- the input, and the genesis of its first line
  pub input : List ℕ
  pub is : IsInput left input
  pub first : ℕ × Genesis
  pub genesis : genesis_in (cut input).lines ≡ Ok first
  -- of the rows at entry the digest of the genesis is put for so many of its nodes at most, those that had none
  pub count : ℕ
  pub few : count ≤ first.0
  pub keeps : rows_now ≡ Some (begun_all first.1 rows (range_with_len 0 count))
  -- no reply is written
  pub silent : AppendsLast written_before written

-- what is kept at the end of a run over these rows: of the first nodes their first rows, or all that is put by the lines that are executed
abbrev pub KeepsLines : Rows → Option (List ℕ) → Option (List ℕ) → Option (List ℕ) → Option Rows → Type 0
KeepsLines rows left written_before written rows_now =
    IsStarting rows left written_before written rows_now ⊎ Executes (lines_alone rows) [] left written_before written rows_now

-- what the program holds stands for the nodes and slots, and the keeper's rows are those of the world
abbrev pub Holds : Cluster → Option Rows → World → Type 0
Holds cluster rows w = Stands cluster w × KeepsRows rows w

-- of the bytes at hand and those that were read there are lines at first, which are answered, and the others are at hand;
-- what was written, and then what is told of any rest, is what the whole is told of those lines and that rest
pub record GoesOn (whole : List ℕ → Told) (before at_hand : List ℕ) (left_before left written_before written : Option (List ℕ)) (cluster : Cluster) (rows : Option Rows) (n : ℕ) : Type 0 where
  pub world : World
  pub holds : Holds cluster rows world
  pub got : List ℕ
  pub read : Consumes left_before left got
  pub lines : List ℕ
  pub joined : before ++ got ≡ lines ++ at_hand
  pub out : List ℕ
  pub wrote : Appends written_before written out
  pub told : (rest : List ℕ) → told_after out (rest_told world n rest) ≡ whole (lines ++ rest)

-- a line is read and executed, and its reply is written
pub record IsAnswered (w : World) (n : ℕ) (line : List ℕ) (cluster : Cluster) (rows : Option Rows) (written_before written : Option (List ℕ)) : Type 0 where
  pub world : World
  pub holds : Holds cluster rows world
  pub out : List ℕ
  pub wrote : Appends written_before written out
  pub told : (next : World → Told) → line_told w n line next ≡ told_after out (next world)

-- what is told of a line alone
abbrev pub line_alone : World → ℕ → List ℕ → Told
line_alone w n line = line_told w n line (λ v. ended Done v.rows)

-- a line is executed, and a front of its reply is written
pub record ExecutesLine (w : World) (n : ℕ) (line : List ℕ) (written_before written : Option (List ℕ)) (rows_now : Option Rows) : Type 0 where
  pub done : (line_alone w n line).status ≡ Done
  pub keeps : rows_now ≡ Some (line_alone w n line).rows
  pub wrote : AppendsFront written_before written (line_alone w n line).bytes

-- a run ends at a line, which is executed or not
abbrev pub StopsAtLine : World → ℕ → List ℕ → Option (List ℕ) → Option (List ℕ) → Option Rows → Type 0
StopsAtLine w n line written_before written rows_now =
    ((rows_now ≡ Some w.rows) × AppendsLast written_before written) ⊎ ExecutesLine w n line written_before written rows_now

-- how a fault of a line ends a run
abbrev pub EndsAtLine : Option (List ℕ) → Option (List ℕ) → ℕ → LineFault → Status → Type 0
EndsAtLine written_before written n (faults.Bad field) status = (rows : Rows) → Says written_before written (Some rows) (bad_line n field rows) status
EndsAtLine written_before written n faults.NoMemory status = (status ≡ NoMemory) × Keeps written_before written

-- how nodes that are not started, or an event that is not answered, end a run
abbrev pub EndsUnserved : Option (List ℕ) → Option (List ℕ) → StartFault → Status → Type 0
EndsUnserved written_before written (starts.KeptBad node height) status = (rows : Rows) → Says written_before written (Some rows) (ended (KeptBad node height) rows) status
EndsUnserved written_before written (starts.KeptOther node theirs ours) status = (rows : Rows) → Says written_before written (Some rows) (ended (KeptOther node theirs ours) rows) status
EndsUnserved written_before written starts.KeepFault status = (status ≡ KeepFault) × Keeps written_before written
EndsUnserved written_before written starts.NoMemory status = (status ≡ NoMemory) × Keeps written_before written

-- how words that are not read end a run
abbrev pub EndsUnasked : Option (List ℕ) → Option (List ℕ) → WordsFault → Status → Type 0
EndsUnasked written_before written asking.Usage status = (rows : Rows) → Says written_before written (Some rows) (ended Usage rows) status
EndsUnasked written_before written asking.NoMemory status = (status ≡ NoMemory) × Keeps written_before written

-- how a failed read ends a run
abbrev pub EndsReading : ReadError → Status → Type 0
EndsReading errors.Failed status = status ≡ ReadFault
EndsReading errors.NoMemory status = status ≡ NoMemory

-- the first line is a good one, and with what follows it the input is told
pub record OpensTo (first : ℕ × Genesis) (at_hand : List ℕ) (left_before left : Option (List ℕ)) : Type 0 where
  pub got : List ℕ
  pub read : Consumes left_before left got
  pub lines : List ℕ
  pub joined : got ≡ lines ++ at_hand
  pub few : newlines_in lines ≤ 1
  pub genesis : (rest : List ℕ) → genesis_in (cut (lines ++ rest)).lines ≡ Ok first
  pub told : (rows : Rows) (rest : List ℕ) → scenario rows (lines ++ rest) ≡ genesis_told first rows (λ w. rest_told w 2 rest)
