-- The text of answers.
use Rattle.std.specs.Prelude.{ℕ, Bool, if◌then◌else◌, List, [], ◌∷◌, ◌++◌, codes, Option}
use Rattle.std.specs.List.{flat_map}
use Rattle.dx_types.specs.declared.Bad.{Bad as BadPart}
use Rattle.dx_print.specs.declared.answer.Answer.{Answer}
use Rattle.dx_print.specs.declared.answer.Answer.TheVariants.{Heights, Filled, Rested, Dropped, Stopped, Refused, Done, Swept, Proposed, Bytes, Empty, Absent, Good, Bad, Balance, Amounts, Best, Audit, Digest, Waits, BadSnapshot}
use Rattle.dx_print.specs.Numbers.{spaced, spaced_option, spaced_hex}
use Rattle.dx_print.specs.Balances.{balance_text}
use Rattle.dx_print.specs.Audits.{audit_text}

-- what was filled, and the code that stopped the taking
abbrev pub stopped_text : ℕ → ℕ → List ℕ
stopped_text filled code = codes " stopped" ++ spaced filled ++ spaced code

-- the cause's number, and the value that the cause tells
abbrev pub refused_text : ℕ → Option ℕ → List ℕ
refused_text number value = codes " refused" ++ spaced number ++ spaced_option value

-- it was done, with a number where one is told
abbrev pub done_text : Option ℕ → List ℕ
done_text number = codes " ok" ++ spaced_option number

-- how many fills and offsets were made
abbrev pub swept_text : ℕ → ℕ → List ℕ
swept_text fills offsets = codes " swept" ++ spaced fills ++ spaced offsets

-- a proposed block by its height and counts
abbrev pub proposed_text : List ℕ → List ℕ
proposed_text numbers = codes " block" ++ flat_map spaced numbers

-- a good block
abbrev pub good_text : List ℕ → List ℕ
good_text numbers = codes " good" ++ flat_map spaced numbers

-- the part, its index, the fill and the code
abbrev pub bad_text : BadPart → List ℕ
bad_text b = codes " bad" ++ spaced b.part ++ spaced b.index ++ spaced b.fill ++ spaced b.code

-- the side of the trigger on which prices meet it, 1 above and 0 below, and the trigger
abbrev pub waits_text : Bool → ℕ → List ℕ
waits_text above trigger = spaced (if above then 1 else 0) ++ spaced trigger

-- why a node does not start from a snapshot
abbrev pub bad_snapshot_text : ℕ → List ℕ
bad_snapshot_text number = codes " bad" ++ spaced number

-- the text of an answer
abbrev pub answer_text : Answer → List ℕ
answer_text (Heights heights) = flat_map spaced heights
answer_text Filled = codes " filled"
answer_text (Rested filled) = codes " rested" ++ spaced filled
answer_text (Dropped filled) = codes " dropped" ++ spaced filled
answer_text (Stopped filled code) = stopped_text filled code
answer_text (Refused number value) = refused_text number value
answer_text (Done number) = done_text number
answer_text (Swept fills offsets) = swept_text fills offsets
answer_text (Proposed height ops fills msgs votes prices) = proposed_text (height ∷ ops ∷ fills ∷ msgs ∷ votes ∷ prices ∷ [])
answer_text (Bytes bytes) = spaced_hex bytes
answer_text Empty = codes " empty"
answer_text Absent = codes " none"
answer_text (Good numbers) = good_text numbers
answer_text (Bad part) = bad_text part
answer_text (Balance height account) = balance_text height account
answer_text (Amounts committed speculative) = spaced committed ++ spaced speculative
answer_text (Best levels) = flat_map spaced levels
answer_text (Audit audit) = audit_text audit
answer_text (Digest height digest) = spaced height ++ spaced_hex digest
answer_text (Waits above trigger) = waits_text above trigger
answer_text (BadSnapshot number) = bad_snapshot_text number
