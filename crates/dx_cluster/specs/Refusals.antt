-- What is answered for what a node refuses.
use Rattle.std.specs.Prelude.{◌≡◌, Option, Some, None, Result, Ok, Err, IsErr}
use Rattle.dx_types.specs.declared.no_memory.NoMemory.{NoMemory as OutOfMemory}
use Rattle.dx_operations.specs.declared.faults.BlockFault.{BlockFault}
use Rattle.dx_operations.specs.declared.faults.BlockFault.TheVariants as blocks
use Rattle.dx_node.specs.declared.refusal.Refusal.{Refusal as Cause}
use Rattle.dx_node.specs.declared.faults.CommitFault.{CommitFault}
use Rattle.dx_node.specs.declared.faults.CommitFault.TheVariants as commits
use Rattle.dx_cluster.specs.declared.fault.StartFault.{StartFault}
use Rattle.dx_cluster.specs.declared.fault.StartFault.TheVariants as starts
use Rattle.dx_print.specs.declared.answer.Answer.{Answer}
use Rattle.dx_print.specs.declared.answer.Answer.TheVariants as answers

-- a block is not good: the answer is its first bad part, unless there was no memory
abbrev pub AnswersBlock : BlockFault → Result Answer OutOfMemory → Type 0
AnswersBlock blocks.NoMemory answer = IsErr answer
AnswersBlock (blocks.Bad part) answer = answer ≡ Ok (answers.Bad part)

-- a block is not committed: the answer is its first bad part, unless the keeper failed or there was no memory
abbrev pub AnswersCommit : CommitFault → Result Answer StartFault → Type 0
AnswersCommit (commits.Bad part) answer = answer ≡ Ok (answers.Bad part)
AnswersCommit commits.KeepFault answer = answer ≡ Err starts.KeepFault
AnswersCommit commits.NoMemory answer = answer ≡ Err starts.NoMemory

-- the answer that an event is refused for a cause
abbrev pub cause_answer : Cause → Answer
cause_answer cause = answers.Refused cause.number cause.value

-- an event is refused: the answer tells the cause, unless there was no memory
abbrev pub AnswersCause : Option Cause → Result Answer OutOfMemory → Type 0
AnswersCause None answer = IsErr answer
AnswersCause (Some cause) answer = answer ≡ Ok (cause_answer cause)
