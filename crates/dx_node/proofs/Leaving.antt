-- Refusals that leave a keeper's count of faults.
use Rattle.std.proofs.Common.{◌≡◌, ℕ, Result, Ok, Err, refl, sym, subst}
use Rattle.std.specs.Prelude.{IfErr, IsErrOf}
use Rattle.dx_types.specs.declared.Block.{Block}
use Rattle.dx_history.specs.declared.fault.HistoryFault.{HistoryFault}
use Rattle.dx_history.specs.declared.fault.HistoryFault.TheVariants as rows
use Rattle.dx_node.specs.declared.faults.RestartFault.{RestartFault}
use Rattle.dx_node.specs.declared.faults.RestartFault.TheVariants as restarts
use Rattle.dx_node.specs.declared.faults.ResumeFault.{ResumeFault}
use Rattle.dx_node.specs.Faults.{row_fault}
use Rattle.dx_node.specs.Resumes.{resume_fault}
use Rattle.dx_node.specs.Counts.{RestartLeaves, ResumeLeaves}

-- where the count is as before, every refusal leaves it
pub any_leaves : (before now : ℕ) (fault : RestartFault) → now ≡ before → RestartLeaves before now fault
any_leaves before now (restarts.KeptBad height) e = e
any_leaves before now (restarts.KeptOther theirs ours) e = e
any_leaves before now restarts.KeepFault e = tt
any_leaves before now restarts.NoMemory e = tt

pub all_leave : {T : Type 0} (before now : ℕ) (result : Result T RestartFault) → now ≡ before → IfErr result (RestartLeaves before now)
all_leave before now (Ok value) e = tt
all_leave before now (Err fault) e = any_leaves before now fault e

-- a row that gives no block leaves it as the reading of the row does
leaves_as : (before now : ℕ) (fault : HistoryFault) (height : ℕ) → (IsErrOf {T = Block} (Err fault) rows.Bad → now ≡ before) → RestartLeaves before now (row_fault fault height)
leaves_as before now rows.Failed height f = tt
leaves_as before now rows.Bad height f = f refl
leaves_as before now rows.NoMemory height f = tt

pub row_leaves : (before now : ℕ) (fault : HistoryFault) (height : ℕ) (told : RestartFault) → told ≡ row_fault fault height → (IsErrOf {T = Block} (Err fault) rows.Bad → now ≡ before) → RestartLeaves before now told
row_leaves before now fault height told e f = subst (RestartLeaves before now) (sym e) (leaves_as before now fault height f)

-- and behind a call that left the count a refusal leaves it as before that call
pub leave_before : {T : Type 0} (before mid now : ℕ) (result : Result T RestartFault) → mid ≡ before → IfErr result (RestartLeaves mid now) → IfErr result (RestartLeaves before now)
leave_before before mid now result e h = subst (λ (n : ℕ). IfErr result (RestartLeaves n now)) e h

-- the same of a state from which a node does not resume
resume_as : (before now : ℕ) (fault : RestartFault) → RestartLeaves before now fault → ResumeLeaves before now (resume_fault fault)
resume_as before now (restarts.KeptBad height) h = h
resume_as before now (restarts.KeptOther theirs ours) h = h
resume_as before now restarts.KeepFault h = tt
resume_as before now restarts.NoMemory h = tt

pub resume_leaves : (before mid now : ℕ) (fault : RestartFault) (told : ResumeFault) → told ≡ resume_fault fault → mid ≡ before → RestartLeaves mid now fault → ResumeLeaves before now told
resume_leaves before mid now fault told e m h =
    subst (ResumeLeaves before now) (sym e) (resume_as before now fault (subst (λ (n : ℕ). RestartLeaves n now fault) m h))
