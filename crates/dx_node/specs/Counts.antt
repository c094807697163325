-- Which refusals of a call that has a keeper leave its count of faults: all but a fault of the keeper and want of memory.
use Rattle.std.specs.Prelude.{◌≡◌, ℕ}
use Rattle.dx_node.specs.declared.faults.CommitFault.{CommitFault}
use Rattle.dx_node.specs.declared.faults.CommitFault.TheVariants as commits
use Rattle.dx_node.specs.declared.faults.RestartFault.{RestartFault}
use Rattle.dx_node.specs.declared.faults.RestartFault.TheVariants as restarts
use Rattle.dx_node.specs.declared.faults.ResumeFault.{ResumeFault}
use Rattle.dx_node.specs.declared.faults.ResumeFault.TheVariants as resumes

-- a block that is not good leaves the count
abbrev pub CommitLeaves : ℕ → ℕ → CommitFault → Type 0
CommitLeaves before now (commits.Bad bad) = now ≡ before
CommitLeaves before now commits.KeepFault = Unit {0}
CommitLeaves before now commits.NoMemory = Unit {0}

-- rows that are none of a chain leave it
abbrev pub RestartLeaves : ℕ → ℕ → RestartFault → Type 0
RestartLeaves before now (restarts.KeptBad height) = now ≡ before
RestartLeaves before now (restarts.KeptOther theirs ours) = now ≡ before
RestartLeaves before now restarts.KeepFault = Unit {0}
RestartLeaves before now restarts.NoMemory = Unit {0}

-- and so does a state that is ahead of them
abbrev pub ResumeLeaves : ℕ → ℕ → ResumeFault → Type 0
ResumeLeaves before now (resumes.Ahead rows) = now ≡ before
ResumeLeaves before now (resumes.KeptBad height) = now ≡ before
ResumeLeaves before now (resumes.KeptOther theirs ours) = now ≡ before
ResumeLeaves before now resumes.KeepFault = Unit {0}
ResumeLeaves before now resumes.NoMemory = Unit {0}
