-- Which faults of a start or of an event leave the keeper's count of faults: all but a fault of the keeper and want of memory.
use Rattle.std.specs.Prelude.{◌≡◌, ℕ}
use Rattle.dx_cluster.specs.declared.fault.StartFault.{StartFault}
use Rattle.dx_cluster.specs.declared.fault.StartFault.TheVariants as starts

-- rows that are no chain leave the count
abbrev pub StartLeaves : ℕ → ℕ → StartFault → Type 0
StartLeaves before now (starts.KeptBad node height) = now ≡ before
StartLeaves before now (starts.KeptOther node theirs ours) = now ≡ before
StartLeaves before now starts.KeepFault = Unit {0}
StartLeaves before now starts.NoMemory = Unit {0}
