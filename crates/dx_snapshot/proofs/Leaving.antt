-- Refusals that leave a keeper's count of faults.
use Rattle.std.proofs.Common.{◌≡◌, ℕ, Result, Ok, Err}
use Rattle.std.specs.Prelude.{IfErr}
use Rattle.dx_snapshot.specs.declared.fault.SnapFault.{SnapFault}
use Rattle.dx_snapshot.specs.declared.fault.SnapFault.TheVariants.{Digest, Malformed, OtherHeight, Failed, NoMemory}
use Rattle.dx_snapshot.specs.Faults.{SnapLeaves}

-- where the count is as before, every refusal leaves it
any_leaves : (before now : ℕ) (fault : SnapFault) → now ≡ before → SnapLeaves before now fault
any_leaves before now Digest e = e
any_leaves before now Malformed e = e
any_leaves before now (OtherHeight has) e = e
any_leaves before now Failed e = tt
any_leaves before now NoMemory e = tt

pub all_leave : {T : Type 0} (before now : ℕ) (result : Result T SnapFault) → now ≡ before → IfErr result (SnapLeaves before now)
all_leave before now (Ok value) e = tt
all_leave before now (Err fault) e = any_leaves before now fault e
