-- What is said of a block that is not applied.
use Rattle.std.specs.Prelude.{◌≡◌, Result, Err}
use Rattle.dx_types.specs.declared.Bad.{Bad as BadPart}
use Rattle.dx_operations.specs.declared.faults.BlockFault.{BlockFault}
use Rattle.dx_operations.specs.declared.faults.BlockFault.TheVariants.{Bad, NoMemory}

-- the fault is the first bad part, unless there was no memory
abbrev pub Refuses : {A : Type 0} → BlockFault → Result A BadPart → Type 0
Refuses NoMemory verdict = Unit {0}
Refuses (Bad part) verdict = verdict ≡ Err part
