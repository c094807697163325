-- The numbers of refusals, and how a fault agrees with what an operation answers.
use Rattle.std.specs.Prelude.{◌≡◌, ℕ, Result, Err}
use Rattle.dx_ledger.specs.declared.faults.OpFault.{OpFault}
use Rattle.dx_ledger.specs.declared.faults.OpFault.TheVariants.{Code, NoMemory}
use Rattle.dx_spec.specs.Codes as codes
use Rattle.dx_spec.specs.Operations.{Failure, at_fill}
use Rattle.dx_operations.specs.declared.faults.BlockFault.{BlockFault}
use Rattle.dx_operations.specs.declared.faults.BlockFault.TheVariants as block
use Rattle.dx_operations.specs.declared.refusals.OpRefusal.{OpRefusal}
use Rattle.dx_operations.specs.declared.refusals.OpRefusal.TheVariants.{BadOrder, NotNewer, UnknownTaker, UnknownMaker, EmptyMatch, BadRole}

-- the code of each refusal
abbrev pub code_of : OpRefusal → ℕ
code_of BadOrder = codes.bad_order
code_of NotNewer = codes.not_newer
code_of UnknownTaker = codes.unknown_taker
code_of UnknownMaker = codes.unknown_maker
code_of EmptyMatch = codes.empty_match
code_of BadRole = codes.bad_role

-- the fault of a first fill
abbrev pub op_fault : OpRefusal → OpFault
op_fault r = Code 0 (code_of r)

-- the fault of the fill or offset of a number
abbrev pub fault_at : ℕ → OpFault → OpFault
fault_at n (Code fill code) = Code n code
fault_at n NoMemory = NoMemory

-- the fault of the operation of a number
abbrev pub bad_at : ℕ → OpFault → BlockFault
bad_at n (Code fill code) = block.Bad (record { part = codes.operations_part; index = n; fill = fill; code = code })
bad_at n NoMemory = block.NoMemory

-- a fault is the failure that the definition gives; memory may be short at any time
abbrev pub IsFailureOf : {A : Type 0} → Result A Failure → OpFault → Type 0
IsFailureOf step (Code fill code) = step ≡ Err (at_fill fill code)
IsFailureOf step NoMemory = Unit {0}
