-- The blocks in slots.
use Rattle.std.specs.Ordering.{nat_cmp}
use Rattle.std.specs.Coded.{Coded, coded_ℕ}
use Rattle.std.specs.FinMap.{FinMap, code}
use Rattle.dx_types.specs.declared.Block.{Block}
use Rattle.dx_types.specs.contracts.Block as block

-- blocks, by slot
abbrev pub Stored : Type 0
Stored = FinMap nat_cmp Block

-- their code, so that a model may have them as its value
abbrev pub coded_stored : Coded Stored
coded_stored = code coded_ℕ (block.the_row).coded
