-- How many parts a proposal has.
use Rattle.std.proofs.Common.{◌≡◌, ◌≤◌, ℕ, length, arith, false, ◌||◌}
use Rattle.std.specs.Prelude.{sum_by, nat_lt}
use Rattle.std.proofs.lemmas.Bool.Decides.{nat_tests}
use Rattle.dx_types.specs.declared.Block.{Block}
use Rattle.dx_spec.specs.Blocks.{fills_in}
use Rattle.dx_node.specs.Short.{IsShort}

-- operations within the limits
few : (n m : ℕ) → (nat_lt 1024 n || nat_lt 4096 m) ≡ false → (n ≤ 1024) × (m ≤ 4096)
few n m h = (grind (arith, nat_tests, h), grind (arith, nat_tests, h))

pub few_operations : (b : Block) → IsShort b → length b.ops ≤ 1024
few_operations b h = (few (length b.ops) (sum_by fills_in b.ops) h.ops).0

pub few_fills : (b : Block) → IsShort b → sum_by fills_in b.ops ≤ 4096
few_fills b h = (few (length b.ops) (sum_by fills_in b.ops) h.ops).1
