use Rattle.std.proofs.Common.{◌≡◌, drop}
use Rattle.dx_types.specs.Keys.{order_id_cmp}
use Rattle.dx_maps.specs.Tables.{map_of}
use Rattle.dx_spec.specs.Step.{try_each}
use Rattle.dx_spec.specs.Operations.{op_at}
use Rattle.dx_ledger.specs.Marks.{KeepsMarks}
use Rattle.dx_operations.specs.Midway.{IsMidway}
use Rattle.dx_operations.proofs.operations.apply_all.Given as goal

-- the operations that are left lead to where all lead
abbrev pub invariant-loop-number : goal.invariant-loop-number
invariant-loop-number g l =
    let ledger = g.L.Ledger in
    record {
      midway : IsMidway l.height (ledger.content l.l) (map_of order_id_cmp l.placed);
      made : try_each (op_at l.height) l.number (drop l.number l.ops) (record { state = ledger.content l.l; placed = map_of order_id_cmp l.placed })
          ≡ try_each (op_at l.height) 0 l.ops (record { state = ledger.content l.fn.l; placed = map_of order_id_cmp l.fn.placed });
      marks : KeepsMarks ledger.stands ledger.marked l.fn.l l.l;
      beside : ledger.beside l.l ≡ ledger.beside l.fn.l;
    }
