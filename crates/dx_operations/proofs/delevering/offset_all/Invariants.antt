use Rattle.std.proofs.Common.{◌≡◌, drop}
use Rattle.dx_spec.specs.Step.{try_each}
use Rattle.dx_spec.specs.Operations.{deleveraging_offset}
use Rattle.dx_ledger.specs.Marks.{KeepsMarks}
use Rattle.dx_accounts.specs.Steady.{IsSteady}
use Rattle.dx_operations.specs.Midway.{KeepsMidway}
use Rattle.dx_operations.proofs.delevering.offset_all.Given as goal

-- the offsets that are left lead to where all lead
abbrev pub invariant-loop-number : goal.invariant-loop-number
invariant-loop-number g l =
    let ledger = g.L.Ledger in
    let s = ledger.content l.l in
    record {
      steady : IsSteady s;
      midway : KeepsMidway (ledger.content l.fn.l) s;
      made : try_each (deleveraging_offset l.who l.market) l.number (drop l.number l.offsets) s ≡ try_each (deleveraging_offset l.who l.market) 0 l.offsets (ledger.content l.fn.l);
      marks : KeepsMarks ledger.stands ledger.marked l.fn.l l.l;
      beside : ledger.beside l.l ≡ ledger.beside l.fn.l;
    }
