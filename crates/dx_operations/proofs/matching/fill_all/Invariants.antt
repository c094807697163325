use Rattle.std.proofs.Common.{◌≡◌, drop}
use Rattle.dx_types.specs.Keys.{order_id_cmp}
use Rattle.dx_maps.specs.Tables.{map_of}
use Rattle.dx_spec.specs.Step.{try_each}
use Rattle.dx_spec.specs.Operations.{match_fill}
use Rattle.dx_ledger.specs.Marks.{KeepsMarks}
use Rattle.dx_trade.specs.Conditions.{IsTradable}
use Rattle.dx_operations.specs.Midway.{IsMidway}
use Rattle.dx_operations.proofs.matching.fill_all.Given as goal

-- the fills that are left lead to where all lead
abbrev pub invariant-loop-number : goal.invariant-loop-number
invariant-loop-number g l =
    let ledger = g.L.Ledger in
    let s = ledger.content l.l in
    let placed = map_of order_id_cmp l.placed in
    record {
      midway : IsMidway l.height s placed;
      taker : IsTradable s l.taker;
      made : try_each (match_fill placed l.taker) l.number (drop l.number l.fills) s ≡ try_each (match_fill placed l.taker) 0 l.fills (ledger.content l.fn.l);
      marks : KeepsMarks ledger.stands ledger.marked l.fn.l l.l;
      beside : ledger.beside l.l ≡ ledger.beside l.fn.l;
    }
