use Rattle.std.proofs.Common.{◌≡◌, ◌+◌, ◌≤◌, drop, fold, length}
use Rattle.dx_node_spec.specs.Sweeping.{offset_one}
use Rattle.dx_ledger.specs.Marks.{KeepsMarks}
use Rattle.dx_match.specs.Conditions.{KeepsState, IsSettleable}
use Rattle.dx_match.specs.Sweeps.{offsets_seen}
use Rattle.dx_match.proofs.offsetting.offset_all.Given as goal

-- the accounts that are left lead to where all lead
abbrev pub invariant-loop-other : goal.invariant-loop-other
invariant-loop-other g l =
    let ledger = g.L.Ledger in
    let s = ledger.content l.ledger in
    let first = ledger.content l.fn.ledger in
    record {
      kept : KeepsState first s;
      settles : IsSettleable s l.who;
      count : length l.offsets.done ≤ length l.fn.offsets.done + l.other-index;
      made : fold (offset_one l.who l.market) (offsets_seen s l.offsets) (drop l.other-index l.others)
          ≡ fold (offset_one l.who l.market) (offsets_seen first l.fn.offsets) l.others;
      marks : KeepsMarks ledger.stands ledger.marked l.fn.ledger l.ledger;
      beside : ledger.beside l.ledger ≡ ledger.beside l.fn.ledger;
    }
