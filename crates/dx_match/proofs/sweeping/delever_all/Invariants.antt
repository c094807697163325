use Rattle.std.proofs.Common.{◌≡◌, ◌-◌, ◌*◌, ◌≤◌, [], length, fold}
use Rattle.std.specs.List.{range_with_len}
use Rattle.dx_node_spec.specs.Sweeping.{delever_market}
use Rattle.dx_ledger.specs.Marks.{KeepsMarks}
use Rattle.dx_match.specs.Seen.{seen}
use Rattle.dx_match.specs.Conditions.{KeepsState, IsSettleable}
use Rattle.dx_match.proofs.sweeping.delever_all.Given as goal

-- the markets that are left lead to where all lead
abbrev pub invariant-markets : goal.invariant-markets
invariant-markets g l =
    let ledger = g.L.Ledger in
    let s = ledger.content l.ledger in
    let first = ledger.content l.fn.ledger in
    let count = length first.markets in
    record {
      kept : KeepsState first s;
      settles : IsSettleable s l.who;
      group : l.taking.group ≡ [];
      offsets : l.taking.offsets ≤ l.market * 65_536;
      made : fold (delever_market l.who) (seen s l.taking) (range_with_len l.market (count - l.market))
          ≡ fold (delever_market l.who) (seen first l.fn.taking) (range_with_len 0 count);
      marks : KeepsMarks ledger.stands ledger.marked l.fn.ledger l.ledger;
      beside : ledger.beside l.ledger ≡ ledger.beside l.fn.ledger;
    }
