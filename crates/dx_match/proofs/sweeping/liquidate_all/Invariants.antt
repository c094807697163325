use Rattle.std.proofs.Common.{◌≡◌, ◌-◌, ◌*◌, ◌≤◌, ◌^◌, [], length, fold}
use Rattle.std.specs.List.{range_with_len}
use Rattle.dx_node_spec.specs.Sweeping.{liquidate_market}
use Rattle.dx_ledger.specs.Marks.{KeepsMarks}
use Rattle.dx_match.specs.Seen.{seen}
use Rattle.dx_match.specs.Conditions.{KeepsThose, IsSettleable}
use Rattle.dx_match.proofs.sweeping.liquidate_all.Given as goal

-- the orders of the markets that are left may be traded, and these markets lead to where all lead
abbrev pub invariant-markets : goal.invariant-markets
invariant-markets g l =
    let ledger = g.L.Ledger in
    let s = ledger.content l.ledger in
    let first = ledger.content l.fn.ledger in
    let count = length first.markets in
    record {
      kept : KeepsThose (λ id. l.market ≤ id.market) first s;
      settles : IsSettleable s l.who;
      group : l.taking.group ≡ [];
      filled : l.taking.filled ≤ l.market * 2 ^ 48;
      fills : l.taking.fills ≤ l.market * 65_537;
      offsets : l.taking.offsets ≡ l.fn.taking.offsets;
      made : fold (liquidate_market l.book.orders l.queue l.who) (seen s l.taking) (range_with_len l.market (count - l.market))
          ≡ fold (liquidate_market l.book.orders l.queue l.who) (seen first l.fn.taking) (range_with_len 0 count);
      marks : KeepsMarks ledger.stands ledger.marked l.fn.ledger l.ledger;
      beside : ledger.beside l.ledger ≡ ledger.beside l.fn.ledger;
    }
