use Rattle.std.proofs.Common.{◌≡◌, ◌≢◌, ◌+◌, ◌≤◌, unsigned_abs, drop, fold, length}
use Rattle.std.specs.Prelude.{slice_get, IfSome, IsSome}
use Rattle.std.specs.List.{AllByRecursion}
use Rattle.dx_node_spec.specs.Book.{side_of}
use Rattle.dx_node_spec.specs.Sweeping.{size_of, liquidate_one}
use Rattle.dx_ledger.specs.Marks.{KeepsMarks}
use Rattle.dx_trade.specs.Conditions.{IsTradable}
use Rattle.dx_book.specs.Held.{named, order_at}
use Rattle.dx_match.specs.Seen.{seen}
use Rattle.dx_match.specs.Conditions.{KeepsThose, IsSettleable}
use Rattle.dx_match.proofs.liquidating.close_side.Given as goal

-- the makers that are left may be traded, and lead to where all lead; what is filled is taken off the position
abbrev pub invariant-loop-number : goal.invariant-loop-number
invariant-loop-number g l =
    let ledger = g.L.Ledger in
    let s = ledger.content l.ledger in
    let first = ledger.content l.fn.ledger in
    let side = side_of l.book.orders l.market l.buy in
    record {
      kept : KeepsThose (λ id. id.market ≢ l.market) first s;
      settles : IsSettleable s l.who;
      makers : AllByRecursion (IsTradable s) (drop l._number side);
      size : l.taking.filled + unsigned_abs (size_of s l.who l.market) ≡ l.fn.taking.filled + unsigned_abs (size_of first l.who l.market);
      within : l._number ≤ length l.book.orders;
      fills : l.taking.fills ≤ l.fn.taking.fills + l._number;
      offsets : l.taking.offsets ≡ l.fn.taking.offsets;
      held : IfSome l.next (λ key. IsSome (named l.book key));
      at : order_at l.book l.next ≡ slice_get side l._number;
      made : fold (liquidate_one l.queue l.who l.market) (seen s l.taking) (drop l._number side)
          ≡ fold (liquidate_one l.queue l.who l.market) (seen first l.fn.taking) side;
      marks : KeepsMarks ledger.stands ledger.marked l.fn.ledger l.ledger;
      beside : ledger.beside l.ledger ≡ ledger.beside l.fn.ledger;
    }
