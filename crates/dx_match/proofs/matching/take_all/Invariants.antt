use Rattle.std.proofs.Common.{◌≡◌, ◌≤◌, drop, fold}
use Rattle.std.specs.Prelude.{slice_get, IfSome, IsSome}
use Rattle.std.specs.List.{AllByRecursion}
use Rattle.dx_spec.specs.State.{filled_of}
use Rattle.dx_node_spec.specs.Book.{makers_of}
use Rattle.dx_node_spec.specs.Taking.{nothing_taken, take_one}
use Rattle.dx_ledger.specs.Marks.{KeepsMarks}
use Rattle.dx_trade.specs.Conditions.{IsTradable}
use Rattle.dx_book.specs.Held.{named, order_at}
use Rattle.dx_match.specs.Seen.{seen}
use Rattle.dx_match.specs.Conditions.{KeepsState}
use Rattle.dx_match.specs.Stages.{opposite, takable}
use Rattle.dx_match.proofs.matching.take_all.Given as goal

-- the makers that are left may be traded, and lead to where all lead
abbrev pub invariant-loop-number : goal.invariant-loop-number
invariant-loop-number g l =
    let ledger = g.L.Ledger in
    let s = ledger.content l.ledger in
    let first = ledger.content l.fn.ledger in
    let side = opposite l.book.orders l.order in
    record {
      kept : KeepsState first s;
      own : IsTradable s l.order;
      makers : AllByRecursion (IsTradable s) (drop l._number side);
      within : l.taking.filled ≤ filled_of s l.order.id;
      fills : l.taking.fills ≤ l._number;
      held : IfSome l.next (λ key. IsSome (named l.book key));
      at : order_at l.book l.next ≡ slice_get side l._number;
      made : fold (take_one l.queue l.order) (seen s l.taking) (takable l.order (drop l._number side))
          ≡ fold (take_one l.queue l.order) (nothing_taken first) (makers_of l.book.orders l.order);
      marks : KeepsMarks ledger.stands ledger.marked l.fn.ledger l.ledger;
      beside : ledger.beside l.ledger ≡ ledger.beside l.fn.ledger;
    }
