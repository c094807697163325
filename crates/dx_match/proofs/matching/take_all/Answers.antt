use Rattle.std.proofs.Common.{◌≡◌, ◌+◌, ◌≤◌, Some, drop, length, refl, sym, ap, ◌∙◌, arith}
use Rattle.std.specs.Prelude.{slice_get}
use Rattle.dx_node_spec.specs.Taking.{Taken, nothing_taken}
use Rattle.dx_book.specs.Held.{order_at}
use Rattle.dx_match.specs.Seen.{seen}
use Rattle.dx_match.specs.Stages.{opposite, takable}
use Rattle.dx_match.proofs.Standing.{keeps_itself, keeps_on, fillable_here, next_tradable}
use Rattle.dx_match.proofs.Sides.{best_is, side_done, next_at, none_crosses, none_left, opposite_tradable, opposite_unique}
use Rattle.dx_match.proofs.Turns.{first_turn, none_yet, over_done, turn, all_taken}
use Rattle.dx_match.proofs.matching.take_all.Goals as goal

pub loop-number-init : goal.loop-number-init
loop-number-init g c =
    let s = g.L.Ledger.content c.args.ledger.now in
    record {
      kept = keeps_itself _ s c.requires.steady;
      own = c.requires.order;
      makers = opposite_tradable s c.args.book.now.orders c.args.order.now c.requires.book;
      within = none_yet _ _ (ap (λ (t : Taken). t.filled) (c.start-taking.ensures.nothing s));
      fills = none_yet _ _ (ap (λ (t : Taken). t.fills) (c.start-taking.ensures.nothing s));
      held = c.first-next.ensures.held;
      at = c.first-next.ensures.order ∙ best_is c.args.book.now.orders c.args.order.now;
      made = first_turn c.args.queue.now c.args.book.now.orders c.args.order.now (seen s c.start-taking.result) (nothing_taken s) (c.start-taking.ensures.nothing s);
      marks = λ k h. (h, refl);
      beside = refl;
    }

pub returns-in_default-clause-ok : goal.returns-in_default-clause-ok
returns-in_default-clause-ok g c =
    let i = c.loop-number.invariant in
    all_taken c.args.queue.now c.args.order.now (seen (g.L.Ledger.content c.loop-number.ledger) c.loop-number.taking) _ _
    (none_left c.args.book.now.orders c.args.order.now c.loop-number._number (sym (ap (order_at c.args.book.now) c.in_default.is) ∙ i.at)) i.made

pub returns-then-is_over-clause-ok : goal.returns-then-is_over-clause-ok
returns-then-is_over-clause-ok g c =
    over_done c.args.queue.now c.args.order.now (seen (g.L.Ledger.content c.loop-number.ledger) c.loop-number.taking) _
    (takable c.args.order.now (drop c.loop-number._number (opposite c.args.book.now.orders c.args.order.now))) (sym c.is_over.ensures ∙ c.if-is_over.true) c.loop-number.invariant.made

pub returns-then-not-crosses-clause-ok : goal.returns-then-not-crosses-clause-ok
returns-then-not-crosses-clause-ok g c =
    let i = c.loop-number.invariant in
    let e : slice_get (opposite c.args.book.now.orders c.args.order.now) c.loop-number._number ≡ Some c.order-maker.result = sym i.at ∙ ap (order_at c.args.book.now) c.in-Some.is ∙ c.order-maker.ensures in
    all_taken c.args.queue.now c.args.order.now (seen (g.L.Ledger.content c.loop-number.ledger) c.loop-number.taking) _ _
    (none_crosses c.args.book.now.orders c.args.order.now c.order-maker.result c.loop-number._number e (sym c.crosses.ensures ∙ c.if-not-crosses.true)) i.made

pub take-requires-clause-fillable : goal.take-requires-clause-fillable
take-requires-clause-fillable g c =
    let i = c.loop-number.invariant in
    let e : slice_get (opposite c.args.book.now.orders c.args.order.now) c.loop-number._number ≡ Some c.order-maker.result = sym i.at ∙ ap (order_at c.args.book.now) c.in-Some.is ∙ c.order-maker.ensures in
    fillable_here (g.L.Ledger.content c.loop-number.ledger) c.args.order.now (opposite c.args.book.now.orders c.args.order.now) c.loop-number._number c.order-maker.result i.kept.steady i.own e i.makers

pub loop-number-preserved : goal.loop-number-preserved
loop-number-preserved g c =
    let i = c.loop-number.invariant in
    let first = g.L.Ledger.content c.args.ledger.now in
    let s = g.L.Ledger.content c.loop-number.ledger in
    let t = g.L.Ledger.content c.take.new.ledger in
    let side = opposite c.args.book.now.orders c.args.order.now in
    let e : slice_get side c.loop-number._number ≡ Some c.order-maker.result = sym i.at ∙ ap (order_at c.args.book.now) c.in-Some.is ∙ c.order-maker.ensures in
    record {
      kept = keeps_on _ _ _ first s t (λ id n. n) (λ id n. absurd n) i.kept c.in_ok-take.ensures.kept;
      own = c.in_ok-take.ensures.own;
      makers = next_tradable s t side c.loop-number._number c.order-maker.result (opposite_unique c.args.book.now.orders c.args.order.now c.requires.book) e c.in_ok-take.ensures.kept i.makers;
      within = c.in_ok-take.ensures.within;
      fills = let j : c.take.new.taking.fills ≤ c.loop-number.taking.fills + 1 = c.in_ok-take.ensures.fills in let k : c.loop-number.taking.fills ≤ c.loop-number._number = i.fills in omega (arith, j, k);
      held = c.next-next.ensures.held;
      at = next_at c.args.book.now c.args.order.now c.order-maker.result c.loop-number._number c.in-Some.key c.next-next.result c.len-number-end.ensures.one_per_id e c.order-maker.ensures c.next-next.ensures.order;
      made = turn c.args.queue.now c.args.order.now c.order-maker.result c.loop-number._number side (seen s c.loop-number.taking) (seen t c.take.new.taking) _
          e (sym c.crosses.ensures ∙ c.if-not-crosses.false) c.in_ok-take.ensures.ok i.made;
      marks = λ k h. let j = i.marks k h in let m = c.take.ensures.marks k j.0 in (m.0, m.1 ∙ j.1);
      beside = c.take.ensures.beside ∙ i.beside;
    }

pub returns-clause-ok : goal.returns-clause-ok
returns-clause-ok g c =
    let i = c.loop-number.invariant in
    let all : length c.args.book.now.orders ≤ c.loop-number._number = let j = c.len-number-end.ensures.count in let k = c.loop-number-test.false in omega (arith, j, k) in
    all_taken c.args.queue.now c.args.order.now (seen (g.L.Ledger.content c.loop-number.ledger) c.loop-number.taking) _ _
    (side_done c.args.book.now.orders c.args.order.now c.loop-number._number all) i.made
