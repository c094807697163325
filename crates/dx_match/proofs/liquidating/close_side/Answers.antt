use Rattle.std.proofs.Common.{◌≡◌, ◌+◌, ◌≤◌, ◌<◌, ◌^◌, Some, drop, length, refl, sym, ap, subst, ◌∙◌, arith}
use Rattle.std.specs.Prelude.{slice_get}
use Rattle.dx_node_spec.specs.Book.{side_of}
use Rattle.dx_book.specs.Held.{order_at}
use Rattle.dx_book.proofs.Walks.{best_is, none_behind, side_done, next_at}
use Rattle.dx_match.specs.Seen.{seen}
use Rattle.dx_match.proofs.Standing.{keeps_itself, here_tradable, next_tradable, side_unique}
use Rattle.dx_match.proofs.Closings.{side_tradable_in, keeps_side, closed_up, none_to_close, next_closes, at_most, seldom, once_more}
use Rattle.dx_match.proofs.liquidating.close_side.Goals as goal

pub loop-number-init : goal.loop-number-init
loop-number-init g c =
    let s = g.L.Ledger.content c.args.ledger.now in
    record {
      kept = keeps_itself _ s c.requires.steady;
      settles = c.requires.settles;
      makers = side_tradable_in s c.args.book.now.orders c.args.market c.args.buy c.requires.makers;
      size = refl;
      within = omega arith;
      fills = omega arith;
      offsets = refl;
      held = c.first-next.ensures.held;
      at = c.first-next.ensures.order ∙ best_is c.args.book.now.orders c.args.market c.args.buy;
      made = refl;
      marks = λ k h. (h, refl);
      beside = refl;
    }

pub returns-in_default-clause-ok : goal.returns-in_default-clause-ok
returns-in_default-clause-ok g c =
    let i = c.loop-number.invariant in
    let side = side_of c.args.book.now.orders c.args.market c.args.buy in
    none_to_close c.args.queue.now c.args.who c.args.market (seen (g.L.Ledger.content c.loop-number.ledger) c.loop-number.taking) _ _
    (none_behind side c.loop-number._number (sym (ap (order_at c.args.book.now) c.in_default.is) ∙ i.at)) i.made

pub returns-then-is_closed-clause-ok : goal.returns-then-is_closed-clause-ok
returns-then-is_closed-clause-ok g c =
    let side = side_of c.args.book.now.orders c.args.market c.args.buy in
    closed_up c.args.queue.now c.args.who c.args.market (seen (g.L.Ledger.content c.loop-number.ledger) c.loop-number.taking) _ (drop c.loop-number._number side)
    (sym c.is_closed.ensures ∙ c.if-is_closed.true) c.loop-number.invariant.made

pub close_maker-requires-clause-maker : goal.close_maker-requires-clause-maker
close_maker-requires-clause-maker g c =
    let i = c.loop-number.invariant in
    let side = side_of c.args.book.now.orders c.args.market c.args.buy in
    let e : slice_get side c.loop-number._number ≡ Some c.order-maker.result = sym i.at ∙ ap (order_at c.args.book.now) c.in-Some.is ∙ c.order-maker.ensures in
    here_tradable (g.L.Ledger.content c.loop-number.ledger) side c.loop-number._number c.order-maker.result e i.makers

pub close_maker-requires-clause-room : goal.close_maker-requires-clause-room
close_maker-requires-clause-room g c = subst (λ n. n < 2 ^ 64) (sym c.loop-number.invariant.size) c.requires.room

pub close_maker-requires-clause-fills : goal.close_maker-requires-clause-fills
close_maker-requires-clause-fills g c =
    once_more c.loop-number.taking.fills c.args.taking.now.fills c.loop-number._number c.len-number-end.result c.loop-number.invariant.fills c.loop-number-test.true
    (subst (λ n. n ≤ 65_537) (sym c.len-number-end.ensures.count) c.len-number-end.ensures.most) c.requires.fills

pub loop-number-preserved : goal.loop-number-preserved
loop-number-preserved g c =
    let i = c.loop-number.invariant in
    let first = g.L.Ledger.content c.args.ledger.now in
    let s = g.L.Ledger.content c.loop-number.ledger in
    let t = g.L.Ledger.content c.close_maker.new.ledger in
    let side = side_of c.args.book.now.orders c.args.market c.args.buy in
    let m = c.order-maker.result in
    let e : slice_get side c.loop-number._number ≡ Some m = sym i.at ∙ ap (order_at c.args.book.now) c.in-Some.is ∙ c.order-maker.ensures in
    record {
      kept = keeps_side first s t c.args.book.now.orders c.args.market c.args.buy c.loop-number._number m e i.kept c.in_ok-close_maker.ensures.kept;
      settles = c.in_ok-close_maker.ensures.settles;
      makers = next_tradable s t side c.loop-number._number m (side_unique c.args.book.now.orders c.args.market c.args.buy c.len-number-end.ensures.one_per_id) e c.in_ok-close_maker.ensures.kept i.makers;
      size = c.in_ok-close_maker.ensures.size ∙ i.size;
      within = let j = c.len-number-end.ensures.count in let k = c.loop-number-test.true in omega (arith, j, k);
      fills = let j : c.close_maker.new.taking.fills ≤ c.loop-number.taking.fills + 1 = c.in_ok-close_maker.ensures.fills in let k : c.loop-number.taking.fills ≤ c.args.taking.now.fills + c.loop-number._number = i.fills in omega (arith, j, k);
      offsets = c.in_ok-close_maker.ensures.offsets ∙ i.offsets;
      held = c.next-next.ensures.held;
      at = next_at c.args.book.now c.args.market c.args.buy m c.loop-number._number c.in-Some.key c.next-next.result c.len-number-end.ensures.one_per_id e c.order-maker.ensures c.next-next.ensures.order;
      made = next_closes c.args.queue.now c.args.who c.args.market side c.loop-number._number m (seen s c.loop-number.taking) (seen t c.close_maker.new.taking) _
          e (sym c.is_closed.ensures ∙ c.if-is_closed.false) c.in_ok-close_maker.ensures.ok i.made;
      marks = λ k h. let j = i.marks k h in let l = c.close_maker.ensures.marks k j.0 in (l.0, l.1 ∙ j.1);
      beside = c.close_maker.ensures.beside ∙ i.beside;
    }

pub returns-clause-ok : goal.returns-clause-ok
returns-clause-ok g c =
    let i = c.loop-number.invariant in
    let all : length c.args.book.now.orders ≤ c.loop-number._number = let j = c.len-number-end.ensures.count in let k = c.loop-number-test.false in omega (arith, j, k) in
    none_to_close c.args.queue.now c.args.who c.args.market (seen (g.L.Ledger.content c.loop-number.ledger) c.loop-number.taking) _ _
    (side_done c.args.book.now.orders c.args.market c.args.buy c.loop-number._number all) i.made

pub returns-in_default-clause-filled : goal.returns-in_default-clause-filled
returns-in_default-clause-filled g c = at_most c.loop-number.taking.filled _ _ c.loop-number.invariant.size

pub returns-in_default-clause-fills : goal.returns-in_default-clause-fills
returns-in_default-clause-fills g c = seldom c.loop-number.taking.fills c.args.taking.now.fills c.loop-number._number _ c.loop-number.invariant.fills c.loop-number.invariant.within c.len-number-end.ensures.most

pub returns-then-is_closed-clause-filled : goal.returns-then-is_closed-clause-filled
returns-then-is_closed-clause-filled g c = at_most c.loop-number.taking.filled _ _ c.loop-number.invariant.size

pub returns-then-is_closed-clause-fills : goal.returns-then-is_closed-clause-fills
returns-then-is_closed-clause-fills g c = seldom c.loop-number.taking.fills c.args.taking.now.fills c.loop-number._number _ c.loop-number.invariant.fills c.loop-number.invariant.within c.len-number-end.ensures.most

pub returns-clause-filled : goal.returns-clause-filled
returns-clause-filled g c = at_most c.loop-number.taking.filled _ _ c.loop-number.invariant.size

pub returns-clause-fills : goal.returns-clause-fills
returns-clause-fills g c = seldom c.loop-number.taking.fills c.args.taking.now.fills c.loop-number._number _ c.loop-number.invariant.fills c.loop-number.invariant.within c.len-number-end.ensures.most
