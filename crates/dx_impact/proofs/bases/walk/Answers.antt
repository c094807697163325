use Rattle.std.proofs.Common.{◌≡◌, ◌<◌, ◌≤◌, ◌^◌, Some, length, refl, sym, ap, ◌∙◌, arith}
use Rattle.std.specs.Prelude.{slice_get}
use Rattle.dx_spec.specs.Margin.{quote}
use Rattle.dx_node_spec.specs.Book.{side_of}
use Rattle.dx_book.specs.Held.{order_at}
use Rattle.dx_book.proofs.Walks.{best_is, none_behind, side_done, next_at}
use Rattle.dx_impact.proofs.Strides.{walk_on, walk_ends, walk_over}
use Rattle.dx_impact.proofs.bases.walk.Goals as goal

pub loop-number-init : goal.loop-number-init
loop-number-init g c = record {
  held = c.first-next.ensures.held;
  at = c.first-next.ensures.order ∙ best_is c.args.b.now.orders c.args.market c.args.buy;
  base = omega arith;
  rest = c.requires.market.params.impact.1;
  made = refl;
}

pub returns-in_default-clause-value : goal.returns-in_default-clause-value
returns-in_default-clause-value g c =
    let i = c.loop-number.invariant in
    let side = side_of c.args.b.now.orders c.args.market c.args.buy in
    walk_over (g.L.Ledger.content c.args.l.now) c.args.m.now side c.loop-number._number c.loop-number.base c.loop-number.rest _
    (none_behind side c.loop-number._number (sym (ap (order_at c.args.b.now) c.in_default.is) ∙ i.at)) i.made

pub returns-then-from-cost-clause-value : goal.returns-then-from-cost-clause-value
returns-then-from-cost-clause-value g c =
    let i = c.loop-number.invariant in
    let o = c.priced_order-order.result in
    let side = side_of c.args.b.now.orders c.args.market c.args.buy in
    let at : slice_get side c.loop-number._number ≡ Some o = sym i.at ∙ ap (order_at c.args.b.now) c.in-Some.is ∙ c.priced_order-order.ensures.order in
    let from : c.from.result ≡ c.loop-number.rest = c.from.ensures in
    let test : c.from.result ≤ c.cost-cost.result = c.if-from-cost.true in
    let reached : c.loop-number.rest ≤ c.cost-cost.result = omega (arith, from, test) in
    walk_ends (g.L.Ledger.content c.args.l.now) c.args.m.now side c.loop-number._number o c.loop-number.base c.loop-number.rest c.cost-cost.result _ c.size_for.result c.bounded.result at
    (c.cost-cost.ensures ∙ ap (quote c.args.m.now.params o.subticks) c.left-left.ensures.value) reached c.size_for.ensures.value c.bounded.ensures.value i.made

pub loop-number-preserved : goal.loop-number-preserved
loop-number-preserved g c =
    let i = c.loop-number.invariant in
    let o = c.priced_order-order.result in
    let side = side_of c.args.b.now.orders c.args.market c.args.buy in
    let at : slice_get side c.loop-number._number ≡ Some o = sym i.at ∙ ap (order_at c.args.b.now) c.in-Some.is ∙ c.priced_order-order.ensures.order in
    let from : c.from.result ≡ c.loop-number.rest = c.from.ensures in
    let test : c.cost-cost.result < c.from.result = c.if-from-cost.false in
    let passed : c.cost-cost.result < c.loop-number.rest = omega (arith, from, test) in
    let amount : c.from-base.result ≡ c.left-left.result = c.from-base.ensures in
    let most : c.left-left.result ≤ o.size = c.left-left.ensures.most in
    let size : o.size < 2 ^ 48 = c.priced_order-order.ensures.priced.size in
    let before = i.base in
    let rest = i.rest in
    record {
      held = c.next-next.ensures.held;
      at = next_at c.args.b.now c.args.market c.args.buy o c.loop-number._number c.in-Some.key c.next-next.result c.len-number-end.ensures.one_per_id at c.priced_order-order.ensures.order c.next-next.ensures.order;
      base = omega (arith, amount, most, size, before);
      rest = omega (arith, rest);
      made = walk_on (g.L.Ledger.content c.args.l.now) c.args.m.now side c.loop-number._number o c.loop-number.base c.loop-number.rest c.from-base.result c.cost-cost.result _ at
          (amount ∙ c.left-left.ensures.value) (c.cost-cost.ensures ∙ ap (quote c.args.m.now.params o.subticks) c.left-left.ensures.value) passed i.made;
    }

pub returns-clause-value : goal.returns-clause-value
returns-clause-value g c =
    let i = c.loop-number.invariant in
    let side = side_of c.args.b.now.orders c.args.market c.args.buy in
    let all : length c.args.b.now.orders ≤ c.loop-number._number = let j = c.len-number-end.ensures.count in let k = c.loop-number-test.false in omega (arith, j, k) in
    walk_over (g.L.Ledger.content c.args.l.now) c.args.m.now side c.loop-number._number c.loop-number.base c.loop-number.rest _
    (side_done c.args.b.now.orders c.args.market c.args.buy c.loop-number._number all) i.made
