use Rattle.std.proofs.Common.{◌≤◌, ◌<◌, ◌^◌, length, refl, subst, ◌∙◌}
use Rattle.dx_node_spec.specs.Sweeping.{liquidate_market}
use Rattle.dx_match.specs.Seen.{seen}
use Rattle.dx_match.proofs.Standing.{keeps_itself}
use Rattle.dx_match.proofs.Markets.{first_market, next_market, last_market, tradable_in, keeps_later, keeps_state, room_next, filled_next, fills_next, fills_room, none_filled}
use Rattle.dx_match.proofs.Lessening.{size_small}
use Rattle.dx_match.proofs.sweeping.liquidate_all.Goals as goal

pub markets-init : goal.markets-init
markets-init g c =
    let s = g.L.Ledger.content c.args.ledger.now in
    record {
      kept = keeps_itself _ s c.requires.steady;
      settles = c.requires.settles;
      group = c.requires.group;
      filled = none_filled c.args.taking.now.filled (2 ^ 48) c.requires.filled;
      fills = none_filled c.args.taking.now.fills 65_537 c.requires.fills;
      offsets = refl;
      made = first_market (liquidate_market c.args.book.now.orders c.args.queue.now c.args.who) (seen s c.args.taking.now) (length s.markets);
      marks = λ k h. (h, refl);
      beside = refl;
    }

pub liquidate_market-requires-clause-makers : goal.liquidate_market-requires-clause-makers
liquidate_market-requires-clause-makers g c =
    tradable_in (g.L.Ledger.content c.args.ledger.now) (g.L.Ledger.content c.markets.ledger) c.args.book.now.orders c.markets.market c.requires.book c.markets.invariant.kept

pub liquidate_market-requires-clause-room : goal.liquidate_market-requires-clause-room
liquidate_market-requires-clause-room g c =
    let i = c.markets.invariant in
    room_next c.markets.market c.market_count-market-end.result c.markets.taking.filled _ c.markets-test.true c.market_count-market-end.ensures.few i.filled (size_small (g.L.Ledger.content c.markets.ledger) c.args.who c.markets.market i.kept.steady)

pub liquidate_market-requires-clause-fills : goal.liquidate_market-requires-clause-fills
liquidate_market-requires-clause-fills g c =
    fills_room c.markets.market c.market_count-market-end.result c.markets.taking.fills c.markets-test.true c.market_count-market-end.ensures.few c.markets.invariant.fills

pub markets-preserved : goal.markets-preserved
markets-preserved g c =
    let i = c.markets.invariant in
    let first = g.L.Ledger.content c.args.ledger.now in
    let s = g.L.Ledger.content c.markets.ledger in
    let t = g.L.Ledger.content c.liquidate_market.new.ledger in
    record {
      kept = keeps_later first s t c.markets.market i.kept c.in_ok-liquidate_market.ensures.kept;
      settles = c.in_ok-liquidate_market.ensures.settles;
      group = c.in_ok-liquidate_market.ensures.closed;
      filled = filled_next c.markets.market c.markets.taking.filled c.liquidate_market.new.taking.filled _ i.filled c.in_ok-liquidate_market.ensures.filled (size_small s c.args.who c.markets.market i.kept.steady);
      fills = fills_next c.markets.market c.markets.taking.fills c.liquidate_market.new.taking.fills i.fills c.in_ok-liquidate_market.ensures.fills;
      offsets = c.in_ok-liquidate_market.ensures.offsets ∙ i.offsets;
      made = next_market (liquidate_market c.args.book.now.orders c.args.queue.now c.args.who) (seen s c.markets.taking) (seen t c.liquidate_market.new.taking) _ c.markets.market (length first.markets)
          (subst (λ n. c.markets.market < n) c.market_count-market-end.ensures.count c.markets-test.true) c.in_ok-liquidate_market.ensures.ok i.made;
      marks = λ k h. let j = i.marks k h in let l = c.liquidate_market.ensures.marks k j.0 in (l.0, l.1 ∙ j.1);
      beside = c.liquidate_market.ensures.beside ∙ i.beside;
    }

pub returns-clause-ok : goal.returns-clause-ok
returns-clause-ok g c =
    let first = g.L.Ledger.content c.args.ledger.now in
    let s = g.L.Ledger.content c.markets.ledger in
    last_market (liquidate_market c.args.book.now.orders c.args.queue.now c.args.who) (seen s c.markets.taking) _ c.markets.market (length first.markets)
    (subst (λ n. n ≤ c.markets.market) c.market_count-market-end.ensures.count c.markets-test.false) c.markets.invariant.made

pub returns-clause-kept : goal.returns-clause-kept
returns-clause-kept g c = keeps_state _ (g.L.Ledger.content c.args.ledger.now) (g.L.Ledger.content c.markets.ledger) c.markets.invariant.kept
