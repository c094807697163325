use Rattle.std.proofs.Common.{◌≤◌, ◌<◌, length, refl, subst, ◌∙◌}
use Rattle.dx_node_spec.specs.Sweeping.{delever_market}
use Rattle.dx_match.specs.Seen.{seen}
use Rattle.dx_match.proofs.Standing.{keeps_itself, keeps_on}
use Rattle.dx_match.proofs.Markets.{first_market, next_market, last_market, none_filled, offsets_room, offsets_next}
use Rattle.dx_match.proofs.sweeping.delever_all.Goals as goal

pub markets-init : goal.markets-init
markets-init g c =
    let s = g.L.Ledger.content c.args.ledger.now in
    record {
      kept = keeps_itself _ s c.requires.steady;
      settles = c.requires.settles;
      group = c.requires.group;
      offsets = none_filled c.args.taking.now.offsets 65_536 c.requires.offsets;
      made = first_market (delever_market c.args.who) (seen s c.args.taking.now) (length s.markets);
      marks = λ k h. (h, refl);
      beside = refl;
    }

pub delever_market-requires-clause-offsets : goal.delever_market-requires-clause-offsets
delever_market-requires-clause-offsets g c =
    offsets_room c.markets.market c.market_count-market-end.result c.markets.taking.offsets c.markets-test.true c.market_count-market-end.ensures.few c.markets.invariant.offsets

pub markets-preserved : goal.markets-preserved
markets-preserved g c =
    let i = c.markets.invariant in
    let first = g.L.Ledger.content c.args.ledger.now in
    let s = g.L.Ledger.content c.markets.ledger in
    let t = g.L.Ledger.content c.delever_market.new.ledger in
    record {
      kept = keeps_on _ _ _ first s t (λ id n. n) (λ id n. n) i.kept c.in_ok-delever_market.ensures.kept;
      settles = c.in_ok-delever_market.ensures.settles;
      group = c.in_ok-delever_market.ensures.group ∙ i.group;
      offsets = offsets_next c.markets.market c.markets.taking.offsets c.delever_market.new.taking.offsets i.offsets c.in_ok-delever_market.ensures.offsets;
      made = next_market (delever_market c.args.who) (seen s c.markets.taking) (seen t c.delever_market.new.taking) _ c.markets.market (length first.markets)
          (subst (λ n. c.markets.market < n) c.market_count-market-end.ensures.count c.markets-test.true) c.in_ok-delever_market.ensures.ok i.made;
      marks = λ k h. let j = i.marks k h in let l = c.delever_market.ensures.marks k j.0 in (l.0, l.1 ∙ j.1);
      beside = c.delever_market.ensures.beside ∙ i.beside;
    }

pub returns-clause-ok : goal.returns-clause-ok
returns-clause-ok g c =
    let first = g.L.Ledger.content c.args.ledger.now in
    let s = g.L.Ledger.content c.markets.ledger in
    last_market (delever_market c.args.who) (seen s c.markets.taking) _ c.markets.market (length first.markets)
    (subst (λ n. n ≤ c.markets.market) c.market_count-market-end.ensures.count c.markets-test.false) c.markets.invariant.made
