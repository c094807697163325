-- Markets with a scale of their margins keep their ranges.
use Rattle.std.proofs.Common.{◌≡◌, ◌≤◌, ℕ, List, [], ◌∷◌, length, Some, None, sym, subst, ◌∙◌, arith}
use Rattle.std.specs.Prelude.{All}
use Rattle.std.specs.List.{AllByRecursion}
use Rattle.std.proofs.lemmas.List.Elements.{All-from_recursion, recursion_from_All}
use Rattle.dx_types.specs.declared.MarketParams.{MarketParams}
use Rattle.dx_types.specs.declared.Params.{Params}
use Rattle.dx_spec.specs.Genesis.{IsNatFrom, IsMarketParams, IsScale, IsParams}
use Rattle.dx_spec.specs.Bounds.{last_moment}
use Rattle.dx_spec.proofs.Each.{all_weaker}
use Rattle.dx_scenario.specs.declared.scaling.Scale.{Scale}
use Rattle.dx_scenario.specs.Genesis.{IsUnscaled, IsScaleOf, with_scale, with_scales}

weaker : {X : Type 0} (P Q : X → Type 0) → ((x : X) → P x → Q x) → (xs : List X) → All P xs → All Q xs
weaker P Q f xs h = All-from_recursion Q xs (all_weaker P Q f xs (recursion_from_All P xs h))

-- markets as they are read are in their ranges
pub in_ranges : (ms : List MarketParams) → All IsUnscaled ms → All IsMarketParams ms
in_ranges ms h = weaker IsUnscaled IsMarketParams (λ m u. u.ranges) ms h

-- and have no scale
pub unscaled : (ms : List MarketParams) → All IsUnscaled ms → All (IsScale None) ms
unscaled ms h = weaker IsUnscaled (IsScale None) (λ m u. u.unscaled) ms h

market_in_range : (p : MarketParams) (s : Scale) → IsMarketParams p → IsMarketParams (with_scale p s)
market_in_range p s h = record {
  atomic = h.atomic;
  conversion = h.conversion;
  step = h.step;
  tick = h.tick;
  price_exponent = h.price_exponent;
  value_exponent = h.value_exponent;
  price = h.price;
  initial = h.initial;
  maintenance = h.maintenance;
  impact = h.impact;
  rate_cap = h.rate_cap;
}

each_in_range : (ps : List MarketParams) (ss : List Scale) → AllByRecursion IsMarketParams ps → AllByRecursion IsMarketParams (with_scales ps ss)
each_in_range [] ss h = tt
each_in_range (p ∷ ps) [] h = tt
each_in_range (p ∷ ps) (s ∷ ss) h = (market_in_range p s h.0, each_in_range ps ss h.1)

each_scaled : (from : ℕ) (ps : List MarketParams) (ss : List Scale) → AllByRecursion IsScaleOf ss → AllByRecursion (IsScale (Some from)) (with_scales ps ss)
each_scaled from [] ss h = tt
each_scaled from (p ∷ ps) [] h = tt
each_scaled from (p ∷ ps) (s ∷ ss) h = ((h.0.lower, h.0.above, h.0.upper), each_scaled from ps ss h.1)

fewer : (ps : List MarketParams) (ss : List Scale) → length (with_scales ps ss) ≤ length ps
fewer [] ss = omega arith
fewer (p ∷ ps) [] = omega arith
fewer (p ∷ ps) (s ∷ ss) = omega (arith, fewer ps ss)

-- parameters with a scale are in their ranges
scaled_in_range : (p : Params) (from : ℕ) (ss : List Scale) → IsParams p → IsNatFrom 1 last_moment from → All IsScaleOf ss
    → IsParams (record p { markets = with_scales p.markets ss; scale_from = Some from })
scaled_in_range p from ss h range each =
    let few = h.market_count in
    record {
      min_votes = h.min_votes;
      taker_ppm = h.taker_ppm;
      maker_ppm = h.maker_ppm;
      liq_cap_ppm = h.liq_cap_ppm;
      spread_ppm = h.spread_ppm;
      bankruptcy_ppm = h.bankruptcy_ppm;
      market_count = omega (arith, few, fewer p.markets ss);
      markets = All-from_recursion IsMarketParams (with_scales p.markets ss) (each_in_range p.markets ss (recursion_from_All IsMarketParams p.markets h.markets));
      scale_from = range;
      scales = All-from_recursion (IsScale (Some from)) (with_scales p.markets ss) (each_scaled from p.markets ss (recursion_from_All IsScaleOf ss each));
    }

-- the same of markets that were made of these
pub scaled_by : (p : Params) (from : ℕ) (ps made : List MarketParams) (rs ss : List Scale) → ps ≡ p.markets → rs ≡ ss → made ≡ with_scales ps rs
    → IsParams p → IsNatFrom 1 last_moment from → All IsScaleOf ss → IsParams (record p { markets = made; scale_from = Some from })
scaled_by p from ps made rs ss e f g h range each =
    subst (λ ms. IsParams (record p { markets = ms; scale_from = Some from })) (sym (g ∙ (λ i. with_scales (e i) (f i)))) (scaled_in_range p from ss h range each)
