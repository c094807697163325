use Rattle.dx_scenario.proofs.Scales.{scaled_by}
use Rattle.dx_scenario.proofs.scaling.scaled_params.Goals as goal

pub returns-clause-good : goal.returns-clause-good
returns-clause-good c =
    scaled_by c.args.params c.in_ok-from.from c.as_slice.result.now c.in_ok-markets.markets c.as_slice-2.result.now c.in_ok-scales.scales c.as_slice.ensures c.as_slice-2.ensures
    c.in_ok-markets.ensures c.requires c.in_ok-from.ensures.bounds c.in_ok-scales.ensures.good
