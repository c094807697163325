use Rattle.dx_scenario.proofs.Reaching.{read_there}
use Rattle.dx_app.proofs.laws.events_are_served.Goals as goal

pub returns : goal.returns
returns c = read_there
