use Rattle.dx_history.proofs.Starting.{chain_grown}
use Rattle.dx_history.proofs.laws.chain_grows.Goals as goal

pub returns : goal.returns
returns c = chain_grown
