use Rattle.dx_history.proofs.Starting.{read_chain}
use Rattle.dx_history.proofs.laws.kept_is_chain.Goals as goal

pub returns : goal.returns
returns c = read_chain
