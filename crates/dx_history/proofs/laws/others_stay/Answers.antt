use Rattle.dx_history.proofs.Starting.{other_chain, other_kept}
use Rattle.dx_history.proofs.laws.others_stay.Goals as goal

pub returns-clause-chain : goal.returns-clause-chain
returns-clause-chain c = other_chain

pub returns-clause-kept : goal.returns-clause-kept
returns-clause-kept c = other_kept
