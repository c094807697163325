use Rattle.dx_history.proofs.Starting.{chain_read}
use Rattle.dx_history.proofs.laws.chain_is_kept.Goals as goal

pub returns : goal.returns
returns c = chain_read
