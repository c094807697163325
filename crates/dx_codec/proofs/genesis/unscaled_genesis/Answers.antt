use Rattle.dx_codec.proofs.FirstForm.{keeps_bytes, keeps_digest}
use Rattle.dx_codec.proofs.genesis.unscaled_genesis.Goals as goal

pub returns-clause-bytes : goal.returns-clause-bytes
returns-clause-bytes c = keeps_bytes

pub returns-clause-digest : goal.returns-clause-digest
returns-clause-digest c = keeps_digest
