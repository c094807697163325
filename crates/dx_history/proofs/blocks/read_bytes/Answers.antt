use Rattle.dx_history.proofs.Reading.{decided}
use Rattle.dx_history.proofs.blocks.read_bytes.Goals as goal

pub returns-clause-told : goal.returns-clause-told
returns-clause-told c = decided c.decode_block.result c.args.bytes.now c.decode_block.ensures.found c.decode_block.ensures.malformed
