use Rattle.dx_match.proofs.Offsets.{offset_noted, one_longer}
use Rattle.dx_match.proofs.offsetting.note_offset.Goals as goal

pub returns-clause-ok : goal.returns-clause-ok
returns-clause-ok c = λ t. offset_noted t c.args.offsets.now.done c.push.new.self c.args.offset.now c.push.result c.push.ensures

pub returns-clause-count : goal.returns-clause-count
returns-clause-count c = one_longer c.args.offsets.now.done c.push.new.self c.args.offset.now c.push.result c.push.ensures
