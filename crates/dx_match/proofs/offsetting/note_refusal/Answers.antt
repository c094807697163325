use Rattle.dx_node_spec.specs.Sweeping.{after_offset}
use Rattle.dx_match.specs.Sweeps.{offsets_seen}
use Rattle.dx_match.proofs.Notes.{coded}
use Rattle.dx_match.proofs.offsetting.note_refusal.Goals as goal

pub returns-in-Code-clause-ok : goal.returns-in-Code-clause-ok
returns-in-Code-clause-ok c =
    λ s offset step h.
    coded (after_offset offset (offsets_seen s c.args.offsets.now)) step c.args.fault c.in-Code.fill c.in-Code.code (offsets_seen s c.note_code.new.offsets) c.in-Code.is h (c.note_code.ensures.ok s offset)
