use Rattle.std.proofs.Common.{◌^◌}
use Rattle.dx_operations.proofs.Standing.{steady_filled, keeps_midway}
use Rattle.dx_operations.proofs.delevering.offset_at.Goals as goal

pub returns-in-Ok-clause-steady : goal.returns-in-Ok-clause-steady
returns-in-Ok-clause-steady g c =
    steady_filled _ _ c.requires.steady (c.in-Ok.ensures.within (2 ^ 101) c.requires.steady.within) c.in-Ok.ensures.balanced

pub returns-in-Ok-clause-midway : goal.returns-in-Ok-clause-midway
returns-in-Ok-clause-midway g c = keeps_midway _ _ (c.in-Ok.ensures.within (2 ^ 101) c.requires.steady.within) c.in-Ok.ensures.balanced
