use Rattle.std.proofs.Common.{◌^◌}
use Rattle.dx_maps.specs.Tables.{map_of}
use Rattle.dx_types.specs.Keys.{order_id_cmp}
use Rattle.dx_operations.proofs.Standing.{midway_filled}
use Rattle.dx_operations.proofs.Turns.{both_ok}
use Rattle.dx_operations.proofs.liquidating.close_by.Goals as goal

pub returns-clause-midway : goal.returns-clause-midway
returns-clause-midway g c =
    let s = g.L.Ledger.content c.args.l.now in
    let t = g.L.Ledger.content c.liquidate.new.l in
    both_ok _ _ _ c.liquidate.result (λ k b. midway_filled c.args.height s t (map_of order_id_cmp c.args.placed.now) c.requires k b)
    (c.liquidate.ensures.within (2 ^ 101) c.requires.steady.within) c.liquidate.ensures.balanced
