use Rattle.std.proofs.Common.{◌^◌}
use Rattle.dx_maps.specs.Tables.{map_of}
use Rattle.dx_types.specs.Keys.{order_id_cmp}
use Rattle.dx_operations.proofs.Standing.{midway_filled, tradable_filled}
use Rattle.dx_operations.proofs.Turns.{both_ok}
use Rattle.dx_operations.proofs.matching.fill_by.Goals as goal
use Rattle.dx_accounts.proofs.Settled.{then_ok}

pub returns-clause-midway : goal.returns-clause-midway
returns-clause-midway g c =
    let s = g.L.Ledger.content c.args.l.now in
    let t = g.L.Ledger.content c.fill.new.l in
    both_ok _ _ _ c.fill.result (λ k b. midway_filled c.args.height s t (map_of order_id_cmp c.args.placed.now) c.requires.midway k b)
    (c.fill.ensures.within (2 ^ 101) c.requires.midway.steady.within) c.fill.ensures.balanced

pub returns-clause-taker : goal.returns-clause-taker
returns-clause-taker g c =
    let s = g.L.Ledger.content c.args.l.now in
    let t = g.L.Ledger.content c.fill.new.l in
    then_ok _ _ c.fill.result (λ k. tradable_filled s t c.args.taker.now c.requires.midway.steady k c.requires.taker)
    (c.fill.ensures.within (2 ^ 101) c.requires.midway.steady.within)
