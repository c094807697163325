use Rattle.std.proofs.Common.{◌≡◌, true, rules}
use Rattle.std.specs.FinMap.{insert}
use Rattle.dx_types.specs.Keys.{order_id_cmp}
use Rattle.dx_maps.specs.Tables.{map_of}
use Rattle.dx_spec.specs.Operations.{is_good_order}
use Rattle.dx_operations.proofs.Standing.{midway_placed}
use Rattle.dx_operations.proofs.placing.place.Goals as goal

pub returns-clause-midway : goal.returns-clause-midway
returns-clause-midway g c =
    let s = g.L.Ledger.content c.args.l.now in
    let o = c.args.o.now in
    let before = map_of order_id_cmp c.args.placed.now in
    let after = map_of order_id_cmp c.keep.new.placed in
    let good : is_good_order s c.args.height o ≡ true = search rules in
    let set : after ≡ insert before o.id o = search rules in
    midway_placed c.args.height s before after o c.requires good set
