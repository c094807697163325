use Rattle.std.proofs.Common.{sym, subst}
use Rattle.dx_types.specs.Keys.{order_id_cmp}
use Rattle.dx_maps.specs.Tables.{map_of}
use Rattle.dx_spec.specs.Operations.{Progress, op_at}
use Rattle.dx_operations.specs.declared.faults.BlockFault.{BlockFault}
use Rattle.dx_operations.specs.Faults.{Refuses}
use Rattle.dx_operations.proofs.Turns.{op_done, op_bad}
use Rattle.dx_operations.proofs.operations.apply_at.Goals as goal

pub returns-in-Ok-clause-ok : goal.returns-in-Ok-clause-ok
returns-in-Ok-clause-ok g c = op_done c.args.height c.args.number c.args.op.now _ _ c.in-Ok.ensures.ok

pub returns-in-Err-clause-bad : goal.returns-in-Err-clause-bad
returns-in-Err-clause-bad g c =
    let p : Progress = record { state = g.L.Ledger.content c.args.l.now; placed = map_of order_id_cmp c.args.placed.now } in
    subst (λ (f : BlockFault). Refuses f (op_at c.args.height c.args.number c.args.op.now p)) (sym c.bad_at.ensures)
    (op_bad c.args.height c.args.number c.args.op.now p c.in-Err.fault c.in-Err.ensures.fault)
