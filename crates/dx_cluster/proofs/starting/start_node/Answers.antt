use Rattle.std.proofs.Common.{◌≡◌, sym, subst, IfErr}
use Rattle.std.proofs.lemmas.Result.{err_from_is_err_and}
use Rattle.dx_node_spec.specs.Node.{new_node}
use Rattle.dx_cluster.specs.declared.fault.StartFault.{StartFault}
use Rattle.dx_cluster.specs.Counts.{StartLeaves}
use Rattle.dx_cluster.specs.Starts.{StartRefused}
use Rattle.dx_cluster.proofs.Beginning.{err_told, err_follows}
use Rattle.dx_cluster.proofs.starting.start_node.Goals as goal

pub returns-in_err-restart_node-clause-refused : goal.returns-in_err-restart_node-clause-refused
returns-in_err-restart_node-clause-refused g c =
    let first = new_node c.args.number c.args.genesis.now in
    let after = g.K.Keeper.rows c.restart_node.new.keeper in
    let why : StartFault = c.in_err-restart_node.field-0.0 in
    let p = err_from_is_err_and c.from_residual-in_err-restart_node.result c.from_residual-in_err-restart_node.ensures.1 in
    let h : IfErr c.from_residual-in_err-restart_node.result (λ fault. fault ≡ why) =
    err_told c.from_residual-in_err-restart_node.result p.0 (λ fault. fault ≡ why) p.1 p.2 in
    err_follows _ _ c.from_residual-in_err-restart_node.result
    (λ fault same rows e. subst (StartRefused rows first after) (sym same) (c.in_err-restart_node.ensures.refused first c.in_ok-node.ensures rows e)) h

pub returns-in_err-restart_node-clause-still : goal.returns-in_err-restart_node-clause-still
returns-in_err-restart_node-clause-still g c =
    let why : StartFault = c.in_err-restart_node.field-0.0 in
    let p = err_from_is_err_and c.from_residual-in_err-restart_node.result c.from_residual-in_err-restart_node.ensures.1 in
    let h : IfErr c.from_residual-in_err-restart_node.result (λ fault. fault ≡ why) =
    err_told c.from_residual-in_err-restart_node.result p.0 (λ fault. fault ≡ why) p.1 p.2 in
    err_follows _ _ c.from_residual-in_err-restart_node.result
    (λ fault same. subst (StartLeaves (g.K.Keeper.faults c.args.keeper.now) (g.K.Keeper.faults c.restart_node.new.keeper)) (sym same) c.in_err-restart_node.ensures.still) h
