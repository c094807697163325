use Rattle.std.proofs.Common.{◌≡◌, ◌++◌, ◌∷◌, [], List, length, arith, refl, ap, ◌∙◌, IfErr}
use Rattle.std.proofs.lemmas.Result.{err_from_is_err_and}
use Rattle.dx_node.specs.Held.{Held}
use Rattle.dx_cluster.specs.declared.fault.StartFault.TheVariants as starts
use Rattle.dx_cluster.proofs.Beginning.{opens, opens_some, open_fails, open_ends, some_more, started_more, one_more, err_told, err_follows, leaves_before}
use Rattle.dx_cluster.proofs.cluster.Cluster.open.Goals as goal

pub returns-in-Err-clause-refused : goal.returns-in-Err-clause-refused
returns-in-Err-clause-refused g c = λ rows e.
    open_fails c.args.count c.nodes.number c.args.genesis.now rows c.nodes.nodes.items (g.K.Keeper.rows c.nodes.keeper) (g.K.Keeper.rows c.start_node.new.keeper) c.in-Err.fault (omega (arith, c.nodes-test.true))
    (c.nodes.invariant.told rows e) c.in-Err.ensures.refused

pub returns-clause-opened : goal.returns-clause-opened
returns-clause-opened g c = λ rows e. opens _ c.args.count c.args.genesis.now rows c.nodes.number c.nodes.nodes.items (g.K.Keeper.rows c.nodes.keeper) (c.nodes.invariant.told rows e) (omega arith) refl c.new.ensures

pub returns-clause-stands : goal.returns-clause-stands
returns-clause-stands g c = opens_some _ c.nodes.nodes.items c.nodes.invariant.some refl

pub returns-in_err-push-in-Ok-clause-refused : goal.returns-in_err-push-in-Ok-clause-refused
returns-in_err-push-in-Ok-clause-refused g c = λ rows e.
    let p = err_from_is_err_and c.from_residual.result c.from_residual.ensures.1 in
    let h : IfErr c.from_residual.result (λ fault. fault ≡ starts.NoMemory) = err_told c.from_residual.result p.0 (λ fault. fault ≡ starts.NoMemory) p.1 p.2 in
    err_follows _ _ c.from_residual.result
    (λ fault same. open_ends c.args.count c.nodes.number c.args.genesis.now rows c.nodes.nodes.items (g.K.Keeper.rows c.nodes.keeper) (g.K.Keeper.rows c.start_node.new.keeper) fault (omega (arith, c.nodes-test.true)) (c.nodes.invariant.told rows e) c.in-Ok.ensures.begun same) h

pub nodes-preserved : goal.nodes-preserved
nodes-preserved g c =
    let items : List Held = c.nodes.nodes.items in
    let more : List Held = c.push.new.self.items in
    let before = g.K.Keeper.rows c.nodes.keeper in
    let after = g.K.Keeper.rows c.start_node.new.keeper in
    let e : more ≡ items ++ c.in-Ok.node ∷ [] = c.in_ok-push-in-Ok.ensures.items in
    record {
      count = ap (λ (xs : List Held). length xs) e ∙ one_more items c.in-Ok.node c.nodes.number c.nodes.invariant.count;
      some = some_more items more c.args.genesis.now c.nodes.number before c.in-Ok.node c.nodes.invariant.some c.in-Ok.ensures.started e;
      told = λ rows h. started_more items more c.args.genesis.now rows c.nodes.number before after c.in-Ok.node (c.nodes.invariant.told rows h) c.in-Ok.ensures.started c.in-Ok.ensures.begun e;
      steady = c.in-Ok.ensures.good ∙ c.nodes.invariant.steady;
    }

pub returns-in-Err-clause-still : goal.returns-in-Err-clause-still
returns-in-Err-clause-still g c = leaves_before _ _ _ c.in-Err.fault c.nodes.invariant.steady c.in-Err.ensures.still

pub returns-clause-good : goal.returns-clause-good
returns-clause-good g c = c.nodes.invariant.steady
