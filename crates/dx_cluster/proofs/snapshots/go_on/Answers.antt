use Rattle.dx_cluster.proofs.Kept.{resumed_stands, same_stands, any_ok}
use Rattle.dx_cluster.proofs.snapshots.go_on.Goals as goal

pub returns-in_ok-place_list_again-in-Ok-clause-stands : goal.returns-in_ok-place_list_again-in-Ok-clause-stands
returns-in_ok-place_list_again-in-Ok-clause-stands g c = λ p st idle.
    resumed_stands (g.K.Keeper.rows c.args.keeper.now) p c.args.state c.resume.new.self c.place_list_again.new.node c.in-Ok.height (c.in-Ok.ensures.ok p st) c.in_ok-place_list_again-in-Ok.ensures

pub returns-in-Err-clause-stands : goal.returns-in-Err-clause-stands
returns-in-Err-clause-stands g c = any_ok c.unresumed.result _ (λ p st idle. same_stands c.args.node.now c.resume.new.self p c.in-Err.ensures.same st idle)
