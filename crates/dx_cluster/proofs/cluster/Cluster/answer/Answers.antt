use Rattle.std.proofs.Common.{rules, ◌≡◌, false}
use Rattle.dx_cluster.specs.World.{uses_rows}
use Rattle.dx_cluster.proofs.Kept.{beside_keeps, done_stands}
use Rattle.dx_cluster.proofs.cluster.Cluster.answer.Goals as goal

pub returns-in_ok-act-in_default-clause-done : goal.returns-in_ok-act-in_default-clause-done
returns-in_ok-act-in_default-clause-done g c =
    let beside : uses_rows c.args.event ≡ false = search rules in
    λ w st h. beside_keeps (g.K.Keeper.rows c.args.keeper.now) w c.args.event _ _ beside (c.in_ok-act-in_default.ensures.done w st) h

pub returns-in_ok-act-in_default-clause-stands : goal.returns-in_ok-act-in_default-clause-stands
returns-in_ok-act-in_default-clause-stands g c = done_stands _ _ _ (c.in_ok-act-in_default.ensures.done c.requires.stands.0 c.requires.stands.1)
