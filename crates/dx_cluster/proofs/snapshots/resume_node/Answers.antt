use Rattle.std.proofs.Common.{Option, refl, subst}
use Rattle.std.specs.Prelude.{IfSome}
use Rattle.dx_types.specs.declared.Genesis.{Genesis}
use Rattle.dx_spec.specs.State.{State}
use Rattle.dx_codec.specs.Building.{IsStateOf}
use Rattle.dx_cluster.proofs.Kept.{same_stands, any_ok}
use Rattle.dx_cluster.proofs.snapshots.resume_node.Goals as goal

pub go_on-requires : goal.go_on-requires
go_on-requires g c =
    let found = subst (λ (o : Option State). IfSome o (IsStateOf c.genesis.result.now)) c.in-Ok-Some.field-0-is c.in-Ok-Some.ensures.state in
    subst (λ (k : Genesis). IsStateOf k c.in-Ok-Some.state) c.genesis.ensures.own found

pub returns-in-Ok-None-clause-stands : goal.returns-in-Ok-None-clause-stands
returns-in-Ok-None-clause-stands g c = λ p st idle. same_stands c.args.node.now c.args.node.now p refl st idle

pub returns-in-Err-clause-stands : goal.returns-in-Err-clause-stands
returns-in-Err-clause-stands g c = any_ok c.unread.result _ (λ p st idle. same_stands c.args.node.now c.args.node.now p refl st idle)
