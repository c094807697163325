use Rattle.std.proofs.Common.{◌-◌, ap, subst}
use Rattle.dx_spec.specs.State.{State}
use Rattle.dx_work.specs.Lines.{present}
use Rattle.dx_history.specs.Chains.{kept_from}
use Rattle.dx_node.specs.Starts.{IsUnkept}
use Rattle.dx_node.proofs.Started.{read_same}
use Rattle.dx_node.proofs.Folded.{one_settled, one_content, none_aside, folded_leads, folded_settled, folded_present, folded_nothing, folded_again}
use Rattle.dx_node.proofs.restarting.start_behind.Goals as goal

pub fold_rows-requires-clause-settled : goal.fold_rows-requires-clause-settled
fold_rows-requires-clause-settled g c = one_settled c.in_ok-work.work c.args.state c.in_ok-work.ensures c.requires.settled

pub fold_rows-requires-clause-both : goal.fold_rows-requires-clause-both
fold_rows-requires-clause-both g c = one_content c.in_ok-work.work c.args.state c.in_ok-work.ensures

pub fold_rows-requires-clause-nothing : goal.fold_rows-requires-clause-nothing
fold_rows-requires-clause-nothing g c = none_aside c.in_ok-work.work c.args.state c.in_ok-work.ensures

pub returns-in-Err-clause-refused : goal.returns-in-Err-clause-refused
returns-in-Err-clause-refused g c = λ rows e of.
    subst (λ (s : State). IsUnkept of (kept_from s rows c.args.number c.args.first (c.args.count - c.args.first)) c.in-Err.fault) (ap present c.in_ok-work.ensures) (c.in-Err.ensures.refused rows e of)

pub returns-clause-leads : goal.returns-clause-leads
returns-clause-leads g c =
    folded_leads (g.K.Keeper.rows c.args.keeper.now) c.args.number c.args.first (c.args.count - c.args.first) c.args.state c.in_ok-work.work c.fold_rows.new.work c.in_ok-start_with.field-0.work
    c.in_ok-work.ensures c.in_ok-start_with.ensures.same c.in-Ok.ensures.both c.in-Ok.ensures.ok

pub returns-clause-settled : goal.returns-clause-settled
returns-clause-settled g c = folded_settled c.fold_rows.new.work c.in_ok-start_with.field-0.work c.in_ok-start_with.ensures.same c.in-Ok.ensures.both c.in-Ok.ensures.settled

pub returns-clause-speculative : goal.returns-clause-speculative
returns-clause-speculative g c = folded_present c.fold_rows.new.work c.in_ok-start_with.field-0.work c.in_ok-start_with.ensures.same c.in-Ok.ensures.both

pub returns-clause-nothing : goal.returns-clause-nothing
returns-clause-nothing g c = folded_nothing c.fold_rows.new.work c.in_ok-start_with.field-0.work c.in_ok-start_with.ensures.same c.in-Ok.ensures.nothing

pub returns-clause-again : goal.returns-clause-again
returns-clause-again g c = folded_again c.fold_rows.new.work c.in_ok-start_with.field-0.work c.in_ok-start_with.field-0.again c.in_ok-start_with.ensures.same c.in_ok-start_with.ensures.again

pub returns-clause-read : goal.returns-clause-read
returns-clause-read g c =
    read_same (g.K.Keeper.rows c.args.keeper.now) (g.K.Keeper.rows c.fold_rows.new.keeper) (g.K.Keeper.faults c.args.keeper.now) (g.K.Keeper.faults c.fold_rows.new.keeper)
    c.fold_rows.result c.in_ok-start_with.field-0 c.fold_rows.ensures.read
