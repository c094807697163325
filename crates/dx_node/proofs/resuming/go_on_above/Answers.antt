use Rattle.std.proofs.Common.{rules, IfErr, ap, ◌∙◌}
use Rattle.std.proofs.lemmas.Result.{IfOk-weaker}
use Rattle.dx_codec.specs.Genesis.{digest_of}
use Rattle.dx_work.specs.Lines.{committed}
use Rattle.dx_node.specs.declared.restarting.Start.{Start}
use Rattle.dx_node.specs.Starts.{IsUnkept}
use Rattle.dx_node.specs.Resumes.{chain_above}
use Rattle.dx_node.proofs.Started.{read_on}
use Rattle.dx_node.proofs.Resumed.{first_unkept, above_unkept, leads_above}
use Rattle.dx_node.proofs.Leaving.{leave_before}
use Rattle.dx_node.proofs.resuming.go_on_above.Goals as goal

pub returns-in_err-check_first-clause-refused : goal.returns-in_err-check_first-clause-refused
returns-in_err-check_first-clause-refused g c = λ rows e.
    let s = c.args.state in
    let h : IfErr c.check_first.result (IsUnkept s.genesis (chain_above s.genesis s rows c.args.number c.args.count)) =
    first_unkept (g.K.Keeper.rows c.args.keeper.now) s.genesis s c.args.number c.args.count c.in_ok-ours.ours c.check_first.result (c.in_ok-ours.ensures ∙ ap digest_of c.genesis.ensures)
    c.check_first.ensures.refused rows e in
    search rules

pub returns-clause-refused : goal.returns-clause-refused
returns-clause-refused g c = λ rows e.
    let s = c.args.state in
    above_unkept (g.K.Keeper.rows c.args.keeper.now) (g.K.Keeper.rows c.check_first.new.keeper) s.genesis s c.args.number c.next_height-first.result c.args.count c.start_behind.result
    c.check_first.ensures.read.same c.next_height-first.ensures.next (c.in_ok-check_first.ensures.ok s.genesis (c.in_ok-ours.ensures ∙ ap digest_of c.genesis.ensures)) c.start_behind.ensures.refused rows e

pub returns-clause-leads : goal.returns-clause-leads
returns-clause-leads g c =
    let s = c.args.state in
    let first = g.K.Keeper.rows c.args.keeper.now in
    IfOk-weaker c.start_behind.result _ _
    (λ (x : Start) l. leads_above first (g.K.Keeper.rows c.check_first.new.keeper) s.genesis s (committed x.work) c.args.number c.next_height-first.result c.args.count
    c.check_first.ensures.read.same c.next_height-first.ensures.next (c.in_ok-check_first.ensures.ok s.genesis (c.in_ok-ours.ensures ∙ ap digest_of c.genesis.ensures)) l)
    c.start_behind.ensures.leads

pub returns-clause-read : goal.returns-clause-read
returns-clause-read g c =
    read_on (g.K.Keeper.rows c.args.keeper.now) (g.K.Keeper.rows c.check_first.new.keeper) (g.K.Keeper.rows c.start_behind.new.keeper)
    (g.K.Keeper.faults c.args.keeper.now) (g.K.Keeper.faults c.check_first.new.keeper) (g.K.Keeper.faults c.start_behind.new.keeper)
    c.check_first.result c.start_behind.result c.check_first.ensures.read c.start_behind.ensures.read

pub returns-clause-still : goal.returns-clause-still
returns-clause-still g c = leave_before _ _ _ c.start_behind.result c.in_ok-check_first.ensures.good c.start_behind.ensures.still
