use Rattle.std.proofs.Common.{rules, ◌<◌, ◌≤◌}
use Rattle.dx_node.proofs.Resumed.{is_ahead, is_broken, is_resumed}
use Rattle.dx_node.proofs.Leaving.{resume_leaves}
use Rattle.dx_node.proofs.resuming.resume_from.Goals as goal

pub returns-then-rows-clock-clause-refused : goal.returns-then-rows-clock-clause-refused
returns-then-rows-clock-clause-refused g c =
    let s = c.args.state in
    let le : c.in_ok-rows.rows ≤ s.clock.height = search rules in
    is_ahead (g.K.Keeper.rows c.args.keeper.now) s.genesis s c.args.number c.in_ok-rows.rows le c.in_ok-rows.ensures.count

pub returns-in-Ok-clause-leads : goal.returns-in-Ok-clause-leads
returns-in-Ok-clause-leads g c =
    let s = c.args.state in
    let lt : s.clock.height < c.in_ok-rows.rows = search rules in
    is_resumed (g.K.Keeper.rows c.args.keeper.now) (g.K.Keeper.rows c.count.new.self) s.genesis s _ c.args.number c.in_ok-rows.rows lt c.in_ok-rows.ensures.kept c.in_ok-rows.ensures.count c.in-Ok.ensures.leads

pub returns-in-Err-clause-refused : goal.returns-in-Err-clause-refused
returns-in-Err-clause-refused g c =
    let s = c.args.state in
    let lt : s.clock.height < c.in_ok-rows.rows = search rules in
    is_broken (g.K.Keeper.rows c.args.keeper.now) (g.K.Keeper.rows c.count.new.self) s.genesis s c.args.number c.in_ok-rows.rows c.in-Err.fault c.no_chain.result lt
    c.in_ok-rows.ensures.kept c.in_ok-rows.ensures.count c.no_chain.ensures c.in-Err.ensures.refused

pub returns-in-Err-clause-still : goal.returns-in-Err-clause-still
returns-in-Err-clause-still g c =
    resume_leaves (g.K.Keeper.faults c.args.keeper.now) (g.K.Keeper.faults c.count.new.self) (g.K.Keeper.faults c.go_on_above.new.keeper) c.in-Err.fault c.no_chain.result c.no_chain.ensures c.in_ok-rows.ensures.good c.in-Err.ensures.still
