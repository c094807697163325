use Rattle.std.proofs.Common.{rules, ◌-◌, IfErr, ◌∙◌}
use Rattle.dx_work.specs.Lines.{present}
use Rattle.dx_history.specs.Chains.{kept_from}
use Rattle.dx_node.specs.Starts.{IsUnkept}
use Rattle.dx_node.proofs.Started.{way_next, way_last, way_refused, adds_before, read_on}
use Rattle.dx_node.specs.Counts.{RestartLeaves}
use Rattle.dx_node.proofs.Leaving.{leave_before}
use Rattle.dx_node.proofs.restarting.fold_rows.Goals as goal

pub returns-in_err-next_block-clause-refused : goal.returns-in_err-next_block-clause-refused
returns-in_err-next_block-clause-refused g c =
    let i = c.loop-height.invariant in
    let first = g.K.Keeper.rows c.args.keeper.now in
    λ rows e of.
    let h : IfErr c.next_block.result (IsUnkept of (kept_from (present c.args.work.now) rows c.args.number c.args.first (c.args.count - c.args.first))) =
    way_refused first (g.K.Keeper.rows c.loop-height.keeper) c.args.number c.args.first (c.args.count - c.args.first) (present c.args.work.now) c.loop-height.height c.args.count (present c.loop-height.work) of
    c.next_block.result c.loop-height-test.true i.read.same i.way c.next_block.ensures.refused rows e in
    search rules

pub loop-height-preserved : goal.loop-height-preserved
loop-height-preserved g c =
    let i = c.loop-height.invariant in
    let a = g.K.Keeper.rows c.args.keeper.now in
    let b = g.K.Keeper.rows c.loop-height.keeper in
    let e = c.in_ok-next_block.ensures in
    record {
      settled = e.settled;
      both = e.both;
      nothing = e.nothing;
      way = way_next a c.args.number c.args.first (c.args.count - c.args.first) (present c.args.work.now) c.loop-height.height c.args.count (present c.loop-height.work) (present c.next_block.new.work) c.loop-height-test.true i.way
          (adds_before a b c.args.number c.loop-height.height (present c.loop-height.work) (present c.next_block.new.work) i.read.same e.ok);
      read = read_on a b (g.K.Keeper.rows c.next_block.new.keeper) (g.K.Keeper.faults c.args.keeper.now) (g.K.Keeper.faults c.loop-height.keeper) (g.K.Keeper.faults c.next_block.new.keeper) _ _ i.read e.read;
      good = e.good ∙ i.good;
    }

pub returns-clause-ok : goal.returns-clause-ok
returns-clause-ok g c =
    way_last (g.K.Keeper.rows c.args.keeper.now) c.args.number c.args.first (c.args.count - c.args.first) (present c.args.work.now) c.loop-height.height c.args.count (present c.loop-height.work) c.loop-height-test.false c.loop-height.invariant.way

pub returns-in_err-next_block-clause-still : goal.returns-in_err-next_block-clause-still
returns-in_err-next_block-clause-still g c =
    let h : IfErr c.next_block.result (RestartLeaves (g.K.Keeper.faults c.args.keeper.now) (g.K.Keeper.faults c.next_block.new.keeper)) =
    leave_before _ _ _ c.next_block.result c.loop-height.invariant.good c.next_block.ensures.still in
    search rules
