use Rattle.std.proofs.Common.{◌≡◌, ◌-◌, None, Ok}
use Rattle.dx_rules.specs.Settled.{IsSettled}
use Rattle.dx_work.specs.Lines.{committed, present, aside_of}
use Rattle.dx_node.specs.Starts.{OnlyReads}
use Rattle.dx_node.proofs.Started.{IsUnderWay}
use Rattle.dx_node.proofs.restarting.fold_rows.Given as goal

-- what is left of the rows decides what is told of all
abbrev pub invariant-loop-height : goal.invariant-loop-height
invariant-loop-height g l =
    let keeper = g.K.Keeper in
    record {
      settled : IsSettled (present l.work);
      both : committed l.work ≡ present l.work;
      nothing : aside_of l.work ≡ None;
      way : IsUnderWay (keeper.rows l.fn.keeper) l.number l.first (l.count - l.first) (present l.fn.work) l.height (l.count - l.height) (present l.work);
      read : OnlyReads {T = Unit {0}} (keeper.rows l.fn.keeper) (keeper.rows l.keeper) (keeper.faults l.fn.keeper) (keeper.faults l.keeper) (Ok tt);
      good : keeper.faults l.keeper ≡ keeper.faults l.fn.keeper;
    }
