use Rattle.std.proofs.Common.{◌-◌}
use Rattle.dx_cluster.proofs.Turns.{IsUnderWay}
use Rattle.dx_cluster.proofs.acts.place_list_again.Given as goal

-- so many turns are left
abbrev pub invariant-turns : goal.invariant-turns
invariant-turns l = IsUnderWay l.fn.node l.node (l._turn-end - l._turn)
