use Rattle.std.proofs.Common.{◌≡◌, length, Some}
use Rattle.dx_io.specs.Rows.{Rows}
use Rattle.dx_cluster.proofs.Beginning.{StandForSome, HaveStarted}
use Rattle.dx_cluster.proofs.cluster.Cluster.open.Given as goal

-- the nodes so far have started, whatever the keeper tells, and where it tells its rows as those say; no call of the keeper has failed
abbrev pub invariant-nodes : goal.invariant-nodes
invariant-nodes g l = record {
  count : length l.nodes.items ≡ l.number;
  some : StandForSome l.nodes.items;
  told : (rows : Rows) → g.K.Keeper.rows l.fn.keeper ≡ Some rows → HaveStarted l.genesis rows l.number l.nodes.items (g.K.Keeper.rows l.keeper);
  steady : g.K.Keeper.faults l.keeper ≡ g.K.Keeper.faults l.fn.keeper;
}
