use Rattle.dx_cluster.specs.World.{World, StandsForSome}
use Rattle.dx_app.specs.Transcript.{rest_told}
use Rattle.dx_app.specs.Runs.{Holds, GoesOn}
use Rattle.dx_app.specs.Counts.{Later, Spared}
use Rattle.dx_app.proofs.replay.replay_lines.Given as goal

-- what has been written, and then what is told of the rest, is what the whole is told
abbrev pub invariant-lines : goal.invariant-lines
invariant-lines g l = record {
  stands : StandsForSome l.cluster;
  goes_on : (w : World) → Holds l.fn.cluster (g.K.Keeper.rows l.fn.keeper) w
      → GoesOn (rest_told w 2) l.fn.reader l.reader (g.S.Source.left l.fn.source) (g.S.Source.left l.source)
      (g.W.Sink.written l.fn.sink) (g.W.Sink.written l.sink) l.cluster (g.K.Keeper.rows l.keeper) l.number;
  later : Later (g.S.Source.faults l.fn.source) (g.S.Source.faults l.source) (g.W.Sink.faults l.fn.sink) (g.W.Sink.faults l.sink) (g.K.Keeper.faults l.fn.keeper) (g.K.Keeper.faults l.keeper);
  still : Spared (g.S.Source.faults l.fn.source) (g.S.Source.faults l.source) (g.W.Sink.faults l.fn.sink) (g.W.Sink.faults l.sink) (g.K.Keeper.faults l.fn.keeper) (g.K.Keeper.faults l.keeper);
}
