use Rattle.std.proofs.Common.{◌≡◌, ◌+◌, ◌*◌, ◌/◌, ◌≤◌, length}
use Rattle.dx_app.specs.OwnRuns.{Writes}
use Rattle.dx_app.specs.Transcript.{generated}
use Rattle.dx_app.proofs.own_run.generate.Given as goal

abbrev pub invariant-lines : goal.invariant-lines
invariant-lines g l = record {
  writes : Writes (generated l.fn.seed l.fn.events) (g.W.Sink.written l.fn.sink) (g.W.Sink.written l.sink) l.lines;
  left : length l.lines + l._number ≡ 11 + l.fn.events + 6 * (l.fn.events / 7);
  later : g.W.Sink.faults l.fn.sink ≤ g.W.Sink.faults l.sink;
  spared : g.W.Sink.faults l.sink ≡ g.W.Sink.faults l.fn.sink;
}
