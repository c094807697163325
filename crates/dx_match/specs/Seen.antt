-- A taking, and what it comes to, as the definitions see them.
use Rattle.std.specs.Prelude.{List, [], map}
use Rattle.dx_spec.specs.State.{State}
use Rattle.dx_node_spec.specs.Taking.{Taken, Filled as FilledMaker}
use Rattle.dx_match.specs.declared.taken.Filled.{Filled}
use Rattle.dx_match.specs.declared.taken.Taking.{Taking}
use Rattle.dx_match.specs.declared.taken.Taken.{Taken as Result}

-- the makers and amounts of fills
abbrev pub group_of : List Filled → List FilledMaker
group_of fills = map (λ f. record { maker = f.maker; amount = f.amount }) fills

-- a taking that may go on, in a state
abbrev pub seen : State → Taking → Taken
seen s p = record {
  state = s;
  group = group_of p.group;
  ops = p.ops;
  gone = p.gone;
  filled = p.filled;
  fills = p.fills;
  offsets = p.offsets;
  stop = p.stop;
  over = p.over;
}

-- a taking that has come to its end, in a state
abbrev pub ended : State → Result → Taken
ended s r = record {
  state = s;
  group = [];
  ops = r.ops;
  gone = r.gone;
  filled = r.filled;
  fills = r.fills;
  offsets = r.offsets;
  stop = r.stop;
  over = r.over;
}
