use Rattle.std.proofs.Common.{◌+◌, ◌-◌, arith}
use Rattle.dx_cluster.proofs.Turns.{turns_start, turn_done}
use Rattle.dx_cluster.proofs.acts.place_list_again.Goals as goal

pub turns-init : goal.turns-init
turns-init c = turns_start c.args.node.now (c.pending-turn-end.result - 0) (omega (arith, c.pending-turn-end.ensures))

pub turns-preserved : goal.turns-preserved
turns-preserved c =
    turn_done c.args.node.now c.turns.node c.replay_next.new.self (c.pending-turn-end.result - c.turns._turn) (c.pending-turn-end.result - (c.turns._turn + 1)) c.in_ok-replay_next.field-0
    (omega (arith, c.turns-test.true)) c.turns.invariant c.in_ok-replay_next.ensures.ok
