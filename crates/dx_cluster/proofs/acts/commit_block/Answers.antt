use Rattle.dx_cluster.proofs.Turns.{committed_acts}
use Rattle.dx_cluster.proofs.acts.commit_block.Goals as goal

pub returns-in_ok-place_list_again-in-Ok-clause-done : goal.returns-in_ok-place_list_again-in-Ok-clause-done
returns-in_ok-place_list_again-in-Ok-clause-done g c =
    committed_acts c.args.block.now c.args.node.now c.commit.new.self c.place_list_again.new.node c.in-Ok.results _ c.in-Ok.ensures.ok c.in_ok-place_list_again-in-Ok.ensures c.in_ok-numbers-in-Ok.ensures
