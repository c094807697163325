-- To compute with all of a node, a proof names `all_of_it` on its unfolding line.
use Rattle.dx_spec.specs.Compute.{everything}
use Rattle.dx_node_spec.specs.Book.{best, makers_of}
use Rattle.dx_node_spec.specs.Queue.{placed_by, places, named_by}
use Rattle.dx_node_spec.specs.Taking.{closed, with_fill, with_removed, refused_maker, looked_again, try_maker, take_one, within_limits, take_order}
use Rattle.dx_node_spec.specs.Sweeping.{settled_risk, liquidate_one, liquidate_market, offset_one, delever_market, sweep_parts, sweep_account}
use Rattle.dx_node_spec.specs.Votes.{impact_walk, impact_base, vote}
use Rattle.dx_node_spec.specs.Node.{new_node, committed, speculative}
use Rattle.dx_node_spec.specs.Placing.{check_place_at, check_place, goes_to, settle_order, taken_on, place, place_stateful, place_again}
use Rattle.dx_node_spec.specs.Events.{check_cancel, cancel, cancel_all, pooled, fed, sweep}
use Rattle.dx_node_spec.specs.Proposals.{proposal_at, proposal, may_propose, propose}
use Rattle.dx_node_spec.specs.Commits.{again_after, adopted, commit, replay_next, place_all, placed_again, resumed, restarted}

-- what computes
unfoldable pub all_of_it : Unit {0}
unfolding everything best makers_of placed_by places named_by closed with_fill with_removed refused_maker looked_again try_maker take_one within_limits take_order settled_risk liquidate_one liquidate_market offset_one delever_market sweep_parts sweep_account impact_walk impact_base vote new_node committed speculative check_place_at check_place goes_to settle_order taken_on place place_stateful place_again check_cancel cancel cancel_all pooled fed sweep proposal_at proposal may_propose propose again_after adopted commit replay_next place_all placed_again resumed restarted
all_of_it = tt
