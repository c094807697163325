use Rattle.std.proofs.Common.{option_map}
use Rattle.dx_history.specs.Rows.{place_of}
use Rattle.dx_history.proofs.Reading.{only_known, not_bad_known}
use Rattle.dx_history.proofs.blocks.kept_block.Goals as goal

pub returns-clause-only : goal.returns-clause-only
returns-clause-only g c =
    only_known c.read_row.result (g.K.Keeper.rows c.args.keeper.now) (place_of c.args.node c.args.height) (option_map (λ bytes. bytes.items) c.in_ok-row.row)
    c.in_ok-row.ensures.found c.read_row.ensures.told

pub returns-clause-bad : goal.returns-clause-bad
returns-clause-bad g c =
    not_bad_known c.read_row.result (g.K.Keeper.rows c.args.keeper.now) (place_of c.args.node c.args.height) (option_map (λ bytes. bytes.items) c.in_ok-row.row)
    c.in_ok-row.ensures.found c.read_row.ensures.told
