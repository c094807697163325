use Rattle.std.proofs.Common.{◌≤◌, T, length, sym, subst, arith}
use Rattle.std.specs.FinMap.Entries.{is_sorted}
use Rattle.dx_book.specs.Names.{level_cmp}
use Rattle.dx_book.specs.Orders.{level_total}
use Rattle.dx_book.proofs.Rows.{place_within, sorted_from}
use Rattle.dx_book.proofs.Picked.{best_from}
use Rattle.dx_book.proofs.best.best_of_side.Goals as goal

pub split_at-requires : goal.split_at-requires
split_at-requires c =
    let w = place_within level_cmp level_total c.start_of_side.result c.args.levels.now in
    let e = c.place_of.ensures in
    omega (arith, w, e)

pub first_behind-requires : goal.first_behind-requires
first_behind-requires c = subst (λ l. T (is_sorted level_cmp l)) (sym c.split_at.ensures.back) (sorted_from level_cmp level_total c.args.levels.now c.place_of.result c.requires)

pub returns : goal.returns
returns c = best_from c.args.market c.args.buy c.args.levels.now _ _ c.start_of_side.result _ c.start_of_side.ensures c.place_of.ensures c.split_at.ensures.back c.first_behind.ensures
