use Rattle.std.proofs.Common.{◌==◌, min, length, filter, sym, ap, ◌∙◌}
use Rattle.dx_maps.proofs.Tables.{keys_in_order}
use Rattle.dx_io.specs.RowKeys.{row_cmp, row_total, row_exact}
use Rattle.dx_io.proofs.sure_keeper.row_count.Goals as goal

-- the keys of the entries are those of the finite map
pub returns : goal.returns
returns c =
    let of_map = keys_in_order row_cmp row_total row_exact c.args.rows.now.entries c.entry_count.ensures.ordered in
    c.min.ensures ∙ ap (λ n. min n 4294967295) (c.entry_count.ensures.count ∙ ap (λ keys. length (filter (λ key. key.node == c.args.node) keys)) (sym of_map))
