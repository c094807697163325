-- The order of the places of rows.
use Rattle.std.specs.Prelude.{ℕ}
use Rattle.std.specs.declared.cmp.Ordering.{Ordering}
use Rattle.std.specs.Ordering.{nat_cmp, ordering_then}
use Rattle.std.specs.Cmp.{IsTotalOrder, nat_cmp_total}
use Rattle.std.specs.FinMap.{IsAntisymmetric}
use Rattle.std.specs.Coded.{Coded}
use Rattle.std.proofs.lemmas.Cmp.{on_total, then_total}
use Rattle.std.proofs.lemmas.Map.Lookups.{exact_pairs, exact_unsigned}
use Rattle.std.proofs.Common.{ap}
use Rattle.dx_io.specs.contracts.row_key.RowKey as row_key
use Rattle.dx_io.specs.declared.row_key.RowKey.{RowKey}

-- by node, and then by height
abbrev pub row_cmp : RowKey → RowKey → Ordering
row_cmp a b = ordering_then (nat_cmp a.node b.node) (nat_cmp a.height b.height)

-- the code of a place, by which a model may have a finite map over places as its value
abbrev pub coded_row_key : Coded RowKey
coded_row_key = (row_key.the_row).coded

-- the order is total
pub row_total : IsTotalOrder row_cmp
row_total = then_total (on_total (λ k. k.node) nat_cmp_total) (on_total (λ k. k.height) nat_cmp_total)

-- places that compare alike are one
pub row_exact : IsAntisymmetric row_cmp
row_exact a b h = ap (λ (p : ℕ × ℕ). record { node = p.0; height = p.1 }) (exact_pairs nat_cmp nat_cmp exact_unsigned exact_unsigned (a.node, a.height) (b.node, b.height) h)
