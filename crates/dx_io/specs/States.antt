-- What contracts see of the kinds in memory whose listed calls fail.
use Rattle.std.specs.Prelude.{ℕ, List, refl}
use Rattle.std.specs.Coded.{Coded, code_by, coded×, coded_ℕ, coded_list}
use Rattle.dx_io.specs.Plans.{Plan}
use Rattle.dx_io.specs.Rows.{Rows, coded_rows}

-- the bytes left of a source, and its plan
pub record SourceState : Type 0 where
  pub left : List ℕ
  pub plan : Plan

-- the bytes written to a sink, and its plan
pub record SinkState : Type 0 where
  pub written : List ℕ
  pub plan : Plan

-- the rows of a keeper, and its plan
pub record KeeperState : Type 0 where
  pub rows : Rows
  pub plan : Plan

-- the code of a keeper's state
abbrev pub coded_keeper : Coded KeeperState
coded_keeper =
    code_by (Rows × (List ℕ × (ℕ × ℕ))) (coded× coded_rows (coded× (coded_list coded_ℕ) (coded× coded_ℕ coded_ℕ)))
    (λ k. (k.rows, (k.plan.fails, (k.plan.calls, k.plan.faults))))
    (λ p. record { rows = p.0; plan = record { fails = p.1.0; calls = p.1.1.0; faults = p.1.1.1 } }) (λ _. refl)
