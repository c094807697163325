-- What a `BTreeMap` keeps, as a finite map.
use Rattle.std.specs.Prelude.{Bool, map, find, Option, option_map}
use Rattle.std.specs.declared.cmp.Ordering.{Ordering}
use Rattle.std.specs.BTreeMap.{BTreeMap}
use Rattle.std.specs.FinMap.{FinMap, entries, from_entries}

-- the finite map that a table keeps
abbrev pub map_of : {K X : Type 0} (R : K → K → Ordering) → BTreeMap K X → FinMap R X
map_of R table = from_entries table.entries

-- a finite map with each value seen through a function, as a row through its bytes
abbrev pub with_values : {K X Y : Type 0} {R : K → K → Ordering} → (X → Y) → FinMap R X → FinMap R Y
with_values f m = from_entries (map {B = _ × _} (λ e. (e.0, f e.1)) (entries m))

-- the least key whose entry passes a test
abbrev pub first_passing : {K X : Type 0} {R : K → K → Ordering} → (K → X → Bool) → FinMap R X → Option K
first_passing passes m = option_map (λ e. e.0) (find (λ e. passes e.0 e.1) (entries m))
