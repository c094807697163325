-- Which calls fail, and how many calls and faults there have been.
use Rattle.std.specs.Prelude.{ℕ, ◌+◌, ◌-◌, ◌^◌, ◌==◌, ◌&&◌, nat_lt, List, Bool, if◌then◌else◌}
use Rattle.std.specs.List.{list_any}
use Rattle.dx_io.specs.Causes.{one_more}

-- the numbers of the calls that fail, from 1, and the counts of calls and of faults, both of 64 bits
pub record Plan : Type 0 where
  pub fails : List ℕ
  pub calls : ℕ
  pub faults : ℕ

-- no call yet
abbrev pub fresh_plan : List ℕ → Plan
fresh_plan fails = record { fails = fails; calls = 0; faults = 0 }

-- the number of the next call is listed; a call past the end of 64 bits has no number
abbrev pub is_next_listed : Plan → Bool
is_next_listed p = nat_lt p.calls (2 ^ 64 - 1) && list_any (λ number. number == p.calls + 1) p.fails

-- one more call, and one more fault where the call was listed
abbrev pub after_call : Plan → Plan
after_call p = record { fails = p.fails; calls = one_more p.calls; faults = (if is_next_listed p then one_more p.faults else p.faults) }
