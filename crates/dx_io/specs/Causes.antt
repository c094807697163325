-- When a call on the outside may say that it failed: only where the object's count of faults rose.
use Rattle.std.specs.Prelude.{◌≡◌, ℕ, ◌+◌, ◌-◌, ◌^◌, ◌≤◌, ◌<◌, List, length, min, Result, Ok, IfOk, OnOk, OnErr, IsErrOf}
use Rattle.dx_io.specs.declared.sink.SinkError.{SinkError}
use Rattle.dx_io.specs.declared.sink.SinkError.TheVariants.{Failed}
use Rattle.dx_io.specs.declared.keeper.KeepError.{KeepError}
use Rattle.dx_io.specs.declared.keeper.KeepError.TheVariants as keep

-- one more, up to the end of 64 bits
abbrev pub one_more : ℕ → ℕ
one_more count = min (count + 1) (2 ^ 64 - 1)

-- the count rose, or stands at the end of 64 bits, where it stays
abbrev pub Rose : ℕ → ℕ → Type 0
Rose before now = one_more before ≤ now

-- a good answer leaves the count of faults as it was
abbrev pub KeepsCount : {T E : Type 0} → ℕ → ℕ → Result T E → Type 0
KeepsCount before now result = OnOk result (now ≡ before)

-- so does that of a write, which is no good one where it takes nothing of a piece that is not empty
abbrev pub WriteKeepsCount : ℕ → ℕ → List ℕ → Result ℕ SinkError → Type 0
WriteKeepsCount before now piece result = IfOk result (λ count. (0 < length piece → 0 < count) → now ≡ before)

-- a read fails only where the count rose; the count is of 64 bits and never falls
pub record ReadCause {E : Type 0} (before now : ℕ) (result : Result ℕ E) : Type 0 where
  pub later : before ≤ now
  pub in_range : now < 2 ^ 64
  pub failed : OnErr result (Rose before now)

-- a write fails, or takes nothing of a piece that is not empty, only where the count rose; the count is of 64 bits and never falls
pub record WriteCause (before now : ℕ) (piece : List ℕ) (result : Result ℕ SinkError) : Type 0 where
  pub later : before ≤ now
  pub in_range : now < 2 ^ 64
  pub failed : IsErrOf result Failed → Rose before now
  pub nothing_taken : result ≡ Ok 0 → 0 < length piece → Rose before now

-- a call of a keeper fails only where the count rose; the count is of 64 bits and never falls
pub record KeepCause {T : Type 0} (before now : ℕ) (result : Result T KeepError) : Type 0 where
  pub later : before ≤ now
  pub in_range : now < 2 ^ 64
  pub failed : IsErrOf result keep.Failed → Rose before now
