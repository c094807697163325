-- What the counts of faults say of how a run ends.
use Rattle.std.specs.Prelude.{◌≡◌, ℕ, ◌≤◌, ◌⊎◌}
use Rattle.dx_types.specs.declared.status.Status.{Status}
use Rattle.dx_types.specs.declared.status.Status.TheVariants.{Done, ReadFault, WriteFault, KeepFault, NoMemory}
use Rattle.dx_cluster.specs.declared.fault.StartFault.{StartFault}
use Rattle.dx_cluster.specs.declared.fault.StartFault.TheVariants as starts
use Rattle.dx_io.specs.Causes.{Rose}

-- no count falls: of source, sink and keeper
pub record Later (reads reads_now writes writes_now keeps keeps_now : ℕ) : Type 0 where
  pub read_count : reads ≤ reads_now
  pub write_count : writes ≤ writes_now
  pub keep_count : keeps ≤ keeps_now

-- a run ends by a fault of the outside only where that object's count rose
pub record Caused (reads reads_now writes writes_now keeps keeps_now : ℕ) (s : Status) : Type 0 where
  pub read_fault : s ≡ ReadFault → Rose reads reads_now
  pub write_fault : s ≡ WriteFault → Rose writes writes_now
  pub keep_fault : s ≡ KeepFault → Rose keeps keeps_now

-- the same where the keeper is not called
pub record CausedByStreams (reads reads_now writes writes_now : ℕ) (s : Status) : Type 0 where
  pub read_fault : s ≡ ReadFault → Rose reads reads_now
  pub write_fault : s ≡ WriteFault → Rose writes writes_now
  pub keep_fault : s ≡ KeepFault → ⊥

-- the same where only sink and keeper are called, behind which a run is not done
pub record CausedBehind (writes writes_now keeps keeps_now : ℕ) (s : Status) : Type 0 where
  pub write_fault : s ≡ WriteFault → Rose writes writes_now
  pub keep_fault : s ≡ KeepFault → Rose keeps keeps_now
  pub read_fault : s ≡ ReadFault → ⊥
  pub not_done : s ≡ Done → ⊥

-- the same where only the sink is called
pub record CausedByWrites (writes writes_now : ℕ) (s : Status) : Type 0 where
  pub write_fault : s ≡ WriteFault → Rose writes writes_now
  pub read_fault : s ≡ ReadFault → ⊥
  pub keep_fault : s ≡ KeepFault → ⊥
  pub not_done : s ≡ Done → ⊥

-- the same at a fault of starting nodes or of an event
pub record CausedByFault (writes writes_now : ℕ) (fault : StartFault) (s : Status) : Type 0 where
  pub write_fault : s ≡ WriteFault → Rose writes writes_now
  pub read_fault : s ≡ ReadFault → ⊥
  pub keep_fault : s ≡ KeepFault → fault ≡ starts.KeepFault
  pub not_done : s ≡ Done → ⊥

-- no fault is counted: the counts of source, sink and keeper are as before
pub record Spared (reads reads_now writes writes_now keeps keeps_now : ℕ) : Type 0 where
  pub read_count : reads_now ≡ reads
  pub write_count : writes_now ≡ writes
  pub keep_count : keeps_now ≡ keeps

-- the same where the keeper is not called
pub record StreamsSpared (reads reads_now writes writes_now : ℕ) : Type 0 where
  pub read_count : reads_now ≡ reads
  pub write_count : writes_now ≡ writes

-- the same where the source is not called
pub record SparedBehind (writes writes_now keeps keeps_now : ℕ) : Type 0 where
  pub write_count : writes_now ≡ writes
  pub keep_count : keeps_now ≡ keeps

-- the count of the sink is as before, or a write ended the run
abbrev pub SparedByWrites : ℕ → ℕ → Status → Type 0
SparedByWrites writes writes_now s = (writes_now ≡ writes) ⊎ ((s ≡ WriteFault) ⊎ (s ≡ NoMemory))
