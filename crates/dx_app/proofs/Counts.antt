-- Counts of faults that rise one after the other.
use Rattle.std.proofs.Common.{◌≡◌, ◌≤◌, ℕ, arith}
use Rattle.dx_io.specs.Causes.{Rose}
use Rattle.dx_types.specs.declared.status.Status.{Status}
use Rattle.dx_cluster.specs.declared.fault.StartFault.{StartFault}
use Rattle.dx_cluster.specs.declared.fault.StartFault.TheVariants as starts
use Rattle.dx_app.specs.Counts.{Later, Caused, CausedByStreams, CausedBehind, CausedByWrites, CausedByFault}

rose_before : (a b c : ℕ) → a ≤ b → Rose b c → Rose a c
rose_before a b c h r = first_of (omega (arith, h, r), grind arith)

module _ (r0 r1 r2 w0 w1 w2 k0 k1 k2 : ℕ) where
  pub later_then : Later r0 r1 w0 w1 k0 k1 → Later r1 r2 w1 w2 k1 k2 → Later r0 r2 w0 w2 k0 k2
  later_then a b = record {
    read_count = omega (arith, a.read_count, b.read_count);
    write_count = omega (arith, a.write_count, b.write_count);
    keep_count = omega (arith, a.keep_count, b.keep_count);
  }

  -- a run has gone on, and ends
  pub caused_then : (s : Status) → Later r0 r1 w0 w1 k0 k1 → Caused r1 r2 w1 w2 k1 k2 s → Caused r0 r2 w0 w2 k0 k2 s
  caused_then s a c = record {
    read_fault = λ e. rose_before r0 r1 r2 a.read_count (c.read_fault e);
    write_fault = λ e. rose_before w0 w1 w2 a.write_count (c.write_fault e);
    keep_fault = λ e. rose_before k0 k1 k2 a.keep_count (c.keep_fault e);
  }

module _ (r0 r1 r2 w0 w1 w2 k0 k1 : ℕ) where
  -- the streams alone are called any more
  pub later_streams : Later r0 r1 w0 w1 k0 k1 → r1 ≤ r2 → w1 ≤ w2 → Later r0 r2 w0 w2 k0 k1
  later_streams a r w = record { read_count = omega (arith, a.read_count, r); write_count = omega (arith, a.write_count, w); keep_count = a.keep_count }

  pub caused_by_streams : (s : Status) → Later r0 r1 w0 w1 k0 k1 → CausedByStreams r1 r2 w1 w2 s → Caused r0 r2 w0 w2 k0 k1 s
  caused_by_streams s a c = record {
    read_fault = λ e. rose_before r0 r1 r2 a.read_count (c.read_fault e);
    write_fault = λ e. rose_before w0 w1 w2 a.write_count (c.write_fault e);
    keep_fault = λ e. absurd (c.keep_fault e);
  }

-- an event is not answered
pub caused_behind : (w0 w1 k0 k1 : ℕ) (fault : StartFault) (s : Status) → (fault ≡ starts.KeepFault → Rose k0 k1) → CausedByFault w0 w1 fault s → CausedBehind w0 w1 k0 k1 s
caused_behind w0 w1 k0 k1 fault s f c = record { write_fault = c.write_fault; keep_fault = λ e. f (c.keep_fault e); read_fault = c.read_fault; not_done = c.not_done }

-- a run ends at its first line
pub caused_opening : (r0 r1 w0 w1 k0 : ℕ) (s : Status) → CausedByStreams r0 r1 w0 w1 s → Caused r0 r1 w0 w1 k0 k0 s
caused_opening r0 r1 w0 w1 k0 s c = record { read_fault = c.read_fault; write_fault = c.write_fault; keep_fault = λ e. absurd (c.keep_fault e) }

-- it ends at nodes that are not started
pub caused_unopened : (r0 r1 w0 w1 w2 k0 k1 : ℕ) (fault : StartFault) (s : Status) → w0 ≤ w1 → (fault ≡ starts.KeepFault → Rose k0 k1) → CausedByFault w1 w2 fault s → Caused r0 r1 w0 w2 k0 k1 s
caused_unopened r0 r1 w0 w1 w2 k0 k1 fault s a f c = record {
  read_fault = λ e. absurd (c.read_fault e);
  write_fault = λ e. rose_before w0 w1 w2 a (c.write_fault e);
  keep_fault = λ e. f (c.keep_fault e);
}

-- it ends at the reply to its first line
pub caused_greeting : (r0 r1 w0 w1 w2 k0 k1 : ℕ) (s : Status) → w0 ≤ w1 → CausedByWrites w1 w2 s → Caused r0 r1 w0 w2 k0 k1 s
caused_greeting r0 r1 w0 w1 w2 k0 k1 s a c = record {
  read_fault = λ e. absurd (c.read_fault e);
  write_fault = λ e. rose_before w0 w1 w2 a (c.write_fault e);
  keep_fault = λ e. absurd (c.keep_fault e);
}

-- it ends behind its first line
pub caused_opened : (r0 r1 r2 w0 w1 w2 w3 k0 k1 k2 : ℕ) (s : Status) → r0 ≤ r1 → w0 ≤ w1 → k0 ≤ k1 → w1 ≤ w2 → Caused r1 r2 w2 w3 k1 k2 s → Caused r0 r2 w0 w3 k0 k2 s
caused_opened r0 r1 r2 w0 w1 w2 w3 k0 k1 k2 s r w k v c = record {
  read_fault = λ e. rose_before r0 r1 r2 r (c.read_fault e);
  write_fault = λ e. rose_before w0 w2 w3 (omega (arith, w, v)) (c.write_fault e);
  keep_fault = λ e. rose_before k0 k1 k2 k (c.keep_fault e);
}
