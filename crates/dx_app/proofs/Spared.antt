-- A run that ends by no fault leaves the counts of faults as they were.
use Rattle.std.proofs.Common.{◌≡◌, ◌⊎◌, inl, inr, ℕ, List, refl, sym, ap, ◌∙◌, true, false, Option}
use Rattle.dx_types.specs.declared.status.Status.{Status}
use Rattle.dx_types.specs.declared.status.Status.TheVariants as ends
use Rattle.dx_text.specs.declared.lines.ReadError.{ReadError}
use Rattle.dx_text.specs.declared.lines.ReadError.TheVariants as errors
use Rattle.dx_cluster.specs.declared.fault.StartFault.{StartFault}
use Rattle.dx_cluster.specs.declared.fault.StartFault.TheVariants as starts
use Rattle.dx_cluster.specs.Counts.{StartLeaves}
use Rattle.dx_app.specs.Runs.{is_fault, EndsReading, EndsUnserved}
use Rattle.dx_app.specs.Counts.{Spared, StreamsSpared, SparedBehind, SparedByWrites}

-- a status is no fault and a fault
both_ways : true ≡ false → ⊥
both_ways clash = absurd (let both : true ≡ false = clash in cc)

pub no_fault : (s t : Status) → s ≡ t → is_fault t ≡ true → is_fault s ≡ false → ⊥
no_fault s t e fault plain = both_ways (sym fault ∙ ap is_fault (sym e) ∙ plain)

-- a write ends a run by a fault
pub write_failed : (s : Status) → (s ≡ ends.WriteFault) ⊎ (s ≡ ends.NoMemory) → is_fault s ≡ false → ⊥
write_failed s (inl e) plain = no_fault s ends.WriteFault e refl plain
write_failed s (inr e) plain = no_fault s ends.NoMemory e refl plain

-- a read ends a run by a fault
pub reading_failed : (error : ReadError) (s : Status) → EndsReading error s → is_fault s ≡ false → ⊥
reading_failed errors.Failed s e plain = no_fault s ends.ReadFault e refl plain
reading_failed errors.NoMemory s e plain = no_fault s ends.NoMemory e refl plain

pub spared_write : (w0 w1 : ℕ) (s : Status) → SparedByWrites w0 w1 s → is_fault s ≡ false → w1 ≡ w0
spared_write w0 w1 s (inl e) plain = e
spared_write w0 w1 s (inr failed) plain = absurd (write_failed s failed plain)

pub spared_behind : (w0 w1 k0 k1 : ℕ) → k1 ≡ k0 → w1 ≡ w0 → SparedBehind w0 w1 k0 k1
spared_behind w0 w1 k0 k1 k w = record { write_count = w; keep_count = k }

-- the keeper is not called
pub spared_writes : (w0 w1 k : ℕ) (s : Status) → SparedByWrites w0 w1 s → is_fault s ≡ false → SparedBehind w0 w1 k k
spared_writes w0 w1 k s w plain = spared_behind w0 w1 k k refl (spared_write w0 w1 s w plain)

-- nodes are not started, or an event is not answered
pub unserved_spared : (w0 w1 k0 k1 : ℕ) (before now : Option (List ℕ)) (fault : StartFault) (s : Status) → StartLeaves k0 k1 fault → SparedByWrites w0 w1 s → EndsUnserved before now fault s → is_fault s ≡ false → SparedBehind w0 w1 k0 k1
unserved_spared w0 w1 k0 k1 before now (starts.KeptBad node height) s k w e plain = spared_behind w0 w1 k0 k1 k (spared_write w0 w1 s w plain)
unserved_spared w0 w1 k0 k1 before now (starts.KeptOther node theirs ours) s k w e plain = spared_behind w0 w1 k0 k1 k (spared_write w0 w1 s w plain)
unserved_spared w0 w1 k0 k1 before now starts.KeepFault s k w e plain = absurd (no_fault s ends.KeepFault e.0 refl plain)
unserved_spared w0 w1 k0 k1 before now starts.NoMemory s k w e plain = absurd (no_fault s ends.NoMemory e.0 refl plain)

pub spared_streams : (r0 r1 w0 w1 : ℕ) → r1 ≡ r0 → w1 ≡ w0 → StreamsSpared r0 r1 w0 w1
spared_streams r0 r1 w0 w1 r w = record { read_count = r; write_count = w }

-- a line was read before
pub spared_read : (r0 r1 w0 w1 k0 k1 : ℕ) → r1 ≡ r0 → SparedBehind w0 w1 k0 k1 → Spared r0 r1 w0 w1 k0 k1
spared_read r0 r1 w0 w1 k0 k1 r b = record { read_count = r; write_count = b.write_count; keep_count = b.keep_count }

-- the keeper is not called at all
pub spared_kept : (r0 r1 w0 w1 k : ℕ) → StreamsSpared r0 r1 w0 w1 → Spared r0 r1 w0 w1 k k
spared_kept r0 r1 w0 w1 k b = record { read_count = b.read_count; write_count = b.write_count; keep_count = refl }

-- nor is the source
pub spared_unread : (r w0 w1 k : ℕ) (s : Status) → SparedByWrites w0 w1 s → is_fault s ≡ false → Spared r r w0 w1 k k
spared_unread r w0 w1 k s w plain = spared_kept r r w0 w1 k (spared_streams r r w0 w1 refl (spared_write w0 w1 s w plain))

pub spared_first : (r w k : ℕ) → Spared r r w w k k
spared_first r w k = record { read_count = refl; write_count = refl; keep_count = refl }

pub spared_then : (r0 r1 r2 w0 w1 w2 k0 k1 k2 : ℕ) → Spared r0 r1 w0 w1 k0 k1 → Spared r1 r2 w1 w2 k1 k2 → Spared r0 r2 w0 w2 k0 k2
spared_then r0 r1 r2 w0 w1 w2 k0 k1 k2 a b = record {
  read_count = b.read_count ∙ a.read_count;
  write_count = b.write_count ∙ a.write_count;
  keep_count = b.keep_count ∙ a.keep_count;
}

-- the streams alone are called any more
pub spared_at_end : (r0 r1 r2 w0 w1 w2 k0 k1 : ℕ) → Spared r0 r1 w0 w1 k0 k1 → StreamsSpared r1 r2 w1 w2 → Spared r0 r2 w0 w2 k0 k1
spared_at_end r0 r1 r2 w0 w1 w2 k0 k1 a b = spared_then r0 r1 r2 w0 w1 w2 k0 k1 k1 a (spared_kept r1 r2 w1 w2 k1 b)

-- the first line is read, and nodes are not started
pub spared_unopened : (r0 r1 w0 w1 w2 k0 k1 : ℕ) → StreamsSpared r0 r1 w0 w1 → SparedBehind w1 w2 k0 k1 → Spared r0 r1 w0 w2 k0 k1
spared_unopened r0 r1 w0 w1 w2 k0 k1 a b = record { read_count = a.read_count; write_count = b.write_count ∙ a.write_count; keep_count = b.keep_count }

-- the first line is read and answered, and a run goes on behind it
pub spared_opened : (r0 r1 r2 w0 w1 w2 w3 k0 k1 k2 : ℕ) → StreamsSpared r0 r1 w0 w1 → k1 ≡ k0 → w2 ≡ w1 → Spared r1 r2 w2 w3 k1 k2 → Spared r0 r2 w0 w3 k0 k2
spared_opened r0 r1 r2 w0 w1 w2 w3 k0 k1 k2 a k w b = record {
  read_count = b.read_count ∙ a.read_count;
  write_count = b.write_count ∙ w ∙ a.write_count;
  keep_count = b.keep_count ∙ k;
}
