-- What a fault of the keeper, or of reading bytes, is for a snapshot that is asked for.
use Rattle.std.specs.Prelude.{◌≡◌, ℕ}
use Rattle.dx_io.specs.declared.keeper.KeepError.{KeepError}
use Rattle.dx_io.specs.declared.keeper.KeepError.TheVariants as keep
use Rattle.dx_codec.specs.declared.fault.CodecFault.{CodecFault}
use Rattle.dx_codec.specs.declared.fault.CodecFault.TheVariants as codec
use Rattle.dx_snapshot.specs.declared.fault.SnapFault.{SnapFault}
use Rattle.dx_snapshot.specs.declared.fault.SnapFault.TheVariants.{Digest, Malformed, OtherHeight, Failed, NoMemory}

-- a failed call stays one
abbrev pub of_keeper : KeepError → SnapFault
of_keeper keep.Failed = Failed
of_keeper keep.NoMemory = NoMemory

-- bytes that are no state's are malformed
abbrev pub of_codec : CodecFault → SnapFault
of_codec codec.Malformed = Malformed
of_codec codec.NoMemory = NoMemory

-- a row that is no snapshot leaves the keeper's count of faults
abbrev pub SnapLeaves : ℕ → ℕ → SnapFault → Type 0
SnapLeaves before now Digest = now ≡ before
SnapLeaves before now Malformed = now ≡ before
SnapLeaves before now (OtherHeight has) = now ≡ before
SnapLeaves before now Failed = Unit {0}
SnapLeaves before now NoMemory = Unit {0}
