use Rattle.std.proofs.Common.{◌≡◌, ◌++◌, take}
use Rattle.dx_streams.specs.Written.{bytes_of}
use Rattle.dx_streams.proofs.hash_sink.note.Given as goal

abbrev pub invariant-loop-byte : goal.invariant-loop-byte
invariant-loop-byte l = bytes_of l.history ≡ bytes_of l.fn.history ++ take l.byte-index l.piece
