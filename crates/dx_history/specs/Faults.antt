-- What a fault of the keeper, or of reading bytes, is for a row that is asked for.
use Rattle.dx_io.specs.declared.keeper.KeepError.{KeepError}
use Rattle.dx_io.specs.declared.keeper.KeepError.TheVariants as keep
use Rattle.dx_codec.specs.declared.fault.CodecFault.{CodecFault}
use Rattle.dx_codec.specs.declared.fault.CodecFault.TheVariants as codec
use Rattle.dx_history.specs.declared.fault.HistoryFault.{HistoryFault}
use Rattle.dx_history.specs.declared.fault.HistoryFault.TheVariants.{Failed, Bad, NoMemory}

-- a failed call stays one
abbrev pub of_keeper : KeepError → HistoryFault
of_keeper keep.Failed = Failed
of_keeper keep.NoMemory = NoMemory

-- bytes that are no block's are bad
abbrev pub of_codec : CodecFault → HistoryFault
of_codec codec.Malformed = Bad
of_codec codec.NoMemory = NoMemory
