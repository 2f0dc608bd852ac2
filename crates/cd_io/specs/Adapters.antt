-- What contracts see of one of std's readers as a source, and of one of std's writers as a sink.
use Rattle.std.specs.Prelude.{ℕ, Bool}
use Rattle.cd_io.specs.declared.adapters.ReadSource.{ReadSource}
use Rattle.cd_io.specs.declared.adapters.WriteSink.{WriteSink}

-- the reader that a source reads
abbrev pub source_reader : {R : Type 0} → ReadSource R → R
source_reader source = source.reader

-- whether the last read of a non-empty buffer answered 0
abbrev pub source_ended : {R : Type 0} → ReadSource R → Bool
source_ended source = source.ended

-- how many reads failed, up to the last u64
abbrev pub source_faults : {R : Type 0} → ReadSource R → ℕ
source_faults source = source.faults

-- the writer that a sink writes
abbrev pub sink_writer : {W : Type 0} → WriteSink W → W
sink_writer sink = sink.writer

-- whether a `finish` answered Ok and no `write` came since
abbrev pub sink_finished : {W : Type 0} → WriteSink W → Bool
sink_finished sink = sink.finished

-- how many calls failed, up to the last u64
abbrev pub sink_faults : {W : Type 0} → WriteSink W → ℕ
sink_faults sink = sink.faults
