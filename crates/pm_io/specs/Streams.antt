-- What a source over a reader and a sink over a writer stand on, and the errors that each has answered.
use Rattle.std.specs.Prelude.{ℕ}
use Rattle.pm_io.specs.declared.standard.ReaderSource.{ReaderSource}
use Rattle.pm_io.specs.declared.standard.WriterSink.{WriterSink}

-- the reader of a source
abbrev pub reader_of : {R : Type 0} → ReaderSource R → R
reader_of source = source.reader

-- the errors that a source has answered
abbrev pub read_errors : {R : Type 0} → ReaderSource R → ℕ
read_errors source = source.errors

-- the writer of a sink
abbrev pub writer_of : {W : Type 0} → WriterSink W → W
writer_of sink = sink.writer

-- the errors that a sink has answered
abbrev pub write_errors : {W : Type 0} → WriterSink W → ℕ
write_errors sink = sink.errors
