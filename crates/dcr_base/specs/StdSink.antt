-- What a `StdSink` is made of.
use Rattle.std.specs.Prelude.{ℕ}
use Rattle.dcr_base.specs.declared.std_sink.StdSink.{StdSink}

abbrev pub writer_of : {W : Type 0} → StdSink W → W
writer_of sink = sink.writer

-- how many writes have failed, or 2^64 - 1 where there were more
abbrev pub failed_writes : {W : Type 0} → StdSink W → ℕ
failed_writes sink = sink.faults
