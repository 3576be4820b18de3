-- The sink has taken the first `written` bytes.
use Rattle.std.proofs.Common.{◌≡◌, length, ◌-◌, ◌≤◌, take}
use Rattle.std.specs.Io.KnownBytes.{Appends}
use Rattle.dcr_base.proofs.writing.write_all.Given as goal

abbrev pub invariant-loop-written : goal.invariant-loop-written
invariant-loop-written g l = record {
  within : l.written ≤ length l.bytes;
  taken : Appends (g.O.Sink.takes l.initial.sink).bytes (g.O.Sink.takes l.sink).bytes (take l.written l.bytes);
  no_fault : (g.O.Sink.takes l.sink).faults ≡ (g.O.Sink.takes l.initial.sink).faults;
  apart : g.O.Sink.source_side l.sink ≡ g.O.Sink.source_side l.initial.sink;
}

abbrev pub decreases-loop-written : goal.decreases-loop-written
decreases-loop-written g l = length l.bytes - l.written
