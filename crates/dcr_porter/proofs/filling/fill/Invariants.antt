-- What was read so far stands at the front of the buffer.
use Rattle.std.proofs.Common.{◌≡◌, ◌≤◌, ◌-◌, length, take}
use Rattle.std.specs.Io.KnownBytes.{Consumes}
use Rattle.dcr_porter.proofs.filling.fill.Given as goal

abbrev pub invariant-loop-filled : goal.invariant-loop-filled
invariant-loop-filled g l = record {
  within : l.filled ≤ length l.buf;
  read : Consumes (g.S.Source.gives l.initial.source).bytes (g.S.Source.gives l.source).bytes (take l.filled l.buf);
  no_fault : (g.S.Source.gives l.source).faults ≡ (g.S.Source.gives l.initial.source).faults;
  apart : g.S.Source.sink_side l.source ≡ g.S.Source.sink_side l.initial.source;
}

abbrev pub decreases-loop-filled : goal.decreases-loop-filled
decreases-loop-filled g l = length l.buf - l.filled
