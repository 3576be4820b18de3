-- A read that was interrupted took nothing.
use Rattle.std.proofs.Common.{◌-◌, ◌^◌}
use Rattle.std.specs.Io.KnownBytes.{Keeps}
use Rattle.dcr_base.specs.Asked.{WasInterrupted}
use Rattle.dcr_base.proofs.std_source.read_uninterrupted.Given as goal

abbrev pub invariant-loop-times : goal.invariant-loop-times
invariant-loop-times g l = record {
  kept : Keeps (g.R.ReadOnce.left l.initial.reader) (g.R.ReadOnce.left l.reader);
  interrupted : WasInterrupted g.R.ReadOnce.answered l.times l.initial.reader l.reader;
}

abbrev pub decreases-loop-times : goal.decreases-loop-times
decreases-loop-times g l = 2 ^ 64 - 1 - l.times
