-- A write that was interrupted took nothing.
use Rattle.std.proofs.Common.{◌-◌, ◌^◌}
use Rattle.std.specs.Io.KnownBytes.{Keeps}
use Rattle.dcr_base.specs.Asked.{WasInterrupted}
use Rattle.dcr_base.proofs.std_sink.write_uninterrupted.Given as goal

abbrev pub invariant-loop-times : goal.invariant-loop-times
invariant-loop-times g l = record {
  kept : Keeps (g.W.WriteOnce.taken l.initial.writer) (g.W.WriteOnce.taken l.writer);
  interrupted : WasInterrupted g.W.WriteOnce.answered l.times l.initial.writer l.writer;
}

abbrev pub decreases-loop-times : goal.decreases-loop-times
decreases-loop-times g l = 2 ^ 64 - 1 - l.times
