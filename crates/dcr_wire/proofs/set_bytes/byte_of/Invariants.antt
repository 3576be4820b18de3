use Rattle.std.proofs.Common.{◌*◌}
use Rattle.dcr_wire.proofs.SetFormLemmas.{HasBits}
use Rattle.dcr_wire.proofs.set_bytes.byte_of.Given as goal

abbrev pub invariant-loop-i : goal.invariant-loop-i
invariant-loop-i l = HasBits l.byte (8 * l.number) l.i l.events
