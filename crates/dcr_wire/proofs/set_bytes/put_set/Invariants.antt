use Rattle.dcr_wire.proofs.SetFormLemmas.{HasWritten}
use Rattle.dcr_wire.proofs.set_bytes.put_set.Given as goal

abbrev pub invariant-loop-number : goal.invariant-loop-number
invariant-loop-number l = HasWritten l.fn.bytes l.bytes l.place l.number l.events
