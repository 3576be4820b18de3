use Rattle.std.proofs.Common.{◌≡◌, length}
use Rattle.dcr_wire.proofs.SetFormLemmas.{HasRead}
use Rattle.dcr_wire.proofs.set_bytes.read_set.Given as goal

abbrev pub invariant-loop-number : goal.invariant-loop-number
invariant-loop-number l = record { room : length l.events ≡ l.room; read : HasRead l.bytes l.place l.number l.events }
