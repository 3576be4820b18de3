use Rattle.std.proofs.Common.{◌+◌, set, sym, subst, arith}
use Rattle.dcr_wire.proofs.SetFormLemmas.{HasWritten, written_more}
use Rattle.dcr_wire.proofs.set_bytes.put_set.Goals as goal

pub loop-number-preserved : goal.loop-number-preserved
loop-number-preserved c =
    let before = c.args.bytes.now in
    let after = c.loop-number.bytes in
    let place = c.args.place in
    let number = c.loop-number.number in
    let byte = c.byte_of-byte.result in
    let events = c.args.events.now in
    subst (λ m. HasWritten before (set after (place + m) byte) place (number + 1) events) (sym c.from.ensures)
    (written_more before after place number byte events c.loop-number.invariant (omega arith) c.byte_of-byte.ensures)
