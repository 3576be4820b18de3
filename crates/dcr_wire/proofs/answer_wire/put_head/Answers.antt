use Rattle.std.proofs.Common.{arith}
use Rattle.dcr_wire.proofs.SetFormLemmas.{front_is}
use Rattle.dcr_wire.proofs.answer_wire.put_head.Goals as goal

pub returns-clause-head : goal.returns-clause-head
returns-clause-head c = front_is c.loop-place.bytes c.args.head.now c.loop-place.invariant.len (omega arith) (λ j below. c.loop-place.invariant.done j (omega arith))
