use Rattle.std.proofs.Common.{refl, arith}
use Rattle.dcr_answer.proofs.ReadingLemmas.{message_read, none_read}
use Rattle.dcr_answer.proofs.next.message_in.Goals as goal

pub returns-in-Some : goal.returns-in-Some
returns-in-Some c =
    message_read c.args.first.now c.args.last.now c.joined-bytes.result c.in-Some.message c.joined-bytes.ensures (omega arith) c.requires.kind c.in-Some.ensures

pub returns-in-None : goal.returns-in-None
returns-in-None c = (
  refl,
  none_read c.args.first.now c.args.last.now c.joined-bytes.result c.joined-bytes.ensures (omega arith) (omega arith) c.requires.kind c.in-None.ensures,
)
