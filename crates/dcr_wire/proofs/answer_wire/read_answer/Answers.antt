use Rattle.std.proofs.Common.{sym, subst}
use Rattle.dcr_wire.specs.AnswerForm.{head_of, IsAnswerReading}
use Rattle.dcr_wire.proofs.AnswerLemmas.{told_read}
use Rattle.dcr_wire.proofs.answer_wire.read_answer.Goals as goal

pub returns-in_err-head : goal.returns-in_err-head
returns-in_err-head c = subst (IsAnswerReading c.args.bytes.now) (sym c.from_residual.ensures) (λ a spelled. c.in_err-head.ensures (head_of a) spelled.head)

pub returns-in_err-told : goal.returns-in_err-told
returns-in_err-told c =
    subst (IsAnswerReading c.args.bytes.now) (sym c.from_residual-in_err-told.ensures) (λ a spelled.
    c.in_err-told.ensures a.told
    (told_read c.args.bytes.now c.in_ok-head.head c.in_ok-first.first c.in_ok-second.second c.in_ok-third.third a c.in_ok-head.ensures.0 c.in_ok-head.ensures.1
    c.in_ok-first.ensures c.in_ok-second.ensures c.in_ok-third.ensures spelled))
