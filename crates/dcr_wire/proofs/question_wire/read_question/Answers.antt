use Rattle.std.proofs.Common.{sym, subst}
use Rattle.dcr_wire.specs.QuestionForm.{fields_of_question, IsQuestionReading}
use Rattle.dcr_wire.proofs.question_wire.read_question.Goals as goal

pub returns-in_err-fields : goal.returns-in_err-fields
returns-in_err-fields c =
    subst (IsQuestionReading c.args.bytes.now) (sym c.from_residual.ensures) (λ q spelled. c.in_err-fields.ensures (fields_of_question q) spelled.same)
