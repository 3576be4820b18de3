-- The twelve bytes of a question.
use Rattle.std.specs.Prelude.{◌≡◌, ℕ, ◌<◌, ◌^◌, List, ◌∷◌, ◌++◌, Option, Some, None}
use Rattle.std.specs.Int.{w16, w32, to_be_bytes}
use Rattle.dcr_wire.specs.declared.question.Asked.{Asked}
use Rattle.dcr_wire.specs.declared.question.Asked.TheVariants.{Marks, Can, Waits}
use Rattle.dcr_wire.specs.declared.question.Question.{Question}
use Rattle.dcr_wire.specs.declared.question_wire.QuestionFields.{QuestionFields}

-- the number of what is asked
abbrev pub asked_number : Asked → ℕ
asked_number Marks = 0
asked_number Can = 1
asked_number Waits = 2

-- the fields of a question
abbrev pub fields_of_question : Question → QuestionFields
fields_of_question q = record { kind = 4; site = q.site; number = q.number; asked = asked_number q.asked; count = q.count }

-- the fields one behind the other, each with its higher bytes first
abbrev pub question_bytes : QuestionFields → List ℕ
question_bytes f = f.kind ∷ to_be_bytes w16 f.site ++ (to_be_bytes w32 f.number ++ (f.asked ∷ to_be_bytes w32 f.count))

-- each field has its width: one byte, two, four, one and four
pub record HaveQuestionWidths (f : QuestionFields) : Type 0 where
  pub kind : f.kind < 2 ^ 8
  pub site : f.site < 2 ^ 16
  pub number : f.number < 2 ^ 32
  pub asked : f.asked < 2 ^ 8
  pub count : f.count < 2 ^ 32

-- the bytes are those of the question, whose fields have their widths
pub record SpellQuestion (bytes : List ℕ) (question : Question) : Type 0 where
  pub fits : HaveQuestionWidths (fields_of_question question)
  pub same : bytes ≡ question_bytes (fields_of_question question)

-- the bytes are those of the question that was read, or of none
abbrev pub IsQuestionReading : List ℕ → Option Question → Type 0
IsQuestionReading bytes (Some question) = SpellQuestion bytes question
IsQuestionReading bytes None = (question : Question) → SpellQuestion bytes question → ⊥
