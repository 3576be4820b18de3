-- Bytes spell messages: each message has fourteen, and no two have the same; so too with questions and answers beside them.
use Rattle.std.specs.Prelude.{◌≡◌, ℕ, ◌==◌, ◌||◌, List, length, slice_index, Option, Some, None, if◌then◌else◌}
use Rattle.dcr_wire.specs.Form.{Spell}
use Rattle.dcr_wire.specs.QuestionForm.{SpellQuestion}
use Rattle.dcr_wire.specs.AnswerForm.{SpellAnswer}
use Rattle.dcr_wire.specs.declared.answer.Answer.{Answer}
use Rattle.dcr_wire.specs.declared.message.Message.{Message}
use Rattle.dcr_wire.specs.declared.question.Question.{Question}

abbrev pub HaveFourteen : Type 0
HaveFourteen = (bytes : List ℕ) (message : Message) → Spell bytes message → length bytes ≡ 14

abbrev pub SpellOneMessage : Type 0
SpellOneMessage = (bytes : List ℕ) (one other : Message) → Spell bytes one → Spell bytes other → one ≡ other

-- ---- all five kinds

-- what one node sends another
pub data Sent : Type 0 where
  sent_message : Message → Sent
  sent_question : Question → Sent
  sent_answer : Answer → Sent

abbrev pub SpellSent : List ℕ → Sent → Type 0
SpellSent bytes (sent_message message) = Spell bytes message
SpellSent bytes (sent_question question) = SpellQuestion bytes question
SpellSent bytes (sent_answer answer) = SpellAnswer bytes answer

-- how many bytes there are by the first of them, the kind
abbrev pub length_told : ℕ → Option ℕ
length_told kind = if (kind == 1) || ((kind == 2) || (kind == 3)) then Some 14 else if kind == 4 then Some 12 else if kind == 5 then Some 400 else None

abbrev pub LengthIsTold : Type 0
LengthIsTold = (bytes : List ℕ) (sent : Sent) → SpellSent bytes sent → length_told (slice_index bytes 0) ≡ Some (length bytes)

abbrev pub SpellOneSent : Type 0
SpellOneSent = (bytes : List ℕ) (one other : Sent) → SpellSent bytes one → SpellSent bytes other → one ≡ other
