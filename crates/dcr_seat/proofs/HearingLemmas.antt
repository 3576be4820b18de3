-- What was read that is no vote of the site.
use Rattle.std.proofs.Common.{◌≡◌, ℕ, List, Some, None, inl, inr, subst, sym, ap}
use Rattle.std.proofs.lemmas.Option.{none-some}
use Rattle.dcr_base.specs.Side.{Side}
use Rattle.dcr_wire.specs.Form.{IsReading}
use Rattle.dcr_wire.specs.declared.message.Message.{Message}
use Rattle.dcr_wire.proofs.WireLemmas.{spell_one}
use Rattle.dcr_wire.specs.AnswerForm.{SpellAnswer, IsAnswerReading}
use Rattle.dcr_wire.specs.Laws.{Sent, sent_message, sent_question, sent_answer}
use Rattle.dcr_wire.specs.declared.answer.Answer.{Answer}
use Rattle.dcr_wire.specs.declared.question.Question.{Question}
use Rattle.dcr_wire.proofs.AnswerLemmas.{spell_one_sent}
use Rattle.dcr_node.specs.JournalState.{JournalState}
use Rattle.dcr_talk.specs.Hearing.{Hears}
use Rattle.dcr_seat.specs.Asking.{IsAnswerTo, IsReadingTo, IsVote, IsVoteReading}

-- a message that is no vote of the site was read
pub hears_no_vote : (width : ℕ) (ended : Type 0) (before after : Side) (j : JournalState) (i : ℕ) (message : Message) → (IsVote j i message → ⊥)
    → Hears width ended before after IsReading (Some message) → Hears width ended before after (IsVoteReading j i) None
hears_no_vote width ended before after j i message none (inl read) =
    inl (read.0, read.1, read.2, λ other spelled vote. none (subst (IsVote j i) (spell_one read.0 other message spelled read.3) vote))
hears_no_vote width ended before after j i message none (inr short) = absurd (none-some message (sym short.1))

abbrev answer_in : Answer → Sent → Answer
answer_in other (sent_message message) = other
answer_in other (sent_question question) = other
answer_in other (sent_answer answer) = answer

-- bytes are those of one answer
spell_one_answer : (bytes : List ℕ) (one other : Answer) → SpellAnswer bytes one → SpellAnswer bytes other → one ≡ other
spell_one_answer bytes one other first second = ap (answer_in one) (spell_one_sent bytes (sent_answer one) (sent_answer other) first second)

-- an answer to no such question was read
pub hears_no_answer : (width : ℕ) (ended : Type 0) (before after : Side) (j : JournalState) (question : Question) (answer : Answer) → (IsAnswerTo j question answer → ⊥)
    → Hears width ended before after IsAnswerReading (Some answer) → Hears width ended before after (IsReadingTo j question) None
hears_no_answer width ended before after j question answer none (inl read) =
    inl (read.0, read.1, read.2, λ other spelled is. none (subst (IsAnswerTo j question) (spell_one_answer read.0 other answer spelled read.3) is))
hears_no_answer width ended before after j question answer none (inr short) = absurd (none-some answer (sym short.1))
