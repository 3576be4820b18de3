-- What came of asking a site over its link, and of reading what it answers.
use Rattle.std.specs.Prelude.{◌≡◌, ◌⊎◌, ℕ, ◌+◌, Bool, true, false, List, [], ◌∷◌, ◌++◌, length, Option, Some, None}
use Rattle.std.specs.Io.KnownBytes.{Appends, Consumes}
use Rattle.dcr_base.specs.Count.{Fails}
use Rattle.dcr_base.specs.Side.{Side, Adds}
use Rattle.dcr_site.specs.declared.site.Decision.{Decision}
use Rattle.dcr_wire.specs.Form.{Spell}
use Rattle.dcr_wire.specs.AnswerForm.{SpellAnswer}
use Rattle.dcr_wire.specs.Laws.{Sent, SpellSent}
use Rattle.dcr_wire.specs.declared.answer.Answer.{Answer}
use Rattle.dcr_wire.specs.declared.message.Message.{Message}
use Rattle.dcr_wire.specs.declared.message.Message.TheVariants.{Vote}
use Rattle.dcr_wire.specs.declared.question.Question.{Question}
use Rattle.dcr_node.specs.JournalState.{JournalState, stream_of, JournalMayHear, JournalMayTake}
use Rattle.dcr_node.specs.Laws.{what_is_told}
use Rattle.dcr_talk.specs.Frames.{SpellAll}
use Rattle.dcr_talk.specs.Hearing.{Hears}
use Rattle.dcr_seat.specs.InStep.{told_of, untold}
use Rattle.dcr_seat.specs.declared.seat.Seat.{Seat}

-- all of these were written
abbrev pub Writes : List Sent → Side → Side → Type 0
Writes all had took = (text : List ℕ) × SpellAll text all × Adds text had took

-- Some bytes were written, and no more is known of them: the link is to be ended.
abbrev pub Breaks : Side → Side → Type 0
Breaks had took = (text : List ℕ) × Appends had.bytes took.bytes text

-- The site was told all that it wasn't told of its stream, and then asked this; or the link has failed.
abbrev pub Asks : JournalState → ℕ → ℕ → ℕ → Sent → Side → Side → Bool → Type 0
Asks j i told told_then one had took true = Writes (untold j i told ++ one ∷ []) had took × (told_then ≡ length (stream_of j i))
Asks j i told told_then one had took false = Breaks had took

-- The site was told of executions of its stream, so many in all by now; or the link has failed.
abbrev pub Tells : JournalState → ℕ → ℕ → ℕ → Side → Side → Bool → Type 0
Tells j i told told_then had took true = (count : ℕ) × Writes (told_of j i told count) had took × (told_then ≡ told + count)
Tells j i told told_then had took false = Breaks had took

-- the message is the site's vote on the execution that is out, and may be handed to the journal
pub record IsVote (j : JournalState) (i : ℕ) (message : Message) : Type 0 where
  pub decision : Decision
  pub is : message ≡ Vote (length j.history.entries) i decision
  pub may : JournalMayTake j message

-- the bytes are those of what was read, which is the site's vote, or of no vote of the site
abbrev pub IsVoteReading : JournalState → ℕ → List ℕ → Option Message → Type 0
IsVoteReading j i bytes (Some message) = Spell bytes message × IsVote j i message
IsVoteReading j i bytes None = (message : Message) → Spell bytes message → IsVote j i message → ⊥

-- the answer is one to this question, and may be handed to the journal
pub record IsAnswerTo (j : JournalState) (question : Question) (answer : Answer) : Type 0 where
  pub number : answer.number ≡ question.number
  pub site : answer.site ≡ question.site
  pub kind : what_is_told answer.told ≡ question.asked
  pub may : JournalMayHear j answer

-- the bytes are those of what was read, which is an answer to this question, or of no answer to it
abbrev pub IsReadingTo : JournalState → Question → List ℕ → Option Answer → Type 0
IsReadingTo j question bytes (Some answer) = SpellAnswer bytes answer × IsAnswerTo j question answer
IsReadingTo j question bytes None = (answer : Answer) → SpellAnswer bytes answer → IsAnswerTo j question answer → ⊥

-- Of a site that was to be told the rest of its stream and asked this nothing was heard: a write failed, and nothing was read; or all
-- was written, and then fewer bytes came than so many, or those of no such answer.
abbrev pub IsUnheard : {A : Type 0} → JournalState → ℕ → ℕ → Sent → Side → Side → Side → Side → ℕ → Type 0 → (List ℕ → Option A → Type 0) → Type 0
IsUnheard j i told one had took gave left width has_ended spells =
    (Fails had.faults took.faults × (left ≡ gave)) ⊎ (Writes (untold j i told ++ one ∷ []) had took × Hears width has_ended gave left spells None)

-- The site was told all of its stream that it wasn't told and asked this, and has answered that; nothing else was said.
pub record Answered {L : Type 0} (gives takes : L → Side) (j : JournalState) (i : ℕ) (question answer : Sent) (before after : Seat L) : Type 0 where
  pub number : after.number ≡ before.number
  pub asked : Writes (untold j i before.told ++ question ∷ []) (takes before.link) (takes after.link)
  pub told : after.told ≡ length (stream_of j i)
  pub bytes : List ℕ
  pub spelled : SpellSent bytes answer
  pub heard : Consumes (gives before.link).bytes (gives after.link).bytes bytes

-- Bytes were read and written, and no more is known of them: the link is to be ended.
pub record Broken {L : Type 0} (gives takes : L → Side) (before after : Seat L) : Type 0 where
  pub number : after.number ≡ before.number
  pub read : List ℕ
  pub written : List ℕ
  pub reads : Consumes (gives before.link).bytes (gives after.link).bytes read
  pub writes : Appends (takes before.link).bytes (takes after.link).bytes written
