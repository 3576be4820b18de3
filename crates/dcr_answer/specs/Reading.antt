-- What a site may be asked, and what came of reading it.
use Rattle.std.specs.Prelude.{◌≡◌, ℕ, ◌<◌, ◌≤◌, List, [], ◌++◌, length, Result, Ok, Err, ⊤}
use Rattle.dcr_base.specs.Side.{Side}
use Rattle.dcr_wire.specs.Laws.{Sent, sent_message, sent_question, sent_answer, SpellSent}
use Rattle.dcr_wire.specs.declared.message.Message.TheVariants.{Ask, Vote, Apply}
use Rattle.dcr_node.specs.SiteState.{SiteState, SiteMayTake}
use Rattle.dcr_talk.specs.Frames.{HasNoFrame}
use Rattle.dcr_talk.specs.Hearing.{Read, ReadAndFailed}
use Rattle.dcr_answer.specs.declared.end.AnswerEnd.{AnswerEnd}
use Rattle.dcr_answer.specs.declared.end.AnswerEnd.TheVariants.{Ended, Torn, NotOurs, LinkFault, Full}
use Rattle.dcr_answer.specs.declared.next.Next.{Next}
use Rattle.dcr_answer.specs.declared.next.Next.TheVariants as next

-- a site is asked by it, or told of an execution
abbrev pub IsAsk : Sent → Type 0
IsAsk (sent_message (Ask number site event count)) = ⊤
IsAsk (sent_message (Vote number site decision)) = ⊥
IsAsk (sent_message (Apply site index event)) = ⊤
IsAsk (sent_question question) = ⊤
IsAsk (sent_answer answer) = ⊥

-- the numbers of it are in the range of the site's
abbrev pub IsInRange : SiteState → Sent → Type 0
IsInRange node (sent_message message) = SiteMayTake node message
IsInRange node (sent_question question) = ⊤
IsInRange node (sent_answer answer) = ⊤

-- the site may be asked by it
pub record MayBeAsked (node : SiteState) (one : Sent) : Type 0 where
  pub ask : IsAsk one
  pub in_range : IsInRange node one

-- no bytes that begin so are those of something by which a site is asked
abbrev pub BeginsNoAsk : List ℕ → Type 0
BeginsNoAsk bytes = (more : List ℕ) (one : Sent) → IsAsk one → SpellSent (bytes ++ more) one → ⊥

-- nor of something by which this site may be asked
abbrev pub BeginsNone : SiteState → List ℕ → Type 0
BeginsNone node bytes = (more : List ℕ) (one : Sent) → MayBeAsked node one → SpellSent (bytes ++ more) one → ⊥

-- what was read as one of the five
abbrev pub sent_of : Next → Sent
sent_of (next.Message message) = sent_message message
sent_of (next.Question question) = sent_question question

-- the bytes are those of what was read, by which a site is asked
pub record SpellNext (bytes : List ℕ) (read : Next) : Type 0 where
  pub spelled : SpellSent bytes (sent_of read)
  pub ask : IsAsk (sent_of read)

-- the bytes are those of this, or begin nothing by which a site is asked
abbrev pub IsReadIn : List ℕ → Result Next AnswerEnd → Type 0
IsReadIn bytes (Ok read) = SpellNext bytes read
IsReadIn bytes (Err end) = (end ≡ NotOurs) × BeginsNoAsk bytes

-- why reading has stopped behind these bytes, of which the last were read since
abbrev pub StopsBehind : Type 0 → AnswerEnd → List ℕ → List ℕ → Side → Side → Type 0
StopsBehind has_ended Ended bytes last before after = (bytes ≡ []) × has_ended × Read last before after
StopsBehind has_ended Torn bytes last before after = (0 < length bytes) × HasNoFrame bytes × has_ended × Read last before after
StopsBehind has_ended NotOurs bytes last before after = BeginsNoAsk bytes × (length bytes ≤ 14) × Read last before after
StopsBehind has_ended LinkFault bytes last before after = HasNoFrame bytes × ReadAndFailed last before after
StopsBehind has_ended Full bytes last before after = ⊥

-- the rest of what begins with these bytes was read, or it is told why there is none
abbrev pub ReadsMore : List ℕ → Type 0 → Side → Side → Result Next AnswerEnd → Type 0
ReadsMore first has_ended before after (Ok read) = (last : List ℕ) × SpellNext (first ++ last) read × Read last before after
ReadsMore first has_ended before after (Err end) = (last : List ℕ) × StopsBehind has_ended end (first ++ last) last before after

-- the next one was read, or it is told why there is none
abbrev pub ReadsNext : Type 0 → Side → Side → Result Next AnswerEnd → Type 0
ReadsNext has_ended before after (Ok read) = (bytes : List ℕ) × SpellNext bytes read × Read bytes before after
ReadsNext has_ended before after (Err end) = (bytes : List ℕ) × StopsBehind has_ended end bytes bytes before after
