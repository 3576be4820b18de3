-- How a link was answered from its beginning: how it was greeted, what it was asked then, what was written to that, and why it has
-- ended.
use Rattle.std.specs.Prelude.{◌≡◌, ◌⊎◌, ℕ, ◌<◌, List, [], ◌++◌, length, Option, Result, Ok, Err}
use Rattle.std.specs.List.{All}
use Rattle.std.specs.Io.KnownBytes.{Consumes}
use Rattle.dcr_base.specs.Count.{Fails}
use Rattle.dcr_base.specs.Side.{Side}
use Rattle.dcr_set.specs.EventSet.{Set}
use Rattle.dcr_graph.specs.Rules.{Rules}
use Rattle.dcr_greet.specs.Greeting.{hello_text, hello_to, SpellChallenge}
use Rattle.dcr_greet.specs.declared.challenge.Challenge.{Challenge}
use Rattle.dcr_wire.specs.Laws.{Sent}
use Rattle.dcr_node.specs.SiteState.{SiteState}
use Rattle.dcr_talk.specs.Frames.{SpellAll, Frames}
use Rattle.dcr_talk.specs.Hearing.{Read}
use Rattle.dcr_talk.specs.Talk.{told_by}
use Rattle.dcr_answer.specs.Reading.{MayBeAsked}
use Rattle.dcr_answer.specs.Answering.{EndsBy}
use Rattle.dcr_answer.specs.declared.end.AnswerEnd.{AnswerEnd}
use Rattle.dcr_answer.specs.declared.end.AnswerEnd.TheVariants.{Ended, Torn, NotOurs, LinkFault, Full}

-- why no challenge came, where just these bytes did
abbrev pub IsUnchallenged : Type 0 → AnswerEnd → List ℕ → Side → Side → Type 0
IsUnchallenged has_ended Ended got gave left = (got ≡ []) × has_ended × (left.faults ≡ gave.faults)
IsUnchallenged has_ended Torn got gave left = (0 < length got) × (length got < 44) × has_ended × (left.faults ≡ gave.faults)
IsUnchallenged has_ended NotOurs got gave left =
    (length got ≡ 44) × ((challenge : Challenge) → SpellChallenge got challenge → ⊥) × (left.faults ≡ gave.faults)
IsUnchallenged has_ended LinkFault got gave left = (length got < 44) × Fails gave.faults left.faults
IsUnchallenged has_ended Full got gave left = ⊥

-- a challenge was read, or it is told why there is none
abbrev pub ReadsChallenge : Type 0 → Side → Side → Result Challenge AnswerEnd → Type 0
ReadsChallenge has_ended gave left (Ok challenge) = (got : List ℕ) × SpellChallenge got challenge × Read got gave left
ReadsChallenge has_ended gave left (Err end) = (got : List ℕ) × Consumes gave.bytes left.bytes got × IsUnchallenged has_ended end got gave left

-- What was read is the bytes of a challenge, then those of what the site may be asked by, and then what ended it; what was written
-- is the hello to this challenge, and then what the machine answers to just these, in order, and nothing more: all of it, or a
-- front where a write failed.
pub record Greeted (G : Rules) (S : Set) (node : SiteState) (site : ℕ) (digest : List ℕ) (key : Option (List ℕ)) (has_ended : Type 0) (gave left had took : Side) (end : AnswerEnd) : Type 0 where
  pub challenge : Challenge
  pub first : List ℕ
  pub spelled : SpellChallenge first challenge
  pub got : List ℕ
  pub read : Consumes gave.bytes left.bytes (first ++ got)
  pub asked : List Sent
  pub behind : List ℕ
  pub frames : Frames got asked behind
  pub ours : All (MayBeAsked node) asked
  pub said : List ℕ
  pub answers : SpellAll said (told_by G S node asked)
  pub ends : EndsBy node has_ended end asked behind (hello_text (hello_to challenge site digest key) ++ said) gave left had took

-- no challenge came, and nothing was written
pub record Ungreeted (has_ended : Type 0) (gave left had took : Side) (end : AnswerEnd) : Type 0 where
  pub got : List ℕ
  pub read : Consumes gave.bytes left.bytes got
  pub why : IsUnchallenged has_ended end got gave left
  pub silent : took ≡ had

-- How the site that owns S has answered a link from its beginning, as the site of this number in the case with this digest, by
-- its key where it has one, and why that has ended.
abbrev pub AnswersBy : Rules → Set → SiteState → ℕ → List ℕ → Option (List ℕ) → Type 0 → Side → Side → Side → Side → AnswerEnd → Type 0
AnswersBy G S node site digest key has_ended gave left had took end =
    Greeted G S node site digest key has_ended gave left had took end ⊎ Ungreeted has_ended gave left had took end
