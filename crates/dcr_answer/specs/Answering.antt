-- How a site talks over a link: what it was asked, what it answered to that, and why the talk has ended.
use Rattle.std.specs.Prelude.{◌≡◌, ◌⊎◌, ℕ, ◌-◌, ◌^◌, ◌<◌, ◌≤◌, List, [], length, Option, Some, None}
use Rattle.std.specs.List.{All}
use Rattle.std.specs.Io.KnownBytes.{Consumes}
use Rattle.dcr_base.specs.Count.{Fails}
use Rattle.dcr_base.specs.Side.{Side, Adds}
use Rattle.dcr_set.specs.EventSet.{Set}
use Rattle.dcr_graph.specs.Rules.{Rules}
use Rattle.dcr_wire.specs.Laws.{Sent, SpellSent}
use Rattle.dcr_node.specs.SiteState.{SiteState}
use Rattle.dcr_talk.specs.Frames.{SpellAll, HasNoFrame, Frames}
use Rattle.dcr_talk.specs.Hearing.{Read}
use Rattle.dcr_talk.specs.Talk.{told_by}
use Rattle.dcr_answer.specs.Reading.{IsAsk, BeginsNone, StopsBehind, MayBeAsked}
use Rattle.dcr_answer.specs.Telling.{StopsSending, Tells}
use Rattle.dcr_answer.specs.declared.end.AnswerEnd.{AnswerEnd}
use Rattle.dcr_answer.specs.declared.end.AnswerEnd.TheVariants.{Ended, Torn, NotOurs, LinkFault, Full}

-- ---- one

-- one by which a site is asked was read, and its machine was handed it
pub record AnswersOne (G : Rules) (S : Set) (before after : SiteState) (gave left had took : Side) (result : Option AnswerEnd) : Type 0 where
  pub one : Sent
  pub bytes : List ℕ
  pub spelled : SpellSent bytes one
  pub ask : IsAsk one
  pub read : Read bytes gave left
  pub told : Tells G S before after one had took result

-- none was read, and nothing was written
pub record StopsReading (has_ended : Type 0) (end : AnswerEnd) (gave left had took : Side) : Type 0 where
  pub bytes : List ℕ
  pub stops : StopsBehind has_ended end bytes bytes gave left
  pub silent : took ≡ had

abbrev pub AnswersNext : Rules → Set → SiteState → SiteState → Type 0 → Side → Side → Side → Side → Option AnswerEnd → Type 0
AnswersNext G S before after has_ended gave left had took None = AnswersOne G S before after gave left had took None
AnswersNext G S before after has_ended gave left had took (Some end) =
    AnswersOne G S before after gave left had took (Some end) ⊎ StopsReading has_ended end gave left had took

-- ---- all

-- Why a talk has ended behind these, with these bytes read behind them, where this was due for them: all of it was written, but
-- where a write failed.
abbrev pub EndsBy : SiteState → Type 0 → AnswerEnd → List Sent → List ℕ → List ℕ → Side → Side → Side → Side → Type 0
EndsBy node has_ended Ended asked behind due gave left had took =
    (behind ≡ []) × has_ended × (left.faults ≡ gave.faults) × Adds due had took
EndsBy node has_ended Torn asked behind due gave left had took =
    (0 < length behind) × HasNoFrame behind × has_ended × (left.faults ≡ gave.faults) × Adds due had took
EndsBy node has_ended NotOurs asked behind due gave left had took =
    BeginsNone node behind × (length behind ≤ 14) × (left.faults ≡ gave.faults) × Adds due had took
EndsBy node has_ended LinkFault asked behind due gave left had took =
    (HasNoFrame behind × Fails gave.faults left.faults × Adds due had took)
    ⊎ ((behind ≡ []) × (left.faults ≡ gave.faults) × StopsSending due had took)
EndsBy node has_ended Full asked behind due gave left had took =
    (behind ≡ []) × (length asked ≡ 2 ^ 64 - 1) × (left.faults ≡ gave.faults) × Adds due had took

-- What was read is the bytes of these, by each of which the site may be asked, and then what ended the talk; what was written
-- is what its machine answers to just these, in order, and nothing more: all of it, or a front where a write failed.
pub record Talks (G : Rules) (S : Set) (node : SiteState) (has_ended : Type 0) (gave left had took : Side) (end : AnswerEnd) : Type 0 where
  pub got : List ℕ
  pub read : Consumes gave.bytes left.bytes got
  pub asked : List Sent
  pub behind : List ℕ
  pub frames : Frames got asked behind
  pub ours : All (MayBeAsked node) asked
  pub due : List ℕ
  pub answers : SpellAll due (told_by G S node asked)
  pub ends : EndsBy node has_ended end asked behind due gave left had took
