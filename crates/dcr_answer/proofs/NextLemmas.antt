-- What came of reading what is next, piece by piece.
use Rattle.std.proofs.Common.{ℕ, ◌≤◌, List, ◌++◌, length, Result, Ok, Err, sym, subst, ◌∙◌}
use Rattle.std.proofs.KnownBytes.{Consumes-trans}
use Rattle.dcr_base.specs.Side.{Side}
use Rattle.dcr_base.proofs.CountLemmas.{fails_since}
use Rattle.dcr_talk.specs.Hearing.{Read, ReadAndFailed}
use Rattle.dcr_answer.specs.Reading.{IsReadIn, ReadsMore, ReadsNext, StopsBehind}
use Rattle.dcr_answer.specs.declared.end.AnswerEnd.{AnswerEnd}
use Rattle.dcr_answer.specs.declared.end.AnswerEnd.TheVariants.{Ended, Torn, NotOurs, LinkFault, Full}
use Rattle.dcr_answer.specs.declared.next.Next.{Next}

-- the rest was read, and is of something or of nothing
pub more_of : (first last : List ℕ) (has_ended : Type 0) (before after : Side) → length (first ++ last) ≤ 14 → Read last before after
    → (result : Result Next AnswerEnd) → IsReadIn (first ++ last) result → ReadsMore first has_ended before after result
more_of first last has_ended before after short read (Ok next) spelled = (last, spelled, read)
more_of first last has_ended before after short read (Err end) stops =
    (last, subst (λ e. StopsBehind has_ended e (first ++ last) last before after) (sym stops.0) (stops.1, short, read))

-- all of it was read, and is of something or of nothing
pub next_in : (bytes : List ℕ) (has_ended : Type 0) (before after : Side) → length bytes ≤ 14 → Read bytes before after
    → (result : Result Next AnswerEnd) → IsReadIn bytes result → ReadsNext has_ended before after result
next_in bytes has_ended before after short read (Ok next) spelled = (bytes, spelled, read)
next_in bytes has_ended before after short read (Err end) stops =
    (bytes, subst (λ e. StopsBehind has_ended e bytes bytes before after) (sym stops.0) (stops.1, short, read))

-- a piece was read, and then another
both_read : (bytes more : List ℕ) (before mid after : Side) → Read bytes before mid → Read more mid after → Read (bytes ++ more) before after
both_read bytes more before mid after first second = record {
  read = Consumes-trans before.bytes mid.bytes after.bytes bytes more first.read second.read;
  no_fault = second.no_fault ∙ first.no_fault;
}

then_failed : (bytes more : List ℕ) (before mid after : Side) → Read bytes before mid → ReadAndFailed more mid after → ReadAndFailed (bytes ++ more) before after
then_failed bytes more before mid after first second = record {
  read = Consumes-trans before.bytes mid.bytes after.bytes bytes more first.read second.read;
  fault = fails_since before.faults mid.faults after.faults first.no_fault second.fault;
}

-- why it has stopped behind both
stops_of : (first last : List ℕ) (has_ended : Type 0) (before mid after : Side) → Read first before mid → (end : AnswerEnd)
    → StopsBehind has_ended end (first ++ last) last mid after → StopsBehind has_ended end (first ++ last) (first ++ last) before after
stops_of first last has_ended before mid after read Ended stops = (stops.0, stops.1, both_read first last before mid after read stops.2)
stops_of first last has_ended before mid after read Torn stops = (stops.0, stops.1, stops.2, both_read first last before mid after read stops.3)
stops_of first last has_ended before mid after read NotOurs stops = (stops.0, stops.1, both_read first last before mid after read stops.2)
stops_of first last has_ended before mid after read LinkFault stops = (stops.0, then_failed first last before mid after read stops.1)
stops_of first last has_ended before mid after read Full stops = absurd stops

pub next_of : (first : List ℕ) (has_ended : Type 0) (before mid after : Side) → Read first before mid → (result : Result Next AnswerEnd)
    → ReadsMore first has_ended mid after result → ReadsNext has_ended before after result
next_of first has_ended before mid after read (Ok next) more = (first ++ more.0, more.1, both_read first more.0 before mid after read more.2)
next_of first has_ended before mid after read (Err end) more =
    (first ++ more.0, stops_of first more.0 has_ended before mid after read end more.1)
