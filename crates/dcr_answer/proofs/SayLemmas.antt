-- What comes over the link of a site that talks is what its machine could say.
use Rattle.std.proofs.Common.{◌≡◌, ℕ, List, [], ◌++◌, take, drop, Option, Some, inl, inr, sym, ap, subst, ◌∙◌, append_assoc, append-nil, take-append-drop}
use Rattle.std.specs.Io.KnownBytes.{Appends, Consumes}
use Rattle.std.proofs.lemmas.List.{append_cancel_left, append_cancel_right}
use Rattle.dcr_base.specs.Side.{Side, Adds}
use Rattle.dcr_set.specs.EventSet.{Set}
use Rattle.dcr_graph.specs.Rows.{row}
use Rattle.dcr_graph.specs.Rules.{Rules}
use Rattle.dcr_graph.specs.declared.marking.Marking.{Marking}
use Rattle.dcr_wire.specs.Laws.{Sent}
use Rattle.dcr_node.specs.SiteState.{SiteState}
use Rattle.dcr_node.specs.WorldState.{site_at}
use Rattle.dcr_talk.specs.Talk.{CouldSay}
use Rattle.dcr_answer.specs.Telling.{StopsSending}
use Rattle.dcr_answer.specs.Answering.{EndsBy, Talks}
use Rattle.dcr_answer.specs.Laws.{Lost, Gained}
use Rattle.dcr_answer.specs.declared.end.AnswerEnd.{AnswerEnd}
use Rattle.dcr_answer.specs.declared.end.AnswerEnd.TheVariants.{Ended, Torn, NotOurs, LinkFault, Full}

-- what was consumed is what was lost
got_is : (gave left : Side) (got bytes : List ℕ) → Lost gave left got → Consumes gave.bytes left.bytes bytes → got ≡ bytes
got_is gave left got bytes lost consumed =
    append_cancel_right got bytes lost.rest
    (subst (λ (o : Option (List ℕ)). Consumes (Some (got ++ lost.rest)) o bytes) lost.has
    (subst (λ (o : Option (List ℕ)). Consumes o left.bytes bytes) lost.had consumed))

-- and what was appended is what was gained
written_is : (had took : Side) (written bytes : List ℕ) → Gained had took written → Appends had.bytes took.bytes bytes → written ≡ bytes
written_is had took written bytes gained appended =
    append_cancel_left gained.old written bytes
    (subst (λ (o : Option (List ℕ)). Appends (Some gained.old) o bytes) gained.has
    (subst (λ (o : Option (List ℕ)). Appends o took.bytes bytes) gained.had appended))

-- what was written is a beginning of what is due
all_of : (had took : Side) (written due : List ℕ) → Gained had took written → Adds due had took → (rest : List ℕ) × (due ≡ written ++ rest)
all_of had took written due gained adds = ([], sym (written_is had took written due gained adds.0) ∙ sym (append-nil written))

front_of : (had took : Side) (written due : List ℕ) → Gained had took written → StopsSending due had took → (rest : List ℕ) × (due ≡ written ++ rest)
front_of had took written due gained stops =
    let n = stops.front.count in (
      drop n due,
      sym (take-append-drop n due) ∙ ap (λ w. w ++ drop n due) (sym (written_is had took written (take n due) gained stops.front.wrote)),
    )

begins : (node : SiteState) (has_ended : Type 0) (end : AnswerEnd) (asked : List Sent) (behind due written : List ℕ) (gave left had took : Side) → Gained had took written
    → EndsBy node has_ended end asked behind due gave left had took → (rest : List ℕ) × (due ≡ written ++ rest)
begins node has_ended Ended asked behind due written gave left had took gained ends = all_of had took written due gained ends.3
begins node has_ended Torn asked behind due written gave left had took gained ends = all_of had took written due gained ends.4
begins node has_ended NotOurs asked behind due written gave left had took gained ends = all_of had took written due gained ends.3
begins node has_ended LinkFault asked behind due written gave left had took gained (inl ends) = all_of had took written due gained ends.2
begins node has_ended LinkFault asked behind due written gave left had took gained (inr ends) = front_of had took written due gained ends.2
begins node has_ended Full asked behind due written gave left had took gained ends = all_of had took written due gained ends.3

pub could_say : (G : Rules) (C : List Set) (M : Marking) (i : ℕ) (has_ended : Type 0) (gave left had took : Side) (end : AnswerEnd) (got unread written given unheard : List ℕ)
    → Talks G (row C i) (site_at G C M i) has_ended gave left had took end → Lost gave left got → Gained had took written → written ≡ given ++ unheard
    → CouldSay G C M i given (got ++ unread)
could_say G C M i has_ended gave left had took end got unread written given unheard talks lost gained given_begins =
    let whole = talks.frames.whole in
    let more = begins (site_at G C M i) has_ended end talks.asked talks.behind talks.due written gave left had took gained talks.ends in
    record {
      asked = talks.asked;
      heard = whole;
      unheard = talks.behind ++ unread;
      took =
          ap (λ g. g ++ unread) (got_is gave left got talks.got lost talks.read ∙ talks.frames.same)
          ∙ append_assoc whole talks.behind unread;
      frames = talks.frames.spelled;
      said = talks.due;
      unsaid = unheard ++ more.0;
      answers = talks.answers;
      gave = more.1 ∙ ap (λ w. w ++ more.0) given_begins ∙ append_assoc given unheard more.0;
    }
