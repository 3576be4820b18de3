-- A link that was greeted and then answered, and one that wasn't greeted.
use Rattle.std.proofs.Common.{◌≡◌, ℕ, List, [], ◌++◌, Option, Some, Ok, inl, inr, refl, sym, subst, ◌∙◌, append-nil}
use Rattle.std.specs.Io.KnownBytes.{Consumes}
use Rattle.std.proofs.KnownBytes.{Consumes-trans}
use Rattle.std.proofs.lemmas.List.Elements.{All-nil}
use Rattle.dcr_base.specs.Side.{Side, Adds}
use Rattle.dcr_base.proofs.CountLemmas.{fails_since}
use Rattle.dcr_set.specs.EventSet.{Set}
use Rattle.dcr_graph.specs.Rules.{Rules}
use Rattle.dcr_greet.specs.Greeting.{hello_text, hello_to}
use Rattle.dcr_greet.specs.declared.challenge.Challenge.{Challenge}
use Rattle.dcr_wire.specs.Laws.{Sent}
use Rattle.dcr_node.specs.SiteState.{SiteState}
use Rattle.dcr_talk.specs.Talk.{told_by}
use Rattle.dcr_answer.specs.Reading.{MayBeAsked}
use Rattle.dcr_answer.specs.Telling.{Sends, StopsSending}
use Rattle.dcr_answer.specs.Answering.{EndsBy, Talks}
use Rattle.dcr_answer.specs.Greeted.{AnswersBy, Greeted, ReadsChallenge}
use Rattle.dcr_answer.specs.declared.end.AnswerEnd.{AnswerEnd}
use Rattle.dcr_answer.specs.declared.end.AnswerEnd.TheVariants.{Ended, Torn, NotOurs, LinkFault, Full}
use Rattle.dcr_answer.proofs.TalkedLemmas.{adds_more, stops_more}

-- a talk behind the hello ends as it does by itself
ends_behind : (node : SiteState) (has_ended : Type 0) (end : AnswerEnd) (asked : List Sent) (behind hello due : List ℕ) (gave mid left had sent took : Side) → mid.faults ≡ gave.faults
    → Adds hello had sent → EndsBy node has_ended end asked behind due mid left sent took → EndsBy node has_ended end asked behind (hello ++ due) gave left had took
ends_behind node has_ended Ended asked behind hello due gave mid left had sent took same wrote ends =
    (ends.0, ends.1, ends.2 ∙ same, adds_more hello due had sent took wrote ends.3)
ends_behind node has_ended Torn asked behind hello due gave mid left had sent took same wrote ends =
    (ends.0, ends.1, ends.2, ends.3 ∙ same, adds_more hello due had sent took wrote ends.4)
ends_behind node has_ended NotOurs asked behind hello due gave mid left had sent took same wrote ends =
    (ends.0, ends.1, ends.2 ∙ same, adds_more hello due had sent took wrote ends.3)
ends_behind node has_ended LinkFault asked behind hello due gave mid left had sent took same wrote (inl ends) =
    inl (ends.0, fails_since gave.faults mid.faults left.faults same ends.1, adds_more hello due had sent took wrote ends.2)
ends_behind node has_ended LinkFault asked behind hello due gave mid left had sent took same wrote (inr ends) =
    inr (ends.0, ends.1 ∙ same, stops_more hello due had sent took wrote ends.2)
ends_behind node has_ended Full asked behind hello due gave mid left had sent took same wrote ends =
    (ends.0, ends.1, ends.2 ∙ same, adds_more hello due had sent took wrote ends.3)

module _ (G : Rules) (S : Set) (node : SiteState) (site : ℕ) (digest : List ℕ) (key : Option (List ℕ)) (challenge : Challenge) where
  -- the hello was sent, and then it talked
  pub greeted : (has_ended : Type 0) (gave mid left had sent took : Side) (end : AnswerEnd) → ReadsChallenge has_ended gave mid (Ok challenge)
      → Adds (hello_text (hello_to challenge site digest key)) had sent → Talks G S node has_ended mid left sent took end
      → Greeted G S node site digest key has_ended gave left had took end
  greeted has_ended gave mid left had sent took end challenged wrote talks =
      let first = challenged.0 in
      record {
        challenge = challenge;
        first = first;
        spelled = challenged.1;
        got = talks.got;
        read = Consumes-trans gave.bytes mid.bytes left.bytes first talks.got challenged.2.read talks.read;
        asked = talks.asked;
        behind = talks.behind;
        frames = talks.frames;
        ours = talks.ours;
        said = talks.due;
        answers = talks.answers;
        ends = ends_behind node has_ended end talks.asked talks.behind (hello_text (hello_to challenge site digest key)) talks.due gave mid left had sent took challenged.2.no_fault wrote talks.ends;
      }

  -- the hello couldn't be sent
  pub unsent : (has_ended : Type 0) (gave left had took : Side) → ReadsChallenge has_ended gave left (Ok challenge)
      → StopsSending (hello_text (hello_to challenge site digest key)) had took → Greeted G S node site digest key has_ended gave left had took LinkFault
  unfolding told_by
  unsent has_ended gave left had took challenged stops =
      let first = challenged.0 in
      record {
        challenge = challenge;
        first = first;
        spelled = challenged.1;
        got = [];
        read = subst (Consumes gave.bytes left.bytes) (sym (append-nil first)) challenged.2.read;
        asked = [];
        behind = [];
        frames = record { whole = []; spelled = refl; same = refl };
        ours = All-nil (MayBeAsked node);
        said = [];
        answers = refl;
        ends = inr (refl, challenged.2.no_fault, subst (λ text. StopsSending text had took) (sym (append-nil (hello_text (hello_to challenge site digest key)))) stops);
      }

  -- the same of a link, whose writes leave what it gives as it was, and whose reads what it took
  pub unsent_link : (has_ended : Type 0) (gave mid left had between took : Side) (text : List ℕ) (end : AnswerEnd) → ReadsChallenge has_ended gave mid (Ok challenge) → left ≡ mid → between ≡ had
      → text ≡ hello_text (hello_to challenge site digest key) → Sends text between took (Some end) → AnswersBy G S node site digest key has_ended gave left had took end
  unsent_link has_ended gave mid left had between took text end challenged reads writes same sent =
      subst (AnswersBy G S node site digest key has_ended gave left had took) (sym sent.0)
      (inl (unsent has_ended gave left had took (subst (λ (s : Side). ReadsChallenge has_ended gave s (Ok challenge)) (sym reads) challenged)
      (subst (λ (s : Side). StopsSending (hello_text (hello_to challenge site digest key)) s took) writes (subst (λ t. StopsSending t between took) same sent.1))))

  pub greeted_link : (has_ended : Type 0) (gave mid sofar left had between sent took : Side) (text : List ℕ) (end : AnswerEnd) → ReadsChallenge has_ended gave mid (Ok challenge) → sofar ≡ mid
      → between ≡ had → text ≡ hello_text (hello_to challenge site digest key) → Adds text between sent → Talks G S node has_ended sofar left sent took end
      → AnswersBy G S node site digest key has_ended gave left had took end
  greeted_link has_ended gave mid sofar left had between sent took text end challenged reads writes same adds talks =
      inl (greeted has_ended gave sofar left had sent took end (subst (λ (s : Side). ReadsChallenge has_ended gave s (Ok challenge)) (sym reads) challenged)
      (subst (λ (s : Side). Adds (hello_text (hello_to challenge site digest key)) s sent) writes (subst (λ t. Adds t between sent) same adds)) talks)
