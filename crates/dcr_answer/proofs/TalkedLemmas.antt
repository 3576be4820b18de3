-- A talk so far, one more, and its end.
use Rattle.std.proofs.Common.{◌≡◌, ℕ, ◌+◌, ◌-◌, ◌^◌, ◌<◌, true, List, [], ◌∷◌, ◌++◌, length, take, Some, None, inl, inr, refl, sym, ap, subst, ◌∙◌, arith}
use Rattle.std.specs.List.{All}
use Rattle.std.specs.Io.KnownBytes.{Appends, Consumes}
use Rattle.std.proofs.KnownBytes.{Consumes-nil, Consumes-trans, Appends-nil, Appends-trans}
use Rattle.std.proofs.Math.Seq.{take-append-add}
use Rattle.std.proofs.lemmas.List.{append-nil, length-append}
use Rattle.std.proofs.lemmas.List.Elements.{All-nil, All-cons, All-append}
use Rattle.dcr_set.specs.EventSet.{Set, has}
use Rattle.dcr_base.specs.Side.{Side, Adds}
use Rattle.dcr_base.proofs.CountLemmas.{fails_since}
use Rattle.dcr_graph.specs.Rules.{Rules}
use Rattle.dcr_graph.specs.declared.marking.Marking.{Marking}
use Rattle.dcr_proj.specs.Local.{Local}
use Rattle.dcr_site.specs.Seen.{StandsAt}
use Rattle.dcr_wire.specs.Laws.{Sent, sent_message, sent_question, sent_answer, SpellSent}
use Rattle.dcr_wire.specs.declared.message.Message.TheVariants.{Ask, Vote, Apply}
use Rattle.dcr_node.specs.SiteState.{SiteState}
use Rattle.dcr_talk.specs.Frames.{SpellAll}
use Rattle.dcr_talk.specs.Hearing.{Read}
use Rattle.dcr_talk.specs.Talk.{told_to, stepped, after_all, told_by}
use Rattle.dcr_talk.proofs.FrameLemmas.{one_spelled, spell_append}
use Rattle.dcr_talk.proofs.TalkLemmas.{told_push, after_push, stands_stepped}
use Rattle.dcr_answer.specs.Reading.{IsAsk, IsInRange, MayBeAsked}
use Rattle.dcr_answer.specs.Telling.{StopsSending, Handed, Tells}
use Rattle.dcr_answer.specs.Answering.{AnswersOne, StopsReading, AnswersNext, EndsBy, Talks}
use Rattle.dcr_answer.specs.declared.end.AnswerEnd.{AnswerEnd}
use Rattle.dcr_answer.specs.declared.end.AnswerEnd.TheVariants.{Ended, Torn, NotOurs, LinkFault, Full}
use Rattle.dcr_answer.proofs.ReadingLemmas.{out_of_range, not_long}

-- these were asked, all that is answered to them was written, and the site stands where they lead
pub record Talked (G : Rules) (S : Set) (first node : SiteState) (gave left had took : Side) (count : ℕ) : Type 0 where
  pub asked : List Sent
  pub many : length asked ≡ count
  pub got : List ℕ
  pub spelled : SpellAll got asked
  pub ours : All (MayBeAsked first) asked
  pub read : Read got gave left
  pub due : List ℕ
  pub answers : SpellAll due (told_by G S first asked)
  pub wrote : Adds due had took
  pub now : node ≡ after_all G S first asked
  pub id : node.id ≡ first.id
  pub projection : node.site.projection ≡ first.site.projection
  pub at : Marking
  pub stands : StandsAt G S at node.site

pub talked_none : (G : Rules) (S : Set) (M : Marking) (first : SiteState) (gave had : Side) → StandsAt G S M first.site → Talked G S first first gave gave had had 0
unfolding told_by
talked_none G S M first gave had at = record {
  asked = [];
  many = refl;
  got = [];
  spelled = refl;
  ours = All-nil (MayBeAsked first);
  read = record { read = Consumes-nil gave.bytes; no_fault = refl };
  due = [];
  answers = refl;
  wrote = (Appends-nil had.bytes, refl);
  now = refl;
  id = refl;
  projection = refl;
  at = M;
  stands = at;
}

-- the ranges of a site stay
in_range_kept : (before after : SiteState) → before.id ≡ after.id → before.site.projection ≡ after.site.projection → (one : Sent) → IsInRange before one → IsInRange after one
in_range_kept before after id projection (sent_message (Ask number site event count)) within =
    λ here. subst (λ (P : Local). event < length P.own) projection (within (here ∙ sym id))
in_range_kept before after id projection (sent_message (Vote number site decision)) within = tt
in_range_kept before after id projection (sent_message (Apply site index event)) within =
    λ here. subst (λ (P : Local). (has P.alphabet event ≡ true) × (index < 200000)) projection (within (here ∙ sym id))
in_range_kept before after id projection (sent_question q) within = tt
in_range_kept before after id projection (sent_answer a) within = tt

-- two texts, one after the other
pub adds_more : (text more : List ℕ) (had mid took : Side) → Adds text had mid → Adds more mid took → Adds (text ++ more) had took
adds_more text more had mid took first second = (Appends-trans had.bytes mid.bytes took.bytes text more first.0 second.0, second.1 ∙ first.1)

read_more : (bytes more : List ℕ) (gave mid left : Side) → Read bytes gave mid → Read more mid left → Read (bytes ++ more) gave left
read_more bytes more gave mid left first second = record {
  read = Consumes-trans gave.bytes mid.bytes left.bytes bytes more first.read second.read;
  no_fault = second.no_fault ∙ first.no_fault;
}

pub stops_more : (text more : List ℕ) (had mid took : Side) → Adds text had mid → StopsSending more mid took → StopsSending (text ++ more) had took
stops_more text more had mid took first stops = record {
  front = record {
    count = length text + stops.front.count;
    fewer = (let room = length-append text more in let fewer = stops.front.fewer in omega arith);
    wrote = subst (Appends had.bytes took.bytes) (sym (take-append-add text more stops.front.count))
        (Appends-trans had.bytes mid.bytes took.bytes text (take stops.front.count more) first.0 stops.front.wrote);
  };
  fault = fails_since had.faults mid.faults took.faults first.1 stops.fault;
}

module _ (G : Rules) (S : Set) (first node : SiteState) (gave mid had sofar : Side) (count : ℕ) (talked : Talked G S first node gave mid had sofar count) where
  -- what is due when one more was handed to the machine
  due_more : (next : SiteState) (one : Sent) (text : List ℕ) → Handed G S node next one text → SpellAll (talked.due ++ text) (told_by G S first (talked.asked ++ one ∷ []))
  due_more next one text handed =
      subst (SpellAll (talked.due ++ text)) (sym (told_push G S first talked.asked one))
      (spell_append talked.due text (told_by G S first talked.asked) (told_to G S (after_all G S first talked.asked) one) talked.answers
      (subst (λ (n : SiteState). SpellAll text (told_to G S n one)) talked.now handed.answer))

  ours_more : (next : SiteState) (one : Sent) (text : List ℕ) → IsAsk one → Handed G S node next one text → All (MayBeAsked first) (talked.asked ++ one ∷ [])
  ours_more next one text ask handed =
      All-append (MayBeAsked first) talked.asked (one ∷ []) talked.ours
      (All-cons (MayBeAsked first) one []
      (record { ask = ask; in_range = in_range_kept node first talked.id talked.projection one handed.in_range }) (All-nil (MayBeAsked first)))

  pub talked_more : (next : SiteState) (left took : Side) (is : ℕ) → is ≡ count + 1 → next.id ≡ node.id → next.site.projection ≡ node.site.projection
      → AnswersOne G S node next mid left sofar took None → Talked G S first next gave left had took is
  talked_more next left took is one_more id projection answered =
      let one = answered.one in
      let text = answered.told.0 in
      let handed = answered.told.1 in
      let further = stands_stepped G S talked.at node one talked.stands in
      record {
        asked = talked.asked ++ one ∷ [];
        many = (let all = length-append talked.asked (one ∷ []) in let few = talked.many in omega arith);
        got = talked.got ++ answered.bytes;
        spelled = spell_append talked.got answered.bytes talked.asked (one ∷ []) talked.spelled (one_spelled answered.bytes one answered.spelled);
        ours = ours_more next one text answered.ask handed;
        read = read_more talked.got answered.bytes gave mid left talked.read answered.read;
        due = talked.due ++ text;
        answers = due_more next one text handed;
        wrote = adds_more talked.due text had sofar took talked.wrote answered.told.2;
        now = handed.stepped ∙ ap (λ (n : SiteState). stepped G S n one) talked.now ∙ sym (after_push G S first talked.asked one);
        id = id ∙ talked.id;
        projection = projection ∙ talked.projection;
        at = further.0;
        stands = subst (λ (n : SiteState). StandsAt G S further.0 n.site) (sym handed.stepped) further.1;
      }

  -- it ends with these bytes behind
  behind_end : (has_ended : Type 0) (left took : Side) (bytes : List ℕ) (end : AnswerEnd) → Consumes mid.bytes left.bytes bytes
      → EndsBy first has_ended end talked.asked bytes talked.due gave left had took → Talks G S first has_ended gave left had took end
  behind_end has_ended left took bytes end consumed ends = record {
    got = talked.got ++ bytes;
    read = Consumes-trans gave.bytes mid.bytes left.bytes talked.got bytes talked.read.read consumed;
    asked = talked.asked;
    behind = bytes;
    frames = record { whole = talked.got; spelled = talked.spelled; same = refl };
    ours = talked.ours;
    due = talked.due;
    answers = talked.answers;
    ends = ends;
  }

  -- nothing more was written
  silent : (took : Side) → took ≡ sofar → Adds talked.due had took
  silent took same = subst (Adds talked.due had) (sym same) talked.wrote

  -- none was read
  unread_end : (has_ended : Type 0) (left took : Side) (end : AnswerEnd) → StopsReading has_ended end mid left sofar took → Talks G S first has_ended gave left had took end
  unread_end has_ended left took Ended stops =
      behind_end has_ended left took stops.bytes Ended stops.stops.2.read
      (stops.stops.0, stops.stops.1, stops.stops.2.no_fault ∙ talked.read.no_fault, silent took stops.silent)
  unread_end has_ended left took Torn stops =
      behind_end has_ended left took stops.bytes Torn stops.stops.3.read
      (stops.stops.0, stops.stops.1, stops.stops.2, stops.stops.3.no_fault ∙ talked.read.no_fault, silent took stops.silent)
  unread_end has_ended left took NotOurs stops =
      behind_end has_ended left took stops.bytes NotOurs stops.stops.2.read
      (λ more one may spelled. stops.stops.0 more one may.ask spelled, stops.stops.1, stops.stops.2.no_fault ∙ talked.read.no_fault, silent took stops.silent)
  unread_end has_ended left took LinkFault stops =
      behind_end has_ended left took stops.bytes LinkFault stops.stops.1.read
      (inl (stops.stops.0, fails_since gave.faults mid.faults left.faults talked.read.no_fault stops.stops.1.fault, silent took stops.silent))
  unread_end has_ended left took Full stops = absurd stops.stops

  -- one was read that the site may not be asked by, or what is answered to it couldn't be written
  handed_end : (has_ended : Type 0) (left took : Side) (end : AnswerEnd) (next : SiteState) (one : Sent) (bytes : List ℕ) → SpellSent bytes one → IsAsk one
      → Read bytes mid left → Tells G S node next one sofar took (Some end) → Talks G S first has_ended gave left had took end
  handed_end has_ended left took end next one bytes spelled ask read (inl refused) =
      subst (Talks G S first has_ended gave left had took) (sym refused.0)
      (behind_end has_ended left took bytes NotOurs read.read (
        out_of_range first bytes one spelled (λ within. refused.1 (in_range_kept first node (sym talked.id) (sym talked.projection) one within)),
        not_long bytes one ask spelled,
        read.no_fault ∙ talked.read.no_fault,
        silent took refused.2,
      ))
  handed_end has_ended left took end next one bytes spelled ask read (inr failed) =
      subst (Talks G S first has_ended gave left had took) (sym failed.0)
      (record {
        got = talked.got ++ bytes;
        read = Consumes-trans gave.bytes mid.bytes left.bytes talked.got bytes talked.read.read read.read;
        asked = talked.asked ++ one ∷ [];
        behind = [];
        frames = record {
          whole = talked.got ++ bytes;
          spelled = spell_append talked.got bytes talked.asked (one ∷ []) talked.spelled (one_spelled bytes one spelled);
          same = sym (append-nil (talked.got ++ bytes));
        };
        ours = ours_more next one failed.1 ask failed.2;
        due = talked.due ++ failed.1;
        answers = due_more next one failed.1 failed.2;
        ends = inr (refl, read.no_fault ∙ talked.read.no_fault, stops_more talked.due failed.1 had sofar took talked.wrote failed.3);
      })

  pub talks_end : (has_ended : Type 0) (left took : Side) (end : AnswerEnd) (next : SiteState) → AnswersNext G S node next has_ended mid left sofar took (Some end)
      → Talks G S first has_ended gave left had took end
  talks_end has_ended left took end next (inl answered) =
      handed_end has_ended left took end next answered.one answered.bytes answered.spelled answered.ask answered.read answered.told
  talks_end has_ended left took end next (inr stops) = unread_end has_ended left took end stops

  pub talks_full : (has_ended : Type 0) → count ≡ 2 ^ 64 - 1 → Talks G S first has_ended gave mid had sofar Full
  talks_full has_ended full =
      behind_end has_ended mid sofar [] Full (Consumes-nil mid.bytes) (refl, talked.many ∙ full, talked.read.no_fault, talked.wrote)
