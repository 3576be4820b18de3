-- The vote of a site on an execution that could not be kept.
use Rattle.std.proofs.Common.{◌≡◌, ℕ, List, [], ◌∷◌, ◌++◌, length, Option, Some, refl, sym, ap, subst, ◌∙◌}
use Rattle.std.proofs.lemmas.List.Elements.{All-nil, All-cons, All-append}
use Rattle.std.specs.Prelude.{Result, Ok, Err, IfOk, IfSome}
use Rattle.std.proofs.lemmas.Option.{same_Some}
use Rattle.dcr_base.specs.Link.{Links}
use Rattle.dcr_cell.specs.ClusterId.{ClusterId}
use Rattle.dcr_journal.specs.Answer.{outcome_decided}
use Rattle.dcr_journal.specs.JournalValue.{History}
use Rattle.dcr_journal.specs.declared.call.Call.{Call}
use Rattle.dcr_journal.specs.declared.call.Call.TheVariants.{Exec, Look, Accepting}
use Rattle.dcr_journal.specs.declared.call.Call.TheVariants as call
use Rattle.dcr_journal.specs.declared.call.Outcome.{Outcome}
use Rattle.dcr_journal.specs.declared.call.Outcome.TheVariants.{Faulted}
use Rattle.dcr_set.specs.EventSet.{Set}
use Rattle.dcr_site.specs.declared.site.Decision.TheVariants.{Enabled}
use Rattle.dcr_wire.specs.Laws.{sent_message}
use Rattle.dcr_wire.specs.declared.message.Message.{Message}
use Rattle.dcr_wire.specs.declared.message.Message.TheVariants.{Ask, Vote}
use Rattle.dcr_node.specs.JournalState.{JournalState, entry_of, execution, question, stream_of, withdrawn, with_entry, with_out}
use Rattle.dcr_node.specs.declared.journal_node.Proposal.{Proposal}
use Rattle.dcr_node.proofs.RightLemmas.{question_is_true}
use Rattle.dcr_node.proofs.TruthLemmas.{truth_kept}
use Rattle.dcr_seat.proofs.ToldLemmas.{entered_grows, true_kept}
use Rattle.dcr_talk.specs.Truth.{AreTrue, IsTrueSent}
use Rattle.dcr_order.specs.Acts.{Moment, hears}
use Rattle.dcr_order.specs.Calling.{told_by}
use Rattle.dcr_order.specs.Going.{Answers, Ends}
use Rattle.dcr_order.specs.Linked.{HasVoted, IsHeard, IsLedFrom, IsOfTalk}
use Rattle.dcr_order.specs.declared.place.Place.{Place}
use Rattle.dcr_order.proofs.CallLemmas.{ask_is}
use Rattle.dcr_order.proofs.LedLemmas.{last_of, own_call_grows}
use Rattle.dcr_order.proofs.LinkLemmas.{Reads, linked_answered, linked_ended}

module _ {L R : Type 0} (each : Links L R) (links : Option (List L)) (before : Option (List (ℕ × R))) (greets : ℕ → List ℕ → List ℕ → Type 0) (c : ClusterId) where
  -- the vote was read, and then the link was ended
  pub vote_was_had : (first j : JournalState) (places mid after : List (Place L)) (back back_then : Option (List (ℕ × R))) (session i e : ℕ) (ask vote : Message)
      → j.out ≡ Some (execution session i e) → Some ask ≡ question j → vote ≡ Vote (length j.history.entries) i Enabled
      → Answers each j i (sent_message ask) (sent_message vote) places mid → Ends each i mid after back back_then → IsLedFrom each links before greets c first j places back
      → HasVoted each links before greets c j after back_then session i e
  vote_was_had first j places mid after back back_then session i e ask vote out asked voted answers ends led =
      let G = c.rules in let C = c.owned in let M = c.opening in
      let n = length j.history.entries in
      let p = execution session i e in
      let outcome = outcome_decided Enabled in
      let entry = entry_of j p outcome in
      let message : Message = Ask n i e (length (stream_of j i)) in
      let same : message ≡ ask = sym (same_Some ask message (asked ∙ ask_is j session i e out)) in
      let is = question_is_true G C M j p i e out refl in
      let is_then = truth_kept j (withdrawn (with_entry j entry)) (entered_grows j p outcome out) G C M message is in
      let read : Reads each links before greets c j (with_entry j entry) i (sent_message message) (sent_message vote) mid back led.0 =
      linked_answered each links before greets c j (with_entry j entry) (entry ∷ []) i places mid back led.0 (sent_message message) (sent_message vote) led.1.linked
      (subst (λ (m : Message). Answers each j i (sent_message m) (sent_message vote) places mid) (sym same) answers) refl refl (refl, refl) refl refl is_then in
      let m = read.moment in
      let ended = linked_ended each links before greets c (with_entry j entry) i mid after back back_then (led.0 ++ hears m ∷ []) read.linked ends in
      let put : JournalState = with_out j p in
      let own = question_is_true G C M put p i e refl refl in
      record {
        moment = m;
        site = read.site;
        vote = read.is ∙ ap sent_message voted;
        heard = last_of (IsHeard each links before greets c after back_then) led.0 (hears m) ended.heard;
        are_true = subst (AreTrue G C M put) (sym read.asked)
            (All-append (IsTrueSent G C M put) read.fore (sent_message message ∷ []) (true_kept (withdrawn put) put (own_call_grows put) G C M read.fore read.are_true)
            (All-cons (IsTrueSent G C M put) (sent_message message) [] own (All-nil (IsTrueSent G C M put))));
      }

  -- with the same entries, and nothing told
  pub voted_rests : (j after : JournalState) (places : List (Place L)) (back : Option (List (ℕ × R))) (session i e : ℕ) → after.alphabets ≡ j.alphabets → after.history ≡ j.history
      → after.sessions ≡ j.sessions → HasVoted each links before greets c j places back session i e → HasVoted each links before greets c after places back session i e
  voted_rests j after places back session i e alphabets history sessions voted =
      let p = execution session i e in
      let same : with_out j p ≡ with_out after p =
      ap (λ (A : List Set). with_out (record j { alphabets = A }) p) (sym alphabets)
      ∙ ap (λ (H : History). with_out (record j { alphabets = after.alphabets; history = H }) p) (sym history)
      ∙ ap (λ (n : ℕ). with_out (record j { alphabets = after.alphabets; history = after.history; sessions = n }) p) (sym sessions) in
      record {
        moment = voted.moment;
        site = voted.site;
        vote = voted.vote ∙ ap (λ (H : History). sent_message (Vote (length H.entries) i Enabled)) (sym history);
        heard = voted.heard;
        are_true = subst (λ (k : JournalState). AreTrue c.rules c.owned c.opening k voted.moment.asked) same voted.are_true;
      }

  -- where each moment of a talk stays one
  pub voted_kept : (j : JournalState) (places after : List (Place L)) (back back_then : Option (List (ℕ × R))) (session i e : ℕ)
      → ((m : Moment) → IsOfTalk each links before greets c places back m → IsOfTalk each links before greets c after back_then m)
      → HasVoted each links before greets c j places back session i e → HasVoted each links before greets c j after back_then session i e
  voted_kept j places after back back_then session i e goes_on voted = record {
    moment = voted.moment;
    site = voted.site;
    vote = voted.vote;
    heard = (goes_on voted.moment voted.heard.0, voted.heard.1);
    are_true = voted.are_true;
  }

-- ---- what a call was told

site_of : Call → ℕ
site_of (Exec i e) = i
site_of (Look i) = i
site_of (call.Enabled i) = i
site_of Accepting = 0

event_of : Call → ℕ
event_of (Exec i e) = e
event_of (Look i) = 0
event_of (call.Enabled i) = 0
event_of Accepting = 0

-- the vote of the execution that was called
pub exec_voted : (r : Result Outcome ℕ) (o : Option Outcome) (asked : Call) (i e : ℕ) (out : Option Proposal) (V : ℕ → ℕ → ℕ → Type 0) → told_by r ≡ o → asked ≡ Exec i e
    → IfSome o (λ (outcome : Outcome). outcome ≡ Faulted → (session : ℕ) → out ≡ Some (execution session i e) → V session i e)
    → IfOk r (λ (outcome : Outcome). outcome ≡ Faulted → (session k f : ℕ) → asked ≡ Exec k f → out ≡ Some (execution session k f) → V session k f)
unfolding site_of event_of
exec_voted (Ok outcome) o asked i e out V told is voted = λ fault session k f call out_is.
    let P = λ (one : Outcome). one ≡ Faulted → (n : ℕ) → out ≡ Some (execution n i e) → V n i e in
    let had = subst (λ (x : Option Outcome). IfSome x P) (sym told) voted in
    let same : Exec k f ≡ Exec i e = sym call ∙ is in
    let site : k ≡ i = ap site_of same in
    let event : f ≡ e = ap event_of same in
    let own = out_is ∙ ap (λ (n : ℕ). Some (execution session n f)) site ∙ ap (λ (n : ℕ). Some (execution session i n)) event in
    subst (λ (n : ℕ). V session n f) (sym site) (subst (λ (n : ℕ). V session i n) (sym event) (had fault session own))
exec_voted (Err site) o asked i e out V told is voted = tt
