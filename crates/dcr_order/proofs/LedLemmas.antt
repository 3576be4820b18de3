-- The journal is led on: a call is proposed or taken back, a link is ended, and an answer is handed to it.
use Rattle.std.proofs.Common.{◌≡◌, ℕ, ◌<◌, Bool, true, false, cond, List, [], ◌∷◌, ◌++◌, length, map, Option, refl, sym, ap, subst, ◌∙◌}
use Rattle.std.specs.List.{All}
use Rattle.std.specs.Option.{option_map, option_to_list}
use Rattle.std.proofs.lemmas.List.{append-nil}
use Rattle.std.proofs.lemmas.List.Elements.{All-nil, All-cons, All-append, All-head, All-tail}
use Rattle.std.proofs.lemmas.List.Sums.{fold_push}
use Rattle.dcr_set.specs.EventSet.{Set}
use Rattle.dcr_base.specs.Link.{Links}
use Rattle.dcr_cell.specs.ClusterId.{ClusterId}
use Rattle.dcr_graph.specs.Rules.{Rules}
use Rattle.dcr_graph.specs.declared.marking.Marking.{Marking}
use Rattle.dcr_journal.specs.declared.call.Entry.{Entry}
use Rattle.dcr_wire.specs.Laws.{Sent, sent_message, sent_question, sent_answer}
use Rattle.dcr_node.specs.JournalState.{JournalState, asked_by, is_free, proposed, stream_of, withdrawn, with_out}
use Rattle.dcr_node.specs.Right.{IsOutAt}
use Rattle.dcr_node.specs.declared.journal_node.Proposal.{Proposal}
use Rattle.dcr_node.proofs.TruthLemmas.{Grows}
use Rattle.dcr_talk.specs.Truth.{IsRightJournal, IsTrueSent, AreTrue}
use Rattle.dcr_talk.proofs.TalkLemmas.{all_true}
use Rattle.dcr_node.specs.WorldState.{site_at}
use Rattle.dcr_node.proofs.LawLemmas.{node_at_opening}
use Rattle.dcr_seat.specs.InStep.{IsNext, executions_in, questions_in}
use Rattle.dcr_seat.proofs.RightLemmas.{proposal_right, withdrawal_right, vote_right, answer_right}
use Rattle.dcr_seat.proofs.ToldLemmas.{true_kept}
use Rattle.dcr_order.specs.Acts.{Moment, Act, proposes, withdraws, hears, handed, acted, after_acts, IsHonestAct}
use Rattle.dcr_order.specs.Going.{Ends, Answers}
use Rattle.dcr_order.specs.Linked.{AreLinked, IsHeard, IsLed}
use Rattle.dcr_order.specs.declared.place.Place.{Place}
use Rattle.dcr_order.proofs.LinkLemmas.{Reads, linked_answered, linked_ended, linked_kept}

-- what is true with nothing out is true with a call out
pub own_call_grows : (j : JournalState) → Grows (withdrawn j) j
own_call_grows j =
    let calls : List _ = map (λ (entry : Entry). entry.call) j.history.entries in
    record {
      alphabets = refl;
      new_entries = [];
      entries = sym (append-nil j.history.entries);
      new_asked = option_to_list (option_map (λ (p : Proposal). (asked_by p).1) j.out);
      calls = ap (λ cs. cs ++ option_to_list (option_map (λ (p : Proposal). (asked_by p).1) j.out)) (sym (append-nil calls));
    }

-- the last of a list
pub last_of : {X : Type 0} (P : X → Type 0) (xs : List X) (x : X) → All P (xs ++ x ∷ []) → P x
last_of P [] x all = All-head P x [] all
last_of P (y ∷ xs) x all = last_of P xs x (All-tail P y (xs ++ x ∷ []) all)

-- and those before
before_last : {X : Type 0} (P : X → Type 0) (xs : List X) (x : X) → All P (xs ++ x ∷ []) → All P xs
before_last P [] x all = All-nil P
before_last P (y ∷ xs) x all = All-cons P y xs (All-head P y (xs ++ x ∷ []) all) (before_last P xs x (All-tail P y (xs ++ x ∷ []) all))

module _ (G : Rules) (C : List Set) (M : Marking) (j : JournalState) (right : IsRightJournal G C M j) where
  -- what is true may be handed to it
  handed_right : (sent : Sent) → IsTrueSent G C M j sent → IsRightJournal G C M (handed j sent)
  handed_right (sent_message message) is = vote_right G C M j right message is
  handed_right (sent_question question) is = right
  handed_right (sent_answer answer) is = answer_right G C M j right answer is

  -- what an honest site has answered is true
  pub honest_is_true : (m : Moment) → m.site < length C → AreTrue G C M j m.asked → IsHonestAct G C M (hears m) → IsTrueSent G C M j m.answer
  honest_is_true m below are honest =
      let all = all_true G C M j right m.site below m.asked (site_at G C M m.site) (node_at_opening G C M j m.site) are in
      last_of (IsTrueSent G C M j) m.before m.answer (subst (AreTrue G C M j) (sym honest) all)

-- one act more
acts_more : (first : JournalState) (acts : List Act) (act : Act) → after_acts first (acts ++ act ∷ []) ≡ acted (after_acts first acts) act
acts_more first acts act = fold_push acted first acts act

module _ {L R : Type 0} (each : Links L R) (links : Option (List L)) (before : Option (List (ℕ × R))) (greets : ℕ → List ℕ → List ℕ → Type 0) (c : ClusterId) (first j : JournalState)
    (places : List (Place L)) (back : Option (List (ℕ × R))) (acts : List Act) (led : IsLed each links before greets c first j places back acts) where
  by_one : (act : Act) → acted j act ≡ after_acts first (acts ++ act ∷ [])
  by_one act = ap (λ k. acted k act) led.by_acts ∙ sym (acts_more first acts act)

  heard_one : (act : Act) → AreLinked each links before greets c j places back acts → IsHeard each links before greets c places back act → All (IsHeard each links before greets c places back) (acts ++ act ∷ [])
  heard_one act were is =
      All-append (IsHeard each links before greets c places back) acts (act ∷ []) were.heard
      (All-cons (IsHeard each links before greets c places back) act [] is (All-nil (IsHeard each links before greets c places back)))

  linked_one : (after : JournalState) (act : Act) → after.alphabets ≡ j.alphabets → after.history.entries ≡ j.history.entries → IsHeard each links before greets c places back act
      → AreLinked each links before greets c after places back (acts ++ act ∷ [])
  linked_one after act alphabets entries is =
      let kept = linked_kept each links before greets c j after [] places back acts alphabets (entries ∙ sym (append-nil j.history.entries)) led.linked in
      record { many = kept.many; seated = kept.seated; heard = heard_one act led.linked is; returned = kept.returned }

  -- a call is proposed
  proposed_alphabets : (p : Proposal) (b : Bool) → (cond b (with_out j p) j).alphabets ≡ j.alphabets
  proposed_alphabets p true = refl
  proposed_alphabets p false = refl

  proposed_entries : (p : Proposal) (b : Bool) → (cond b (with_out j p) j).history.entries ≡ j.history.entries
  proposed_entries p true = refl
  proposed_entries p false = refl

  pub led_proposing : (p : Proposal) → IsOutAt c.rules c.owned p → IsLed each links before greets c first (proposed j p) places back (acts ++ proposes p ∷ [])
  led_proposing p is = record {
    by_acts = by_one (proposes p);
    linked = linked_one (proposed j p) (proposes p) (proposed_alphabets p (is_free j)) (proposed_entries p (is_free j)) tt;
    right = λ honest. proposal_right c.rules c.owned c.opening j (led.right (before_last (IsHonestAct c.rules c.owned c.opening) acts (proposes p) honest)) p is;
  }

  -- the call that is out is taken back
  pub led_withdrawing : IsLed each links before greets c first (withdrawn j) places back (acts ++ withdraws ∷ [])
  led_withdrawing = record {
    by_acts = by_one withdraws;
    linked = linked_one (withdrawn j) withdraws refl refl tt;
    right = λ honest. withdrawal_right c.rules c.owned c.opening j (led.right (before_last (IsHonestAct c.rules c.owned c.opening) acts withdraws honest));
  }

  -- a link is ended
  pub led_ended : (i : ℕ) (after : List (Place L)) (back_then : Option (List (ℕ × R))) → Ends each i places after back back_then → IsLed each links before greets c first j after back_then acts
  led_ended i after back_then ends = record {
    by_acts = led.by_acts;
    linked = linked_ended each links before greets c j i places after back back_then acts led.linked ends;
    right = led.right;
  }

  -- an answer is handed to the journal
  pub led_hearing : (i : ℕ) (after : List (Place L)) (question answer : Sent) (more : List Entry) → i < length c.owned → Answers each j i question answer places after
      → (handed j answer).alphabets ≡ j.alphabets → (handed j answer).history.entries ≡ j.history.entries ++ more → IsNext i (length (stream_of j i)) question → executions_in (question ∷ []) ≡ 0
      → questions_in (question ∷ []) ≡ 1 → IsTrueSent c.rules c.owned c.opening j question → IsTrueSent c.rules c.owned c.opening (withdrawn (handed j answer)) question
      → (m : Moment) × IsLed each links before greets c first (handed j answer) after back (acts ++ hears m ∷ [])
  led_hearing i after question answer more below answers alphabets entries next none one is is_then =
      let G = c.rules in let C = c.owned in let M = c.opening in
      let read : Reads each links before greets c j (handed j answer) i question answer after back acts =
      linked_answered each links before greets c j (handed j answer) more i places after back acts question answer led.linked answers alphabets entries next none one is_then in
      let m = read.moment in (
        m,
        record {
          by_acts = ap (handed j) (sym read.is) ∙ by_one (hears m);
          linked = read.linked;
          right = λ honest.
              let right = led.right (before_last (IsHonestAct G C M) acts (hears m) honest) in
              let fore = true_kept (withdrawn j) j (own_call_grows j) G C M read.fore read.are_true in
              let asked : AreTrue G C M j m.asked =
              subst (AreTrue G C M j) (sym read.asked)
              (All-append (IsTrueSent G C M j) read.fore (question ∷ []) fore (All-cons (IsTrueSent G C M j) question [] is (All-nil (IsTrueSent G C M j)))) in
              let said = honest_is_true G C M j right m (subst (λ k. k < length C) (sym read.site) below) asked (last_of (IsHonestAct G C M) acts (hears m) honest) in
              subst (λ a. IsRightJournal G C M (handed j a)) read.is (handed_right G C M j right m.answer said);
        },
      )
