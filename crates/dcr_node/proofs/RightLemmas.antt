-- Each event keeps a world right.
use Rattle.std.proofs.Common.{◌≡◌, ℕ, ◌+◌, ◌<◌, Bool, true, false, ◌&&◌, cond, eqb, ltb, List, [], ◌∷◌, ◌++◌, length, get_or, map, take, Option, Some, None, inl, inr, refl, sym, ap, subst, ◌∙◌, arith, length-set}
use Rattle.std.specs.Prelude.{slice_get}
use Rattle.std.specs.Option.{option_map, option_and_then, option_to_list, is_none}
use Rattle.std.proofs.lemmas.Bool.{and_parts, eqb-true, false≢true}
use Rattle.std.proofs.lemmas.List.{append-nil, length-map, length-replicate, get_or-replicate, map-append, take_all, take_more}
use Rattle.std.proofs.lemmas.List.Sums.{fold_push}
use Rattle.std.proofs.lemmas.Option.{slice_get_within, get_or_from_slice_get, same_Some, none-some}
use Rattle.dcr_set.specs.EventSet.{Set, has}
use Rattle.dcr_set.proofs.ListLemmas.{set_cases, push_cases}
use Rattle.dcr_set.proofs.SetLemmas.{length-those}
use Rattle.dcr_graph.specs.Rows.{row}
use Rattle.dcr_graph.specs.Rules.{Rules}
use Rattle.dcr_graph.specs.Step.{step}
use Rattle.dcr_graph.specs.Projection.{in_alphabet, project, local_step}
use Rattle.dcr_graph.specs.declared.marking.Marking.{Marking}
use Rattle.dcr_graph.proofs.LocalLaws.{local_step_is}
use Rattle.dcr_journal.specs.Answer.{answer, outcome_decided}
use Rattle.dcr_journal.specs.Run.{IsSound, after}
use Rattle.dcr_journal.specs.declared.call.Call.{Call}
use Rattle.dcr_journal.specs.declared.call.Call.TheVariants.{Exec, Look, Enabled, Accepting}
use Rattle.dcr_journal.specs.declared.call.Entry.{Entry}
use Rattle.dcr_journal.specs.declared.call.Outcome.{Outcome}
use Rattle.dcr_journal.proofs.SoundLemmas.{sound_more}
use Rattle.dcr_proj.specs.CoverValue.{atoms_of}
use Rattle.dcr_site.specs.declared.site.Decision.{Decision}
use Rattle.dcr_wire.specs.declared.answer.Answer.{Answer}
use Rattle.dcr_wire.specs.declared.message.Message.{Message}
use Rattle.dcr_wire.specs.declared.message.Message.TheVariants.{Ask, Vote, Apply}
use Rattle.dcr_wire.specs.declared.question.Asked.{Asked}
use Rattle.dcr_wire.specs.declared.question.Question.{Question}
use Rattle.dcr_node.specs.Heard.{heard, stepped_by_all}
use Rattle.dcr_node.specs.SiteState.{SiteState, heard_one, decision_at, is_ready, site_step}
use Rattle.dcr_node.specs.Gathering.{nothing_told, nothing_gathered}
use Rattle.dcr_node.specs.JournalState.{JournalState, asked_by, execution, stream_of, ask_for, question_at, is_free, with_out, execution_out, entry_of, with_entry, voted}
use Rattle.dcr_node.specs.WorldState.{WorldState, IsEvent}
use Rattle.dcr_node.specs.Machine.{sending, with_journal, with_site, told_site, delivered, delivered_if, happens, asking, answering}
use Rattle.dcr_node.specs.Right.{alphabet_of, asked, IsTrueAt, IsNodeAt, IsOutAt, IsAskedAt, IsAnswerAt, AreGathered, IsRight}
use Rattle.dcr_node.specs.declared.event.WorldEvent.{WorldEvent}
use Rattle.dcr_node.specs.declared.event.WorldEvent.TheVariants.{Propose, AskAgain, Item, Deliver}
use Rattle.dcr_node.specs.declared.gathered.Gathered.{Gathered}
use Rattle.dcr_node.specs.declared.journal_node.Execution.{Execution}
use Rattle.dcr_node.specs.declared.journal_node.Proposal.{Proposal}
use Rattle.dcr_node.proofs.TruthLemmas.{Grows, truth_kept, question_kept, answer_kept, node_kept, asked_last, asked_in_range, out_is, decided_by_projection, decided_is_answered, alphabet_row, marks_at_beginning}

-- ---- one part of a right world changes

module _ (G : Rules) (C : List Set) (M : Marking) where
  -- a true message more
  pub right_sent : (w : WorldState) (message : Message) → IsRight G C M w → IsTrueAt G C M w.journal message → IsRight G C M (sending w (Some message))
  right_sent w message right here = record {
    is_case = right.is_case;
    opening = right.opening;
    alphabets = right.alphabets;
    sound = right.sound;
    out = right.out;
    as_many = right.as_many;
    sites = right.sites;
    sent = λ k found is. elim (push_cases w.sent message k found is) [
      | inl at ↦ subst (IsTrueAt G C M w.journal) (sym at.1) here
      | inr old ↦ right.sent k found old
    ];
    gathered = right.gathered;
    questions = right.questions;
    answers = right.answers;
  }

  -- a true question more
  pub right_asking : (w : WorldState) (q : Question) → IsRight G C M w → IsAskedAt w.journal q → IsRight G C M (asking w q)
  right_asking w q right here = record {
    is_case = right.is_case;
    opening = right.opening;
    alphabets = right.alphabets;
    sound = right.sound;
    out = right.out;
    as_many = right.as_many;
    sites = right.sites;
    sent = right.sent;
    gathered = right.gathered;
    questions = λ k found is. elim (push_cases w.questions q k found is) [
      | inl at ↦ subst (IsAskedAt w.journal) (sym at.1) here
      | inr old ↦ right.questions k found old
    ];
    answers = right.answers;
  }

  -- a true answer more
  pub right_answering : (w : WorldState) (a : Answer) → IsRight G C M w → IsAnswerAt G C M w.journal a → IsRight G C M (answering w (Some a))
  right_answering w a right here = record {
    is_case = right.is_case;
    opening = right.opening;
    alphabets = right.alphabets;
    sound = right.sound;
    out = right.out;
    as_many = right.as_many;
    sites = right.sites;
    sent = right.sent;
    gathered = right.gathered;
    questions = right.questions;
    answers = λ k found is. elim (push_cases w.answers a k found is) [
      | inl at ↦ subst (IsAnswerAt G C M w.journal) (sym at.1) here
      | inr old ↦ right.answers k found old
    ];
  }

  -- a journal that grew and is sound, and has gathered what is true
  pub right_journal : (w : WorldState) (j : JournalState) → IsRight G C M w → Grows w.journal j → IsSound G C M j.history.entries
      → ((p : Proposal) → j.out ≡ Some p → IsOutAt G C p) → AreGathered G C M j → IsRight G C M (with_journal w j)
  right_journal w j right grows sound out gathered = record {
    is_case = right.is_case;
    opening = right.opening;
    alphabets = grows.alphabets ∙ right.alphabets;
    sound = sound;
    out = out;
    as_many = right.as_many;
    sites = λ i node is. node_kept w.journal j grows G C M i node (right.sites i node is);
    sent = λ k message is. truth_kept w.journal j grows G C M message (right.sent k message is);
    gathered = gathered;
    questions = λ k q is. question_kept w.journal j grows q (right.questions k q is);
    answers = λ k a is. answer_kept w.journal j grows G C M a (right.answers k a is);
  }

  -- a site that stands where it should
  pub right_site : (w : WorldState) (i : ℕ) (node : SiteState) → IsRight G C M w → i < length w.sites → IsNodeAt G C M w.journal i node → IsRight G C M (with_site w i node)
  right_site w i node right below here = record {
    is_case = right.is_case;
    opening = right.opening;
    alphabets = right.alphabets;
    sound = right.sound;
    out = right.out;
    as_many = length-set w.sites i node ∙ right.as_many;
    sites = λ k found is. elim (set_cases w.sites i node k found below is) [
      | inl at ↦ subst (IsNodeAt G C M w.journal k) (sym at.1) (subst (λ n. IsNodeAt G C M w.journal n node) (sym at.0) here)
      | inr other ↦ right.sites k found other.1
    ];
    sent = right.sent;
    gathered = right.gathered;
    questions = right.questions;
    answers = right.answers;
  }

  -- the alphabet that the journal has of a site
  pub right_alphabet : (w : WorldState) (i : ℕ) → IsRight G C M w → i < length C → row w.journal.alphabets i ≡ alphabet_of G (row C i)
  right_alphabet w i right below = ap (λ A. row A i) right.alphabets ∙ alphabet_row G C i below

-- ---- proposals

-- all that was heard
heard_all : (j : JournalState) (i : ℕ) → length (stream_of j i) ≡ length (heard (has (row j.alphabets i)) (take (length j.history.entries) j.history.entries))
heard_all j i = ap (λ J. length (heard (has (row j.alphabets i)) J)) (sym (take_all (length j.history.entries) j.history.entries (omega arith)))

-- the question of the execution that is out is true
pub question_is_true : (G : Rules) (C : List Set) (M : Marking) (j : JournalState) (p : Proposal) (i e : ℕ) → j.out ≡ Some p → p.call ≡ Exec i e
    → IsTrueAt G C M j (Ask (length j.history.entries) i e (length (stream_of j i)))
question_is_true G C M j p i e out is = (asked_last j p out ∙ ap Some is, heard_all j i)

-- and so is a question what a site is to tell
pub asked_is_true : (j : JournalState) (i : ℕ) (asked : Asked) → i < length j.alphabets → IsAskedAt j (question_at j i asked)
asked_is_true j i asked below = record { site = below; number = omega arith; count = heard_all j i }

-- a proposal is the next call that is asked
proposal_grows : (j : JournalState) (p : Proposal) → j.out ≡ None → Grows j (with_out j p)
proposal_grows j p none = record {
  alphabets = refl;
  new_entries = [];
  entries = sym (append-nil j.history.entries);
  new_asked = p.call ∷ [];
  calls =
      let calls : List Call = map (λ (entry : Entry). entry.call) j.history.entries in
      ap (λ cs. cs ++ p.call ∷ []) (sym (append-nil calls) ∙ ap (λ (o : Option Proposal). calls ++ option_to_list (option_map (λ (q : Proposal). (asked_by q).1) o)) (sym none));
}

-- an entry is of the call that was out
entry_grows : (j : JournalState) (p : Proposal) (outcome : Outcome) → j.out ≡ Some p → Grows j (with_entry j (entry_of j p outcome))
entry_grows j p outcome out = record {
  alphabets = refl;
  new_entries = entry_of j p outcome ∷ [];
  entries = refl;
  new_asked = [];
  calls =
      let calls : List Call = map (λ (entry : Entry). entry.call) j.history.entries in
      append-nil (map (λ (entry : Entry). entry.call) (j.history.entries ++ entry_of j p outcome ∷ []))
      ∙ map-append (λ (entry : Entry). entry.call) j.history.entries (entry_of j p outcome ∷ [])
      ∙ sym (append-nil (calls ++ option_to_list (option_map (λ (q : Proposal). (asked_by q).1) j.out))
      ∙ ap (λ (o : Option Proposal). calls ++ option_to_list (option_map (λ (q : Proposal). (asked_by q).1) o)) out);
}

-- nothing was gathered
pub gathered_none : (G : Rules) (C : List Set) (M : Marking) (j : JournalState) → j.gathered ≡ nothing_gathered (length j.alphabets) → length j.alphabets ≡ length C → AreGathered G C M j
gathered_none G C M j none many = record {
  as_many = ap (λ g. length g) none ∙ length-replicate (length j.alphabets) nothing_told ∙ many;
  each = λ i g is.
      let sites = length j.alphabets in
      let there : slice_get (nothing_gathered sites) i ≡ Some g = ap (λ xs. slice_get xs i) (sym none) ∙ is in
      let below : i < sites = (let within = slice_get_within (nothing_gathered sites) i g there in let room = length-replicate sites nothing_told in omega arith) in
      let nothing : nothing_told ≡ g = sym (get_or-replicate sites i nothing_told g below) ∙ get_or_from_slice_get (nothing_gathered sites) i g g there in
      record {
        marks = λ mark told. absurd (none-some mark (ap (λ (x : Gathered). x.marks) nothing ∙ told));
        waits = λ event told. absurd (none-some event (ap (λ (x : Gathered). x.waits) nothing ∙ told));
      };
}

none_out : (o : Option Proposal) → is_none o ≡ true → o ≡ None
none_out None none = refl
none_out (Some p) none = absurd (false≢true none)

module _ (G : Rules) (C : List Set) (M : Marking) (w : WorldState) (right : IsRight G C M w) where
  -- there are as many alphabets as owned sets
  pub right_many : length w.journal.alphabets ≡ length C
  right_many = ap (λ A. length A) right.alphabets ∙ length-map C (alphabet_of G)

  pub right_out : (p : Proposal) → IsOutAt G C p → (b : Bool) → is_free w.journal ≡ b → IsRight G C M (with_journal w (cond b (with_out w.journal p) w.journal))
  right_out p is false free = right
  right_out p is true free =
      let j = with_out w.journal p in
      let none : w.journal.out ≡ None = none_out w.journal.out (and_parts (is_none w.journal.out) (ltb (length w.journal.history.entries) w.journal.history.capacity) free).0 in
      right_journal G C M w j right (proposal_grows w.journal p none) right.sound (λ q same. subst (IsOutAt G C) (same_Some p q same) is) (gathered_none G C M j refl right_many)

  -- the message that a call asks which is out
  ask_is_sent : (w' : WorldState) → IsRight G C M w' → (p : Proposal) → w'.journal.out ≡ Some p → (call : Call) → p.call ≡ call → IsRight G C M (sending w' (ask_for w'.journal call))
  ask_is_sent w' right' p out (Exec i e) is =
      right_sent G C M w' (Ask (length w'.journal.history.entries) i e (length (stream_of w'.journal i))) right' (question_is_true G C M w'.journal p i e out is)
  ask_is_sent w' right' p out (Look i) is = right'
  ask_is_sent w' right' p out (Enabled i) is = right'
  ask_is_sent w' right' p out Accepting is = right'

  right_proposal : (p : Proposal) → IsOutAt G C p → (b : Bool) → is_free w.journal ≡ b
      → IsRight G C M (sending (with_journal w (cond b (with_out w.journal p) w.journal)) (cond b (ask_for w.journal p.call) None))
  right_proposal p is false free = right
  right_proposal p is true free = same_ask p.call refl
    where
      same_ask : (call : Call) → p.call ≡ call → IsRight G C M (sending (with_journal w (with_out w.journal p)) (ask_for w.journal call))
      same_ask (Exec i e) same = ask_is_sent (with_journal w (with_out w.journal p)) (right_out p is true free) p refl (Exec i e) same
      same_ask (Look i) same = right_out p is true free
      same_ask (Enabled i) same = right_out p is true free
      same_ask Accepting same = right_out p is true free

  right_question : (o : Option Proposal) → w.journal.out ≡ o → IsRight G C M (sending w (option_and_then (λ (p : Proposal). ask_for w.journal p.call) o))
  right_question None out = right
  right_question (Some p) out = ask_is_sent w right p out p.call refl

  right_item : (site index : ℕ) (o : Option ℕ) → slice_get (stream_of w.journal site) index ≡ o → IsRight G C M (sending w (option_map (Apply site index) o))
  right_item site index None is = right
  right_item site index (Some event) is = right_sent G C M w (Apply site index event) right is

  -- ---- a question reaches a site

  -- the vote of a site at the count that it was asked at is the graph's decision
  pub vote_is_true : (number site event count : ℕ) (node : SiteState) → slice_get w.sites site ≡ Some node → IsTrueAt G C M w.journal (Ask number site event count)
      → is_ready node site count ≡ true → IsTrueAt G C M w.journal (Vote number site (decision_at G (row C site) node.site.mark event))
  vote_is_true number site event count node is asked_for ready =
      let at = right.sites site node is in
      let here : count ≡ node.count = eqb-true count node.count (and_parts (eqb site node.id) (eqb count node.count) ready).1 in
      let within : site < length C = (let below : site < length w.sites = slice_get_within w.sites site node is in let room = right.as_many in omega arith) in
      let in_range = asked_in_range G C M w.journal right.sound right.out number (Exec site event) asked_for.0 in
      let marks = marks_at_beginning G C M w.journal site number node right.sound (right_alphabet G C M w site right within) at (sym here ∙ asked_for.1) in (
        event,
        asked_for.0,
        ap (λ m. decision_at G (row C site) m event) marks
            ∙ decided_by_projection G (row C site) (after G M (take number w.journal.history.entries)) event in_range.1,
      )

  right_reply : (w' : WorldState) (number site event count : ℕ) (node : SiteState) → slice_get w.sites site ≡ Some node → IsTrueAt G C M w.journal (Ask number site event count)
      → IsRight G C M w' → w'.journal ≡ w.journal → (b : Bool) → is_ready node site count ≡ b
      → IsRight G C M (sending w' (cond b (Some (Vote number site (decision_at G (row C site) node.site.mark event))) None))
  right_reply w' number site event count node is asked_for next same false ready = next
  right_reply w' number site event count node is asked_for next same true ready =
      right_sent G C M w' (Vote number site (decision_at G (row C site) node.site.mark event)) next
      (subst (λ j. IsTrueAt G C M j (Vote number site (decision_at G (row C site) node.site.mark event))) (sym same) (vote_is_true number site event count node is asked_for ready))

  right_asked : (number site event count : ℕ) → IsTrueAt G C M w.journal (Ask number site event count) → (o : Option SiteState) → slice_get w.sites site ≡ o
      → IsRight G C M (told_site G C w site (Ask number site event count) o)
  right_asked number site event count asked_for None is = right
  right_asked number site event count asked_for (Some node) is =
      let next : IsRight G C M (with_site w site node) = right_site G C M w site node right (slice_get_within w.sites site node is) (right.sites site node is) in
      right_reply (with_site w site node) number site event count node is asked_for next refl (is_ready node site count) refl

  -- ---- an execution reaches a site

  -- a site that takes in the next execution of its stream stands one execution further
  node_steps : (site index event : ℕ) (node : SiteState) → IsNodeAt G C M w.journal site node → IsTrueAt G C M w.journal (Apply site index event)
      → (b : Bool) → is_ready node site index ≡ b → IsNodeAt G C M w.journal site (cond b (heard_one node (local_step G (row C site) node.site.mark event)) node)
  node_steps site index event node at told false ready = at
  node_steps site index event node at told true ready =
      let S = row C site in
      let stream = stream_of w.journal site in
      let here : index ≡ node.count = eqb-true index node.count (and_parts (eqb site node.id) (eqb index node.count) ready).1 in
      let below : index < length stream = slice_get_within stream index event told in
      let more : take (node.count + 1) stream ≡ take node.count stream ++ event ∷ [] =
      take_more stream node.count event (omega arith)
      ∙ ap (λ e. take node.count stream ++ e ∷ []) (ap (λ n. get_or stream n event) (sym here) ∙ get_or_from_slice_get stream index event event told) in
      let N = stepped_by_all G M (take node.count stream) in
      let further : stepped_by_all G M (take (node.count + 1) stream) ≡ step G N event = ap (stepped_by_all G M) more ∙ fold_push (step G) M (take node.count stream) event in
      record {
        id = at.id;
        count = omega arith;
        stands = record {
          projection = at.stands.projection;
          mark =
              ap (λ m. local_step G S m event) at.stands.mark
              ∙ local_step_is G S N event
              ∙ ap (λ X. project G S X) (sym further);
        };
      }

  right_told : (site index event : ℕ) → IsTrueAt G C M w.journal (Apply site index event) → (o : Option SiteState) → slice_get w.sites site ≡ o
      → IsRight G C M (told_site G C w site (Apply site index event) o)
  right_told site index event told None is = right
  right_told site index event told (Some node) is =
      right_site G C M w site (site_step G (row C site) node (Apply site index event)) right (slice_get_within w.sites site node is)
      (node_steps site index event node (right.sites site node is) told (is_ready node site index) refl)

  -- ---- a vote reaches the journal

  -- a true vote with the next number is the graph's answer to the execution that is out
  pub vote_answers : (number site : ℕ) (d : Decision) (p : Execution) → w.journal.out ≡ Some (execution p.session p.site p.event) → IsTrueAt G C M w.journal (Vote number site d)
      → (eqb number (length w.journal.history.entries) && eqb site p.site) ≡ true
      → outcome_decided d ≡ answer G C (after G M w.journal.history.entries) (Exec p.site p.event)
  vote_answers number site d p out true_vote same =
      let J = w.journal.history.entries in
      let number_is : number ≡ length J = eqb-true number (length J) (and_parts (eqb number (length J)) (eqb site p.site) same).0 in
      let calls : Exec site true_vote.0 ≡ Exec p.site p.event =
      same_Some (Exec site true_vote.0) (Exec p.site p.event)
      (sym true_vote.1 ∙ ap (λ n. slice_get (asked w.journal) n) number_is ∙ asked_last w.journal (execution p.session p.site p.event) out) in
      let beginning : take number J ≡ J = ap (λ n. take n J) number_is ∙ take_all (length J) J (omega arith) in
      ap outcome_decided true_vote.2
      ∙ decided_is_answered G C (after G M (take number J)) site true_vote.0
      ∙ ap (λ K. answer G C (after G M K) (Exec site true_vote.0)) beginning
      ∙ ap (answer G C (after G M J)) calls

  -- the call that is out has its entry with the graph's answer
  pub right_entry : (p : Proposal) (outcome : Outcome) → w.journal.out ≡ Some p → outcome ≡ answer G C (after G M w.journal.history.entries) p.call
      → IsRight G C M (with_journal w (with_entry w.journal (entry_of w.journal p outcome)))
  right_entry p outcome out answered =
      let j = with_entry w.journal (entry_of w.journal p outcome) in
      right_journal G C M w j right (entry_grows w.journal p outcome out)
      (sound_more G C M w.journal.history.entries right.sound (entry_of w.journal p outcome) (right.out p out) refl answered)
      (λ q none. absurd (none-some q none)) (gathered_none G C M j refl right_many)

  right_voted : (number site : ℕ) (d : Decision) → IsTrueAt G C M w.journal (Vote number site d) → (o : Option Execution) → execution_out w.journal ≡ o
      → IsRight G C M (with_journal w (voted w.journal number site d o))
  right_voted number site d true_vote None out = right
  right_voted number site d true_vote (Some p) out = by_number ((eqb number (length w.journal.history.entries)) && (eqb site p.site)) refl
    where
      by_number : (b : Bool) → (eqb number (length w.journal.history.entries) && eqb site p.site) ≡ b
          → IsRight G C M (with_journal w (cond b (with_entry w.journal (entry_of w.journal (execution p.session p.site p.event) (outcome_decided d))) w.journal))
      by_number false same = right
      by_number true same =
          let is = out_is w.journal p out in right_entry (execution p.session p.site p.event) (outcome_decided d) is (vote_answers number site d p is true_vote same)

  -- ---- any event

  right_delivered : (message : Message) → IsTrueAt G C M w.journal message → IsRight G C M (delivered G C w message)
  right_delivered (Ask number site event count) is = right_asked number site event count is (slice_get w.sites site) refl
  right_delivered (Vote number site d) is = right_voted number site d is (execution_out w.journal) refl
  right_delivered (Apply site index event) is = right_told site index event is (slice_get w.sites site) refl

  right_delivered_if : (k : ℕ) (o : Option Message) → slice_get w.sent k ≡ o → IsRight G C M (delivered_if G C w o)
  right_delivered_if k None is = right
  right_delivered_if k (Some message) is = right_delivered message (right.sent k message is)

  -- how many atoms the journal's alphabets are about
  pub right_atoms : atoms_of w.journal.alphabets ≡ G.atoms
  right_atoms =
      ap atoms_of right.alphabets
      ∙ ap (λ A. length A) (alphabet_row G C 0 (let some = right.is_case.some_site in omega arith))
      ∙ length-those G.atoms (in_alphabet G (row C 0))

  pub right_next : (event : WorldEvent) → IsEvent w event → IsRight G C M (happens G C w event)
  right_next (Propose session site event) is =
      right_proposal (execution session site event)
      ((let room = right.as_many in let below = is.1 in omega arith), (let atoms = right_atoms in let below = is.2 in omega arith))
      (is_free w.journal) refl
  right_next AskAgain is = right_question w.journal.out refl
  right_next (Item site index) is = right_item site index (slice_get (stream_of w.journal site) index) refl
  right_next (Deliver k) is = right_delivered_if k (slice_get w.sent k) refl
