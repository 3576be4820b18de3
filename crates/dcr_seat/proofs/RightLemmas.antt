-- A right journal goes on: by a proposal, a withdrawal, a true vote and a true answer.
use Rattle.std.proofs.Common.{◌≡◌, ◌<◌, List, [], length, map, Some, refl, sym, ap, subst, ◌∙◌, arith}
use Rattle.std.specs.Prelude.{slice_get}
use Rattle.std.specs.List.{range_with_len}
use Rattle.std.proofs.lemmas.List.{length-map}
use Rattle.std.proofs.lemmas.List.FromFn.{get_or-map-range_with_len, length-map-range_with_len}
use Rattle.std.proofs.lemmas.Option.{slice_get_within, get_or_from_slice_get, none-some}
use Rattle.dcr_set.specs.EventSet.{Set}
use Rattle.dcr_graph.specs.Rules.{Rules}
use Rattle.dcr_graph.specs.declared.marking.Marking.{Marking}
use Rattle.dcr_wire.specs.declared.answer.Answer.{Answer}
use Rattle.dcr_wire.specs.declared.message.Message.{Message}
use Rattle.dcr_wire.specs.declared.message.Message.TheVariants.{Ask, Vote, Apply}
use Rattle.dcr_node.specs.SiteState.{SiteState}
use Rattle.dcr_node.specs.JournalState.{JournalState, is_free, proposed, withdrawn, journal_step, answered_to}
use Rattle.dcr_node.specs.WorldState.{WorldState, site_at}
use Rattle.dcr_node.specs.Machine.{sending, with_journal, delivered_if, of_executions}
use Rattle.dcr_node.specs.Parts.{world_with}
use Rattle.dcr_node.specs.Right.{alphabet_of, IsTrueAt, IsNodeAt, IsOutAt, IsAnswerAt, IsRight}
use Rattle.dcr_node.specs.declared.event.WorldEvent.TheVariants.{Deliver}
use Rattle.dcr_node.specs.declared.journal_node.Proposal.{Proposal}
use Rattle.dcr_node.proofs.TruthLemmas.{slice_get_last}
use Rattle.dcr_node.proofs.RightLemmas.{right_sent, right_out, gathered_none}
use Rattle.dcr_node.proofs.AnsweredLemmas.{right_answered}
use Rattle.dcr_node.proofs.LawLemmas.{node_at_opening, right_comes}
use Rattle.dcr_talk.specs.Truth.{IsRightJournal}

-- the journal of a right world
right_of : (G : Rules) (C : List Set) (M : Marking) (w : WorldState) → IsRight G C M w → IsRightJournal G C M w.journal
right_of G C M w right = record { is_case = right.is_case; alphabets = right.alphabets; sound = right.sound; out = right.out; gathered = right.gathered }

module _ (G : Rules) (C : List Set) (M : Marking) (j : JournalState) (right : IsRightJournal G C M j) where
  -- the sites of all, which have heard of nothing
  abbrev begun : List SiteState
  begun = map (site_at G C M) (range_with_len 0 (length C))

  many : length begun ≡ length C
  many = length-map-range_with_len (site_at G C M) 0 (length C)

  -- the world of this journal and of these, where nothing was sent
  abbrev bare : WorldState
  bare = world_with M j begun [] [] []

  bare_is_right : IsRight G C M bare
  bare_is_right = record {
    is_case = right.is_case;
    opening = refl;
    alphabets = right.alphabets;
    sound = right.sound;
    out = right.out;
    as_many = many;
    sites = λ k node found.
        let within : k < length C = (let here : k < length begun = slice_get_within begun k node found in let room = many in omega arith) in
        let there : site_at G C M k ≡ node =
        sym (get_or-map-range_with_len (site_at G C M) 0 (length C) k k node within (omega arith)) ∙ get_or_from_slice_get begun k node node found in
        subst (IsNodeAt G C M j k) there (node_at_opening G C M j k);
    sent = λ k message none. absurd (none-some message none);
    gathered = right.gathered;
    questions = λ k q none. absurd (none-some q none);
    answers = λ k a none. absurd (none-some a none);
  }

  pub proposal_right : (p : Proposal) → IsOutAt G C p → IsRightJournal G C M (proposed j p)
  proposal_right p is = right_of G C M (with_journal bare (proposed j p)) (right_out G C M bare bare_is_right p is (is_free j) refl)

  pub withdrawal_right : IsRightJournal G C M (withdrawn j)
  withdrawal_right = record {
    is_case = right.is_case;
    alphabets = right.alphabets;
    sound = right.sound;
    out = λ p none. absurd (none-some p none);
    gathered = gathered_none G C M (withdrawn j) refl (ap (λ A. length A) right.alphabets ∙ length-map C (alphabet_of G));
  }

  pub vote_right : (message : Message) → IsTrueAt G C M j message → IsRightJournal G C M (journal_step j message)
  vote_right (Ask number site event count) is = right
  vote_right (Vote number site decision) is =
      let message : Message = Vote number site decision in
      let w : WorldState = sending bare (Some message) in
      let sent : IsRight G C M w = right_sent G C M bare message bare_is_right is in
      let next : IsRight G C M (delivered_if G C w (slice_get w.sent 0)) = right_comes G C M w sent (of_executions (Deliver 0)) tt in
      right_of G C M (with_journal w (journal_step j message)) (subst (λ o. IsRight G C M (delivered_if G C w o)) (slice_get_last [] message 0 refl) next)
  vote_right (Apply site index event) is = right

  pub answer_right : (a : Answer) → IsAnswerAt G C M j a → IsRightJournal G C M (answered_to j a)
  answer_right a is = right_of G C M (with_journal bare (answered_to j a)) (right_answered G C M bare bare_is_right a is)
