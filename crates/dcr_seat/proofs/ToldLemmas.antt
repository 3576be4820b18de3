-- What a site was told stays true as the journal grows, and so is what it is told next.
use Rattle.std.proofs.Common.{◌≡◌, ℕ, zero, suc, ◌+◌, ◌<◌, ◌≤◌, List, [], ◌∷◌, ◌++◌, length, get_or, map, Option, Some, refl, sym, ap, subst, ◌∙◌, append_assoc, arith}
use Rattle.std.specs.Option.{option_map, option_to_list}
use Rattle.std.proofs.lemmas.List.{append-nil, map-append}
use Rattle.std.proofs.lemmas.List.Elements.{All-nil, All-cons, All-append}
use Rattle.std.proofs.lemmas.List.FromFn.{map-range_with_len_more}
use Rattle.std.proofs.lemmas.Option.{slice_get-get_or}
use Rattle.dcr_set.specs.EventSet.{Set}
use Rattle.dcr_graph.specs.Rules.{Rules}
use Rattle.dcr_graph.specs.declared.marking.Marking.{Marking}
use Rattle.dcr_journal.specs.declared.call.Entry.{Entry}
use Rattle.dcr_journal.specs.declared.call.Outcome.{Outcome}
use Rattle.dcr_wire.specs.Laws.{Sent, sent_message, sent_question, sent_answer}
use Rattle.dcr_wire.specs.declared.message.Message.TheVariants.{Apply}
use Rattle.dcr_node.specs.JournalState.{JournalState, asked_by, entry_of, stream_of, withdrawn, with_entry, with_out}
use Rattle.dcr_node.specs.declared.journal_node.Proposal.{Proposal}
use Rattle.dcr_node.proofs.TruthLemmas.{Grows, truth_kept, question_kept, answer_kept}
use Rattle.dcr_talk.specs.Truth.{IsTrueSent, AreTrue}
use Rattle.dcr_seat.specs.InStep.{executions_in, IsNext, told_of, AreTold}
use Rattle.dcr_seat.proofs.InStepLemmas.{executions_more, in_step_none, in_step_push}

-- ---- the journal grows

module _ (before after : JournalState) (grows : Grows before after) (G : Rules) (C : List Set) (M : Marking) where
  sent_kept : (one : Sent) → IsTrueSent G C M before one → IsTrueSent G C M after one
  sent_kept (sent_message message) is = truth_kept before after grows G C M message is
  sent_kept (sent_question question) is = question_kept before after grows question is
  sent_kept (sent_answer answer) is = answer_kept before after grows G C M answer is

  pub true_kept : (all : List Sent) → AreTrue G C M before all → AreTrue G C M after all
  true_kept all are = λ k d below. sent_kept (get_or all k d) (are k d below)

-- with nothing out, entries at the end are all that is new
pub rest_grows : (before after : JournalState) (more : List Entry) → after.alphabets ≡ before.alphabets → after.history.entries ≡ before.history.entries ++ more
    → Grows (withdrawn before) (withdrawn after)
rest_grows before after more alphabets entries = record {
  alphabets = alphabets;
  new_entries = more;
  entries = entries;
  new_asked = map (λ (entry : Entry). entry.call) more;
  calls =
      let calls = λ (J : List Entry). map (λ (entry : Entry). entry.call) J in
      append-nil (calls after.history.entries)
      ∙ ap calls entries
      ∙ map-append (λ (entry : Entry). entry.call) before.history.entries more
      ∙ ap (λ cs. cs ++ calls more) (sym (append-nil (calls before.history.entries)));
}

pub told_kept : (G : Rules) (C : List Set) (M : Marking) (before after : JournalState) (more : List Entry) (i told : ℕ) (all : List Sent) → after.alphabets ≡ before.alphabets
    → after.history.entries ≡ before.history.entries ++ more → AreTold G C M before i told all → AreTold G C M after i told all
told_kept G C M before after more i told all alphabets entries are = record {
  in_step = are.in_step;
  many = are.many;
  are_true = true_kept (withdrawn before) (withdrawn after) (rest_grows before after more alphabets entries) G C M all are.are_true;
}

-- a call that is put out is one more that was asked
pub out_grows : (j : JournalState) (p : Proposal) → Grows (withdrawn j) (with_out j p)
out_grows j p =
    let calls : List _ = map (λ (entry : Entry). entry.call) j.history.entries in
    record {
      alphabets = refl;
      new_entries = [];
      entries = sym (append-nil j.history.entries);
      new_asked = p.call ∷ [];
      calls = ap (λ cs. cs ++ p.call ∷ []) (sym (append-nil calls));
    }

-- and its entry is of it
pub entered_grows : (j : JournalState) (p : Proposal) (outcome : Outcome) → j.out ≡ Some p → Grows j (withdrawn (with_entry j (entry_of j p outcome)))
entered_grows j p outcome out =
    let calls : List _ = map (λ (entry : Entry). entry.call) j.history.entries in
    record {
      alphabets = refl;
      new_entries = entry_of j p outcome ∷ [];
      entries = refl;
      new_asked = [];
      calls =
          append-nil (map (λ (entry : Entry). entry.call) (j.history.entries ++ entry_of j p outcome ∷ []))
          ∙ map-append (λ (entry : Entry). entry.call) j.history.entries (entry_of j p outcome ∷ [])
          ∙ sym (append-nil (calls ++ option_to_list (option_map (λ (q : Proposal). (asked_by q).1) j.out))
          ∙ ap (λ (o : Option Proposal). calls ++ option_to_list (option_map (λ (q : Proposal). (asked_by q).1) o)) out);
    }

-- ---- what is told next

pub told_none : (G : Rules) (C : List Set) (M : Marking) (j : JournalState) (i : ℕ) → AreTold G C M j i 0 []
told_none G C M j i = record { in_step = in_step_none i; many = refl; are_true = All-nil (IsTrueSent G C M (withdrawn j)) }

module _ (G : Rules) (C : List Set) (M : Marking) (j : JournalState) (i : ℕ) where
  one_more : (told : ℕ) (all : List Sent) → AreTold G C M j i told all → told < length (stream_of j i)
      → AreTold G C M j i (told + 1) (all ++ sent_message (Apply i told (get_or (stream_of j i) told 0)) ∷ [])
  one_more told all are below =
      let event = get_or (stream_of j i) told 0 in
      let one = sent_message (Apply i told event) in
      let more = executions_more all (one ∷ []) in
      let had = are.many in
      record {
        in_step = in_step_push i all one are.in_step (refl, had);
        many = omega arith;
        are_true = All-append (IsTrueSent G C M (withdrawn j)) all (one ∷ []) are.are_true
            (All-cons (IsTrueSent G C M (withdrawn j)) one [] (slice_get-get_or (stream_of j i) told 0 below) (All-nil (IsTrueSent G C M (withdrawn j))));
      }

  -- the executions that come next
  pub told_more : (told count : ℕ) (all : List Sent) → AreTold G C M j i told all → told + count ≤ length (stream_of j i)
      → AreTold G C M j i (told + count) (all ++ told_of j i told count)
  told_more told zero all are within =
      subst (λ (n : ℕ). AreTold G C M j i n (all ++ [])) (let same : told ≡ told + zero = omega arith in same) (subst (AreTold G C M j i told) (sym (append-nil all)) are)
  told_more told (suc count) all are within =
      let f : ℕ → Sent = λ k. sent_message (Apply i k (get_or (stream_of j i) k 0)) in
      let next = one_more (told + count) (all ++ told_of j i told count) (told_more told count all are (omega arith)) (omega arith) in
      let same : (all ++ told_of j i told count) ++ f (told + count) ∷ [] ≡ all ++ told_of j i told (suc count) =
      append_assoc all (told_of j i told count) (f (told + count) ∷ [])
      ∙ ap (λ more. all ++ more) (sym (map-range_with_len_more f told count (told + count) refl) ∙ ap (λ n. told_of j i told n) (let up : count + 1 ≡ suc count = omega arith in up)) in
      subst (AreTold G C M j i (told + suc count)) same
      (subst (λ n. AreTold G C M j i n ((all ++ told_of j i told count) ++ f (told + count) ∷ [])) (let up : (told + count) + 1 ≡ told + suc count = omega arith in up) next)

  -- a true question at the count
  pub told_question : (told : ℕ) (all : List Sent) (one : Sent) → AreTold G C M j i told all → IsNext i told one → executions_in (one ∷ []) ≡ 0 → IsTrueSent G C M (withdrawn j) one
      → AreTold G C M j i told (all ++ one ∷ [])
  told_question told all one are next none is =
      let more = executions_more all (one ∷ []) in
      let had = are.many in
      record {
        in_step = in_step_push i all one are.in_step (subst (λ n. IsNext i n one) had next);
        many = omega arith;
        are_true = All-append (IsTrueSent G C M (withdrawn j)) all (one ∷ []) are.are_true (All-cons (IsTrueSent G C M (withdrawn j)) one [] is (All-nil (IsTrueSent G C M (withdrawn j))));
      }
