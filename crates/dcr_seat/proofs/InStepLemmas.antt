-- What a site is told in step, and how many answers its machine gives to it.
use Rattle.std.proofs.Common.{◌≡◌, ℕ, zero, suc, ◌+◌, Bool, true, false, not, cond, eqb, List, [], ◌∷◌, ◌++◌, length, get_or, map, take, Some, None, inl, inr, refl, sym, ap, subst, ◌∙◌, append_assoc, arith}
use Rattle.std.specs.Prelude.{slice_get}
use Rattle.std.specs.Option.{option_to_list}
use Rattle.std.proofs.lemmas.Bool.{eq-eqb, and_from}
use Rattle.std.proofs.lemmas.List.{length-append, take-append-le}
use Rattle.std.proofs.lemmas.List.Sums.{sum_by-append, sum_by-cons}
use Rattle.std.proofs.lemmas.Option.{slice_get_within, slice_get-get_or}
use Rattle.std.proofs.Math.Seq.{take-append_seam, get_or-append_seam}
use Rattle.dcr_set.specs.EventSet.{Set}
use Rattle.dcr_set.proofs.ListLemmas.{push_cases}
use Rattle.dcr_graph.specs.Rules.{Rules}
use Rattle.dcr_graph.specs.Projection.{local_step}
use Rattle.dcr_wire.specs.Laws.{Sent, sent_message, sent_question, sent_answer}
use Rattle.dcr_wire.specs.declared.message.Message.TheVariants.{Ask, Vote, Apply}
use Rattle.dcr_node.specs.SiteState.{SiteState, is_ready, decision_at, answer_at, heard_one}
use Rattle.dcr_node.specs.JournalState.{JournalState, stream_of}
use Rattle.dcr_talk.specs.Talk.{told_to, stepped, told_by}
use Rattle.dcr_seat.specs.InStep.{is_execution, executions_in, questions_in, IsNext, AreInStep, told_of}

-- ---- what is put at the end

pub there : {X : Type 0} (front : List X) (x : X) (more : List X) → slice_get (front ++ x ∷ more) (length front) ≡ Some x
there front x more =
    let long = length-append front (x ∷ more) in
    slice_get-get_or (front ++ x ∷ more) (length front) x (omega arith) ∙ ap Some (get_or-append_seam front x more x)

-- one of these is counted or not
one_counted : (b : Bool) → 0 + cond {A = ℕ} b 1 0 ≡ cond {A = ℕ} b 1 0
one_counted true = refl
one_counted false = refl

pub executions_more : (asked more : List Sent) → executions_in (asked ++ more) ≡ executions_in asked + executions_in more
executions_more asked more = sum_by-append (λ (one : Sent). cond {A = ℕ} (is_execution one) 1 0) asked more

pub questions_more : (asked more : List Sent) → questions_in (asked ++ more) ≡ questions_in asked + questions_in more
questions_more asked more = sum_by-append (λ (one : Sent). cond {A = ℕ} (not (is_execution one)) 1 0) asked more

-- of executions nothing is to be answered
pub told_of_asks_nothing : (j : JournalState) (i from count : ℕ) → questions_in (told_of j i from count) ≡ 0
told_of_asks_nothing j i from zero = refl
told_of_asks_nothing j i from (suc count) =
    let first = sent_message (Apply i from (get_or (stream_of j i) from 0)) in
    let rest = told_of_asks_nothing j i (from + 1) count in
    let all : questions_in (first ∷ told_of j i (from + 1) count) ≡ 0 + questions_in (told_of j i (from + 1) count) =
    sum_by-cons (λ (one : Sent). cond {A = ℕ} (not (is_execution one)) 1 0) first (told_of j i (from + 1) count) in
    omega arith

-- ---- in step

pub in_step_none : (i : ℕ) → AreInStep i []
in_step_none i = λ k one none. absurd (slice_get_nothing k one none)
  where
    slice_get_nothing : (k : ℕ) (one : Sent) → slice_get [] k ≡ Some one → ⊥
    slice_get_nothing k one is = let within = slice_get_within [] k one is in omega arith

pub in_step_push : (i : ℕ) (asked : List Sent) (one : Sent) → AreInStep i asked → IsNext i (executions_in asked) one → AreInStep i (asked ++ one ∷ [])
in_step_push i asked one before next = λ k found is. elim (push_cases asked one k found is) [
  | inl at ↦
      let all : take k (asked ++ one ∷ []) ≡ asked = ap (λ n. take n (asked ++ one ∷ [])) at.0 ∙ take-append_seam asked (one ∷ []) in
      subst (λ (x : Sent). IsNext i (executions_in (take k (asked ++ one ∷ []))) x) (sym at.1) (subst (λ (front : List Sent). IsNext i (executions_in front) one) (sym all) next)
  | inr old ↦
      let within = slice_get_within asked k found old in
      subst (λ (front : List Sent). IsNext i (executions_in front) found) (sym (take-append-le k asked (one ∷ []) (omega arith))) (before k found old)
]

-- ---- how much is answered

ready_at : (node : SiteState) (site count : ℕ) → site ≡ node.id → count ≡ node.count → is_ready node site count ≡ true
ready_at node site count same here = and_from (eqb site node.id) (eqb count node.count) (eq-eqb site node.id same) (eq-eqb count node.count here)

module _ (G : Rules) (S : Set) (i : ℕ) where
  -- of what is next, a question is answered once and an execution is counted
  record Follows (node next : SiteState) (said : List Sent) (one : Sent) : Type 0 where
    pub said_one : length said ≡ cond {A = ℕ} (not (is_execution one)) 1 0
    pub id : next.id ≡ node.id
    pub count : next.count ≡ node.count + cond {A = ℕ} (is_execution one) 1 0

  follows : (node : SiteState) (one : Sent) → node.id ≡ i → IsNext i node.count one → Follows node (stepped G S node one) (told_to G S node one) one
  follows node (sent_message (Ask number site event count)) own next =
      let ready = ready_at node site count (next.0 ∙ sym own) next.1 in
      record {
        said_one = ap (λ (b : Bool). length (map sent_message (option_to_list (cond b (Some (Vote number site (decision_at G S node.site.mark event))) None)))) ready;
        id = refl;
        count = omega arith;
      }
  follows node (sent_message (Vote number site decision)) own next = absurd next
  follows node (sent_message (Apply site index event)) own next =
      let ready = ready_at node site index (next.0 ∙ sym own) next.1 in
      record {
        said_one = refl;
        id = ap (λ (b : Bool). (cond b (heard_one node (local_step G S node.site.mark event)) node).id) ready;
        count = ap (λ (b : Bool). (cond b (heard_one node (local_step G S node.site.mark event)) node).count) ready;
      }
  follows node (sent_question q) own next =
      let ready = ready_at node q.site q.count (next.0 ∙ sym own) next.1 in
      record {
        said_one = ap (λ (b : Bool). length (map sent_answer (option_to_list (cond b (Some (answer_at G S node q)) None)))) ready;
        id = refl;
        count = omega arith;
      }
  follows node (sent_answer a) own next = absurd next

  pub as_many : (before rest : List Sent) (node : SiteState) → AreInStep i (before ++ rest) → node.id ≡ i → node.count ≡ executions_in before
      → length (told_by G S node rest) ≡ questions_in rest
  unfolding told_by
  as_many before [] node in_step own count = refl
  as_many before (one ∷ rest) node in_step own count =
      let here = in_step (length before) one (there before one rest) in
      let next : IsNext i node.count one =
      subst (λ (n : ℕ). IsNext i n one) (ap executions_in (take-append_seam before (one ∷ rest)) ∙ sym count) here in
      let f = follows node one own next in
      let further = before ++ one ∷ [] in
      let same : further ++ rest ≡ before ++ one ∷ rest = append_assoc before (one ∷ []) rest in
      let counted : executions_in further ≡ executions_in before + executions_in (one ∷ []) = executions_more before (one ∷ []) in
      let one_is : executions_in (one ∷ []) ≡ cond {A = ℕ} (is_execution one) 1 0 = one_counted (is_execution one) in
      let all = as_many further rest (stepped G S node one) (subst (λ (xs : List Sent). AreInStep i xs) (sym same) in_step) (f.id ∙ own) (let c = f.count in omega arith) in
      let long = length-append (told_to G S node one) (told_by G S (stepped G S node one) rest) in
      let said = f.said_one in
      let asks : questions_in (one ∷ rest) ≡ cond {A = ℕ} (not (is_execution one)) 1 0 + questions_in rest = sum_by-cons (λ (x : Sent). cond {A = ℕ} (not (is_execution x)) 1 0) one rest in
      omega arith
