-- A run in which nothing failed goes on by an entry that is answered, or ends with a fault.
use Rattle.std.proofs.Common.{◌≡◌, ◌⊎◌, ℕ, ◌<◌, Bool, true, false, List, [], ◌∷◌, ◌++◌, length, take, Option, Some, None, inl, inr, cond, refl, sym, ap, subst, ◌∙◌, arith}
use Rattle.std.specs.Prelude.{slice_get}
use Rattle.std.proofs.lemmas.List.{length-append, take_at, take-append-le}
use Rattle.std.proofs.lemmas.List.Elements.{All-nil, All-push}
use Rattle.std.proofs.lemmas.Option.{slice_get_within, get_or_from_slice_get}
use Rattle.dcr_set.specs.EventSet.{Set, has}
use Rattle.dcr_set.proofs.ListLemmas.{push_cases}
use Rattle.dcr_graph.specs.Cause.{cause, waits}
use Rattle.dcr_graph.specs.Rows.{row}
use Rattle.dcr_graph.specs.Rules.{Rules}
use Rattle.dcr_graph.specs.declared.kind.Cause.{Cause}
use Rattle.dcr_graph.specs.declared.kind.Cause.TheVariants as why
use Rattle.dcr_graph.specs.declared.marking.Marking.{Marking}
use Rattle.dcr_journal.specs.Answer.{answer, outcome_of, verdict_of}
use Rattle.dcr_journal.specs.Run.{IsInRange, IsLastFault, IsLegalAt, IsLegal, IsSound, after, made_by}
use Rattle.dcr_journal.specs.declared.call.Call.{Call}
use Rattle.dcr_journal.specs.declared.call.Call.TheVariants.{Exec, Look, Enabled, Accepting}
use Rattle.dcr_journal.specs.declared.call.Entry.{Entry}
use Rattle.dcr_journal.specs.declared.call.Outcome.TheVariants.{Done, Faulted, NotHere}

-- ---- no answer is a fault

told_no_fault : (owned : Bool) (found : Option Cause) → cond owned (outcome_of found) NotHere ≡ Faulted → ⊥
told_no_fault false found is = absurd cc
told_no_fault true None is = absurd cc
told_no_fault true (Some why.Excluded) is = absurd cc
told_no_fault true (Some (why.Condition c)) is = absurd cc
told_no_fault true (Some (why.Milestone m)) is = absurd cc

verdict_no_fault : (a : Option ℕ) → verdict_of a ≡ Faulted → ⊥
verdict_no_fault None is = absurd cc
verdict_no_fault (Some a) is = absurd cc

pub answer_no_fault : (G : Rules) (C : List Set) (N : Marking) (call : Call) → answer G C N call ≡ Faulted → ⊥
answer_no_fault G C N (Exec i e) is = told_no_fault (has (row C i) e) (cause G N e) is
answer_no_fault G C N (Look i) is = absurd cc
answer_no_fault G C N (Enabled i) is = absurd cc
answer_no_fault G C N Accepting is = verdict_no_fault (waits G.atoms N) is

-- ---- one entry more

pub sound_none : (G : Rules) (C : List Set) (M : Marking) → IsSound G C M []
sound_none G C M = record {
  legal = λ place entry is. absurd (let below : place < 0 = slice_get_within [] place entry is in omega arith);
  no_fault = All-nil (λ (entry : Entry). entry.outcome ≡ Faulted → ⊥);
}

module _ (G : Rules) (C : List Set) (M : Marking) (J : List Entry) (sound : IsSound G C M J) (next : Entry) where
  -- an entry of J isn't a fault
  unfaulted : (place : ℕ) (entry : Entry) → slice_get J place ≡ Some entry → entry.outcome ≡ Faulted → ⊥
  unfaulted place entry is =
      let P : Entry → Type 0 = λ e. e.outcome ≡ Faulted → ⊥ in
      subst P (get_or_from_slice_get J place entry entry is) (sound.no_fault place entry (slice_get_within J place entry is))

  outcome_kept : (place : ℕ) (entry : Entry) → slice_get J place ≡ Some entry → take place (J ++ next ∷ []) ≡ take place J
      → (entry.outcome ≡ answer G C (after G M (take place J)) entry.call) ⊎ IsLastFault G C M J place entry
      → (entry.outcome ≡ answer G C (after G M (take place (J ++ next ∷ []))) entry.call) ⊎ IsLastFault G C M (J ++ next ∷ []) place entry
  outcome_kept place entry is same (inl answered) = inl (answered ∙ ap (λ L. answer G C (after G M L) entry.call) (sym same))
  outcome_kept place entry is same (inr fault) = absurd (unfaulted place entry is fault.outcome)

  -- what was legal stays so
  legal_kept : (place : ℕ) (entry : Entry) → slice_get J place ≡ Some entry → IsLegalAt G C M (J ++ next ∷ []) place entry
  legal_kept place entry is =
      let at = sound.legal place entry is in
      let within : place < length J = slice_get_within J place entry is in
      let same : take place (J ++ next ∷ []) ≡ take place J = take-append-le place J (next ∷ []) (omega arith) in
      record { in_range = at.in_range; seq = at.seq ∙ ap (made_by entry.session) (sym same); outcome = outcome_kept place entry is same at.outcome }

  -- an entry that is legal behind J makes a legal list
  legal_next : IsLegalAt G C M (J ++ next ∷ []) (length J) next → IsLegal G C M (J ++ next ∷ [])
  legal_next here place entry is = elim (push_cases J next place entry is) [
    | inl at ↦ subst (IsLegalAt G C M (J ++ next ∷ []) place) (sym at.1) (subst (λ p. IsLegalAt G C M (J ++ next ∷ []) p next) (sym at.0) here)
    | inr old ↦ legal_kept place entry old
  ]

  before_next : take (length J) (J ++ next ∷ []) ≡ J
  before_next = take_at J (next ∷ []) (length J) refl

  -- an answered entry
  pub sound_more : IsInRange (length C) G.atoms next.call → next.seq ≡ made_by next.session J → next.outcome ≡ answer G C (after G M J) next.call → IsSound G C M (J ++ next ∷ [])
  sound_more in_range seq answered = record {
    legal = legal_next (record {
      in_range = in_range;
      seq = seq ∙ ap (made_by next.session) (sym before_next);
      outcome = inl (answered ∙ ap (λ L. answer G C (after G M L) next.call) (sym before_next));
    });
    no_fault = All-push (λ (entry : Entry). entry.outcome ≡ Faulted → ⊥) J next sound.no_fault (λ fault. answer_no_fault G C (after G M J) next.call (sym answered ∙ fault));
  }

  -- an execution that could have been done, and failed
  pub legal_fault : IsInRange (length C) G.atoms next.call → next.seq ≡ made_by next.session J → answer G C (after G M J) next.call ≡ Done → next.outcome ≡ Faulted → IsLegal G C M (J ++ next ∷ [])
  legal_fault in_range seq possible fault = legal_next (record {
    in_range = in_range;
    seq = seq ∙ ap (made_by next.session) (sym before_next);
    outcome = inr (record {
      outcome = fault;
      possible = ap (λ L. answer G C (after G M L) next.call) before_next ∙ possible;
      last = sym (length-append J (next ∷ []));
    });
  })
