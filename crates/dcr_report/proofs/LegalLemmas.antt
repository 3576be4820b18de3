-- The entries of a legal history have lines: an answer is of its call's kind, and names atoms alone.
use Rattle.std.proofs.Common.{◌≡◌, inl, inr, ℕ, ◌<◌, Bool, true, false, if◌then◌else◌, List, Option, Some, None, length, get_or, refl, sym, ap, subst, ◌∙◌}
use Rattle.std.specs.List.{All}
use Rattle.std.proofs.lemmas.Option.{slice_get-get_or}
use Rattle.dcr_set.specs.EventSet.{Set, has}
use Rattle.dcr_set.specs.Least.{least}
use Rattle.dcr_set.proofs.LeastLemmas.{least-some}
use Rattle.dcr_set.proofs.SetLemmas.{length-those}
use Rattle.dcr_graph.specs.Rules.{Rules}
use Rattle.dcr_graph.specs.Rows.{row}
use Rattle.dcr_graph.specs.Cause.{cause, waits, is_open_condition, is_pending_milestone}
use Rattle.dcr_graph.specs.Projection.{project, FitsAtoms}
use Rattle.dcr_graph.specs.declared.kind.Cause.{Cause}
use Rattle.dcr_graph.specs.declared.kind.Cause.TheVariants as why
use Rattle.dcr_graph.specs.declared.marking.Marking.{Marking}
use Rattle.dcr_graph.proofs.CauseLemmas.{first_block}
use Rattle.dcr_journal.specs.Answer.{answer, outcome_of, verdict_of}
use Rattle.dcr_journal.specs.Run.{IsLegal, IsLegalAt}
use Rattle.dcr_journal.specs.declared.call.Call.{Call}
use Rattle.dcr_journal.specs.declared.call.Call.TheVariants.{Exec, Look, Enabled, Accepting}
use Rattle.dcr_journal.specs.declared.call.Outcome.TheVariants.{Done, NotHere, Faulted}
use Rattle.dcr_journal.specs.declared.call.Entry.{Entry}
use Rattle.dcr_line.specs.Fits.{FitsEntry, FitsOutcome, answers_exec, answers_accepting, is_of_kind}

tells_exec : (o : Option Cause) → answers_exec (outcome_of o) ≡ true
tells_exec None = refl
tells_exec (Some why.Excluded) = refl
tells_exec (Some (why.Condition c)) = refl
tells_exec (Some (why.Milestone m)) = refl

tells_owned : (owned : Bool) (o : Option Cause) → answers_exec (if owned then outcome_of o else NotHere) ≡ true
tells_owned true o = tells_exec o
tells_owned false o = refl

tells_verdict : (o : Option ℕ) → answers_accepting (verdict_of o) ≡ true
tells_verdict None = refl
tells_verdict (Some e) = refl

-- an answer is of its call's kind
pub answer-kind : (G : Rules) (C : List Set) (M : Marking) (call : Call) → is_of_kind call (answer G C M call) ≡ true
answer-kind G C M (Exec i e) = tells_owned (has (row C i) e) (cause G M e)
answer-kind G C M (Look i) = refl
answer-kind G C M (Enabled i) = refl
answer-kind G C M Accepting = tells_verdict (waits G.atoms M)

-- what is found among n numbers is below n
abbrev pub IsBelow : ℕ → Option ℕ → Type 0
IsBelow n found = (k : ℕ) → found ≡ Some k → k < n

least-below : (n : ℕ) (p : ℕ → Bool) → IsBelow n (least n p)
least-below n p k e = (least-some n p k e).below

block_fits : (n : ℕ) (condition milestone : Option ℕ) → IsBelow n condition → IsBelow n milestone → FitsOutcome n (outcome_of (first_block condition milestone))
block_fits n (Some c) milestone below_c below_m = below_c c refl
block_fits n None (Some m) below_c below_m = below_m m refl
block_fits n None None below_c below_m = tt

cause_fits : (n : ℕ) (included : Bool) (o : Option Cause) → FitsOutcome n (outcome_of o) → FitsOutcome n (outcome_of (if included then o else Some why.Excluded))
cause_fits n true o fits = fits
cause_fits n false o fits = tt

owned_fits : (n : ℕ) (owned : Bool) (o : Option Cause) → FitsOutcome n (outcome_of o) → FitsOutcome n (if owned then outcome_of o else NotHere)
owned_fits n true o fits = fits
owned_fits n false o fits = tt

verdict_fits : (n : ℕ) (o : Option ℕ) → IsBelow n o → FitsOutcome n (verdict_of o)
verdict_fits n None below = tt
verdict_fits n (Some e) below = below e refl

-- the marks of a site have a place for each atom
pub marks_fit : (G : Rules) (S : Set) (M : Marking) → FitsAtoms G.atoms (project G S M).executed (project G S M).pending (project G S M).included
marks_fit G S M = record { executed = length-those G.atoms _; pending = length-those G.atoms _; included = length-those G.atoms _ }

-- what is waited for is an atom
pub waits-below : (n : ℕ) (M : Marking) → IsBelow n (waits n M)
waits-below n M = least-below n _

-- an answer names atoms, and its sets have a place for each
pub answer_fits : (G : Rules) (C : List Set) (M : Marking) (call : Call) → FitsOutcome G.atoms (answer G C M call)
answer_fits G C M (Exec i e) =
    owned_fits G.atoms (has (row C i) e) (cause G M e)
    (cause_fits G.atoms (has M.included e) (first_block (least G.atoms (is_open_condition G M e)) (least G.atoms (is_pending_milestone G M e)))
    (block_fits G.atoms (least G.atoms (is_open_condition G M e)) (least G.atoms (is_pending_milestone G M e)) (least-below G.atoms (is_open_condition G M e)) (least-below G.atoms (is_pending_milestone G M e))))
answer_fits G C M (Look i) = marks_fit G (row C i) M
answer_fits G C M (Enabled i) = length-those G.atoms _
answer_fits G C M Accepting = verdict_fits G.atoms (waits G.atoms M) (waits-below G.atoms M)

-- a call that may be answered by done may be answered by a fault
fault-kind : (call : Call) → is_of_kind call Done ≡ true → is_of_kind call Faulted ≡ true
fault-kind (Exec i e) done = refl
fault-kind (Look i) done = done
fault-kind (Enabled i) done = done
fault-kind Accepting done = done

-- an entry of a legal history has a line
pub legal_entry : (G : Rules) (C : List Set) (M : Marking) (J : List Entry) (place : ℕ) (entry : Entry) → IsLegalAt G C M J place entry → FitsEntry (length C) G.atoms entry
legal_entry G C M J place entry legal = elim legal.outcome [
  | inl told ↦ record {
    call = legal.in_range;
    kind = ap (is_of_kind entry.call) told ∙ answer-kind G C _ entry.call;
    outcome = subst (FitsOutcome G.atoms) (sym told) (answer_fits G C _ entry.call);
  }
  | inr fault ↦ record {
    call = legal.in_range;
    kind = ap (is_of_kind entry.call) fault.outcome ∙ fault-kind entry.call (ap (is_of_kind entry.call) (sym fault.possible) ∙ answer-kind G C _ entry.call);
    outcome = subst (FitsOutcome G.atoms) (sym fault.outcome) tt;
  }
]

-- the entries of a legal history have lines
pub legal_entries : (G : Rules) (C : List Set) (M : Marking) (J : List Entry) → IsLegal G C M J → All (FitsEntry (length C) G.atoms) J
legal_entries G C M J legal = λ k d within. legal_entry G C M J k (get_or J k d) (legal k (get_or J k d) (slice_get-get_or J k d within))
