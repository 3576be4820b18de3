-- The entry that a call has made has a line.
use Rattle.std.proofs.Common.{◌≡◌, ℕ, List, [], ◌∷◌, ◌++◌, length, Option, Some, refl, sym, ap, subst, ◌∙◌}
use Rattle.std.specs.Prelude.{Result, Ok, Err, IfOk}
use Rattle.std.specs.List.{All}
use Rattle.std.proofs.lemmas.List.Elements.{All-pop}
use Rattle.dcr_journal.specs.Run.{IsInRange}
use Rattle.dcr_journal.specs.declared.call.Call.{Call}
use Rattle.dcr_journal.specs.declared.call.Entry.{Entry}
use Rattle.dcr_journal.specs.declared.call.Outcome.{Outcome}
use Rattle.dcr_json.specs.Built.{IsCase}
use Rattle.dcr_json.specs.declared.case.Case.{Case}
use Rattle.dcr_line.specs.Fits.{FitsEntry, FitsOutcome, is_of_kind}
use Rattle.dcr_report.proofs.LegalLemmas.{legal_entries}
use Rattle.dcr_tape.specs.declared.entry.TapeEntry.{TapeEntry}
use Rattle.dcr_tape.specs.declared.tape.Store.{Store}
use Rattle.dcr_turn.specs.PassValue.{PassValue}
use Rattle.dcr_turn.specs.Pushing.{entry_of}
use Rattle.dcr_cell.specs.ClusterId.{ClusterId, begun}
use Rattle.dcr_cluster.specs.Calls.{AnsweredAfter}
use Rattle.dcr_cluster.specs.declared.halt.Halt.{Halt}
use Rattle.dcr_cluster_rows.specs.Made.{cluster_of}

pub answer_fits : {D : Type 0} (case : Case) (old : List TapeEntry) (c : ClusterId) (first : Option (Store D)) (capacity : ℕ) (J : List Entry) (before after : PassValue) (call : Call)
    (outcome : Outcome) → c ≡ cluster_of case old → IsCase case → AnsweredAfter c first capacity J before after call outcome → (entry : Entry) → entry.call ≡ call → entry.outcome ≡ outcome
    → FitsEntry (length case.cover.names) (length case.graph.names) entry
answer_fits case old c first capacity J before after call outcome is fits answered entry same_call same_outcome =
    let k = cluster_of case old in
    let at : AnsweredAfter k first capacity J before after call outcome = subst (λ (d : ClusterId). AnsweredAfter d first capacity J before after call outcome) is answered in
    let last = entry_of before call outcome in
    let lines : All (FitsEntry (length k.owned) k.rules.atoms) (J ++ last ∷ []) =
    subst (λ (l : List Entry). All (FitsEntry (length k.owned) k.rules.atoms) l) at.front (legal_entries k.rules k.owned (begun k) after.front at.legal) in
    let line : FitsEntry (length k.owned) k.rules.atoms last = (All-pop (FitsEntry (length k.owned) k.rules.atoms) (J ++ last ∷ []) J (Some last) refl lines).1 in
    let sites : FitsEntry (length case.cover.names) (length case.graph.names) last =
    subst (λ n. FitsEntry n (length case.graph.names) last) fits.accepted_cover.is_cover.as_many line in
    record {
      call = subst (IsInRange (length case.cover.names) (length case.graph.names)) (sym same_call) sites.call;
      kind = ap (λ (x : Call). is_of_kind x entry.outcome) same_call ∙ ap (λ (x : Outcome). is_of_kind call x) same_outcome ∙ sites.kind;
      outcome = subst (FitsOutcome (length case.graph.names)) (sym same_outcome) sites.outcome;
    }

-- and so has that of a call, where it was answered
pub told_fits : {D : Type 0} (case : Case) (old : List TapeEntry) (c : ClusterId) (first : Option (Store D)) (capacity : ℕ) (before after : PassValue) (call : Call)
    (answer : Result Outcome Halt) → c ≡ cluster_of case old → IsCase case → IfOk answer (λ outcome. (J : List Entry) × AnsweredAfter c first capacity J before after call outcome)
    → IfOk answer (λ outcome. (entry : Entry) → entry.call ≡ call → entry.outcome ≡ outcome → FitsEntry (length case.cover.names) (length case.graph.names) entry)
told_fits case old c first capacity before after call (Ok outcome) is fits answered =
    answer_fits case old c first capacity answered.0 before after call outcome is fits answered.1
told_fits case old c first capacity before after call (Err halt) is fits none = none
