-- The outcome of a call has a text.
use Rattle.std.proofs.Common.{◌≡◌, ℕ, true, refl}
use Rattle.dcr_graph.specs.declared.kind.Cause.TheVariants.{Excluded, Condition, Milestone}
use Rattle.dcr_site.specs.declared.site.Decision.{Decision}
use Rattle.dcr_site.specs.declared.site.Decision.TheVariants.{NotHere, Blocked, Enabled}
use Rattle.dcr_journal.specs.Answer.{outcome_decided}
use Rattle.dcr_journal.specs.declared.call.Call.{Call}
use Rattle.dcr_journal.specs.declared.call.Call.TheVariants as call
use Rattle.dcr_journal.specs.declared.call.Outcome.TheVariants.{Faulted}
use Rattle.dcr_line.specs.Fits.{is_of_kind}
use Rattle.dcr_node.specs.JournalState.{IsWithin}
use Rattle.dcr_order.specs.Calling.{FitsCall}

-- what was decided
pub decided_fits : (atoms i e : ℕ) (decision : Decision) → IsWithin atoms decision → FitsCall atoms (call.Exec i e) (outcome_decided decision)
decided_fits atoms i e NotHere within = record { kind = refl; within = tt }
decided_fits atoms i e Enabled within = record { kind = refl; within = tt }
decided_fits atoms i e (Blocked Excluded) within = record { kind = refl; within = tt }
decided_fits atoms i e (Blocked (Condition c)) within = record { kind = refl; within = within }
decided_fits atoms i e (Blocked (Milestone m)) within = record { kind = refl; within = within }

pub fault_fits : (atoms i e : ℕ) → FitsCall atoms (call.Exec i e) Faulted
fault_fits atoms i e = record { kind = refl; within = tt }

-- an execution alone fails
pub fault_is_execution : (asked : Call) → is_of_kind asked Faulted ≡ true → (i e : ℕ) × (asked ≡ call.Exec i e)
fault_is_execution (call.Exec i e) kind = (i, e, refl)
fault_is_execution (call.Look i) kind = absurd cc
fault_is_execution (call.Enabled i) kind = absurd cc
fault_is_execution call.Accepting kind = absurd cc
