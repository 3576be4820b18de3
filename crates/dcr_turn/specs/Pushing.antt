-- What a push asks, and what it adds.
use Rattle.std.specs.Prelude.{◌≡◌, ℕ, ◌-◌, ◌==◌, Bool, true, false, List, [], ◌∷◌, length, slice_get, slice_index_or, Some, if◌then◌else◌}
use Rattle.std.specs.Option.{option_map_or}
use Rattle.std.specs.List.{Contains}
use Rattle.dcr_set.specs.EventSet.{Set, has}
use Rattle.dcr_journal.specs.Run.{event_done}
use Rattle.dcr_journal.specs.declared.call.Call.{Call}
use Rattle.dcr_journal.specs.declared.call.Outcome.{Outcome}
use Rattle.dcr_journal.specs.declared.call.Outcome.TheVariants.{Faulted}
use Rattle.dcr_journal.specs.declared.call.Entry.{Entry}
use Rattle.dcr_turn.specs.PassValue.{PassValue}

-- whether keeping an execution failed
abbrev pub is_fault : Outcome → Bool
is_fault Faulted = true
is_fault outcome = false

-- whether the list ends with a fault
abbrev pub ends_in_fault : List Entry → Bool
ends_in_fault J = option_map_or (λ (entry : Entry). is_fault entry.outcome) (slice_get J (length J - 1)) false

-- the list doesn't end with a fault
abbrev pub EndsWithoutFault : List Entry → Type 0
EndsWithoutFault J = (entry : Entry) → slice_get J (length J - 1) ≡ Some entry → ¬ (entry.outcome ≡ Faulted)

-- where the call with its outcome is an execution that was done, each site whose alphabet has the event is among these
abbrev pub AllHear : List Set → List ℕ → Call → Outcome → Type 0
AllHear alphabets sites call outcome =
    (event : ℕ) → event_done call outcome ≡ Some event → (i : ℕ) → has (slice_index_or alphabets i []) event ≡ true → Contains sites i

-- the entry of a pass
abbrev pub entry_of : PassValue → Call → Outcome → Entry
entry_of pass call outcome = record { session = pass.session; seq = pass.made; call = call; outcome = outcome }

-- the list without the first of this number
abbrev pub without_first : ℕ → List ℕ → List ℕ
without_first i [] = []
without_first i (j ∷ js) = if i == j then js else j ∷ without_first i js
