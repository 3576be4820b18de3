-- Which values have a text: their numbers are those of sites and atoms that there are, and an outcome is of its call's kind.
use Rattle.std.specs.Prelude.{◌≡◌, ℕ, ◌<◌, Bool, true, false, length, ⊤}
use Rattle.dcr_graph.specs.Projection.{FitsAtoms}
use Rattle.dcr_journal.specs.Run.{IsInRange}
use Rattle.dcr_journal.specs.declared.call.Call.{Call}
use Rattle.dcr_journal.specs.declared.call.Call.TheVariants.{Exec, Look, Enabled, Accepting}
use Rattle.dcr_journal.specs.declared.call.Outcome.{Outcome}
use Rattle.dcr_journal.specs.declared.call.Outcome.TheVariants.{Done, NotHere, Excluded, Condition, Milestone, Faulted, Marks, Can, AllDone, Waits}
use Rattle.dcr_journal.specs.declared.call.Entry.{Entry}

-- the event that the outcome names is an atom, and the room of its sets is the number of atoms
abbrev pub FitsOutcome : ℕ → Outcome → Type 0
FitsOutcome atoms Done = ⊤
FitsOutcome atoms NotHere = ⊤
FitsOutcome atoms Excluded = ⊤
FitsOutcome atoms (Condition e) = e < atoms
FitsOutcome atoms (Milestone e) = e < atoms
FitsOutcome atoms Faulted = ⊤
FitsOutcome atoms (Marks mark) = FitsAtoms atoms mark.executed mark.pending mark.included
FitsOutcome atoms (Can set) = length set ≡ atoms
FitsOutcome atoms AllDone = ⊤
FitsOutcome atoms (Waits e) = e < atoms

-- an execution is answered by one of six outcomes
abbrev pub answers_exec : Outcome → Bool
answers_exec Done = true
answers_exec NotHere = true
answers_exec Excluded = true
answers_exec (Condition e) = true
answers_exec (Milestone e) = true
answers_exec Faulted = true
answers_exec _ = false

-- a look by marks
abbrev pub answers_look : Outcome → Bool
answers_look (Marks mark) = true
answers_look _ = false

-- the question what is enabled by a set
abbrev pub answers_enabled : Outcome → Bool
answers_enabled (Can set) = true
answers_enabled _ = false

-- the question whether the marking is accepting by a verdict
abbrev pub answers_accepting : Outcome → Bool
answers_accepting AllDone = true
answers_accepting (Waits e) = true
answers_accepting _ = false

-- the outcome is of the call's kind
abbrev pub is_of_kind : Call → Outcome → Bool
is_of_kind (Exec i e) outcome = answers_exec outcome
is_of_kind (Look i) outcome = answers_look outcome
is_of_kind (Enabled i) outcome = answers_enabled outcome
is_of_kind Accepting outcome = answers_accepting outcome

-- the call and the outcome name sites and atoms that there are, and the outcome is of the call's kind
pub record FitsEntry (sites atoms : ℕ) (entry : Entry) : Type 0 where
  pub call : IsInRange sites atoms entry.call
  pub kind : is_of_kind entry.call entry.outcome ≡ true
  pub outcome : FitsOutcome atoms entry.outcome
