-- What a call makes of the journal apart.
use Rattle.std.specs.Prelude.{◌≡◌, ℕ, ◌<◌, true, List, [], ◌∷◌, ◌++◌, Option, Some, None, Result, Ok, Err}
use Rattle.dcr_base.specs.Disk.{DiskView}
use Rattle.dcr_cell.specs.Stored.{IsTaped, StoreStands}
use Rattle.dcr_journal.specs.Run.{HasNoFault}
use Rattle.dcr_journal.specs.declared.call.Call.{Call}
use Rattle.dcr_journal.specs.declared.call.Call.TheVariants.{Exec, Look, Enabled, Accepting}
use Rattle.dcr_journal.specs.declared.call.Entry.{Entry}
use Rattle.dcr_journal.specs.declared.call.Outcome.{Outcome}
use Rattle.dcr_journal.specs.declared.call.Outcome.TheVariants.{Faulted}
use Rattle.dcr_line.specs.Fits.{FitsOutcome, is_of_kind}
use Rattle.dcr_proj.specs.CoverValue.{atoms_of}
use Rattle.dcr_wire.specs.declared.answer.Told.{Told}
use Rattle.dcr_wire.specs.declared.question.Asked.{Asked}
use Rattle.dcr_node.specs.JournalState.{JournalState, entry_of, told_out, IsOver}
use Rattle.dcr_node.specs.Laws.{what_is_told}
use Rattle.dcr_node.specs.declared.journal_node.Proposal.{Proposal}
use Rattle.dcr_tape.specs.declared.entry.TapeEntry.{TapeEntry}
use Rattle.dcr_tape.specs.declared.tape.Store.{Store}

-- nothing is out, and it is as it was else
pub record Rests (j after : JournalState) : Type 0 where
  pub alphabets : after.alphabets ≡ j.alphabets
  pub history : after.history ≡ j.history
  pub sessions : after.sessions ≡ j.sessions
  pub out : after.out ≡ None

-- nothing is out, and the call has its entry
pub record Enters (j after : JournalState) (p : Proposal) (outcome : Outcome) : Type 0 where
  pub alphabets : after.alphabets ≡ j.alphabets
  pub entries : after.history.entries ≡ j.history.entries ++ entry_of j p outcome ∷ []
  pub capacity : after.history.capacity ≡ j.history.capacity
  pub sessions : after.sessions ≡ j.sessions
  pub out : after.out ≡ None

-- A call was answered by this, and has its entry; but an execution that failed has none there. Or the site is away.
abbrev pub CallEnds : JournalState → JournalState → Proposal → Option Outcome → Type 0
CallEnds j after p (Some Faulted) = Rests j after
CallEnds j after p (Some outcome) = Enters j after p outcome
CallEnds j after p None = Rests j after

-- The store stands for the entries and one more of this call with this outcome, where there is one, and it fails only on a tape;
-- without an outcome it is as it was.
abbrev pub IsStoredWith : {D : Type 0} → (D → DiskView) → (D → ℕ) → Option (Store D) → List TapeEntry → Store D → Store D → Call → Option Outcome → Type 0
IsStoredWith view faults first old store after call None = after ≡ store
IsStoredWith view faults first old store after call (Some outcome) =
    (J : List Entry) → StoreStands view faults first old J store → HasNoFault J
    → (outcome ≡ Faulted → IsTaped first) × ((entry : Entry) → entry.call ≡ call → entry.outcome ≡ outcome → StoreStands view faults first old (J ++ entry ∷ []) after)

-- the outcome is of the call's kind, and what it names is of so many atoms
pub record FitsCall (atoms : ℕ) (call : Call) (outcome : Outcome) : Type 0 where
  pub kind : is_of_kind call outcome ≡ true
  pub within : FitsOutcome atoms outcome

-- what the site told of what it was asked was taken in
pub record HasHeard (j after : JournalState) (i : ℕ) (asked : Asked) : Type 0 where
  pub told : Told
  pub kind : what_is_told told ≡ asked
  pub over : IsOver (atoms_of j.alphabets) told
  pub is : after ≡ told_out j i told j.out

-- the call asks this site alone, and it is no execution
abbrev pub AsksOne : Call → ℕ → Type 0
AsksOne (Exec i e) k = ⊥
AsksOne (Look i) k = i ≡ k
AsksOne (Enabled i) k = i ≡ k
AsksOne Accepting k = ⊥

-- what a call was answered, where no site was away
abbrev pub told_by : Result Outcome ℕ → Option Outcome
told_by (Ok outcome) = Some outcome
told_by (Err site) = None

-- the call asks this site: all of so many, where it asks whether the marking is accepting
abbrev pub IsAsked : ℕ → Call → ℕ → Type 0
IsAsked sites (Exec i e) k = k ≡ i
IsAsked sites (Look i) k = k ≡ i
IsAsked sites (Enabled i) k = k ≡ i
IsAsked sites Accepting k = k < sites
