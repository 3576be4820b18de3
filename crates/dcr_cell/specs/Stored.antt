-- What a store keeps of a run, while it goes on and after it ended with a fault.
use Rattle.std.specs.Prelude.{◌≡◌, ◌⊎◌, ℕ, ◌≤◌, IsTrue, true, false, List, [], ◌∷◌, ◌++◌, length, take, flat_map, Option, Some, None}
use Rattle.dcr_base.specs.Count.{Rose}
use Rattle.dcr_base.specs.Disk.{DiskView, IsSteady, LeavesOnly}
use Rattle.dcr_journal.specs.Run.{HasNoFault}
use Rattle.dcr_journal.specs.declared.call.Call.{Call}
use Rattle.dcr_journal.specs.declared.call.Call.TheVariants.{Exec}
use Rattle.dcr_journal.specs.declared.call.Outcome.{Outcome}
use Rattle.dcr_journal.specs.declared.call.Outcome.TheVariants.{Done, Faulted}
use Rattle.dcr_journal.specs.declared.call.Entry.{Entry}
use Rattle.dcr_tape.specs.Kept.{TapeHolds}
use Rattle.dcr_tape.specs.Tape.{StandsFor}
use Rattle.dcr_tape.specs.declared.entry.TapeEntry.{TapeEntry}
use Rattle.dcr_tape.specs.declared.tape.Store.{Store}
use Rattle.dcr_tape.specs.declared.tape.Store.TheVariants.{Off, On}
use Rattle.dcr_tape.specs.declared.tape.Tape.{Tape}

-- the execution, where the call with this outcome is one that was done
abbrev pub execution_of : Call → Outcome → List TapeEntry
execution_of (Exec i e) Done = record { event = e; site = i } ∷ []
execution_of call outcome = []

-- the same where it is one that could have been done, and failed
abbrev pub failed_execution_of : Call → Outcome → List TapeEntry
failed_execution_of (Exec i e) Faulted = record { event = e; site = i } ∷ []
failed_execution_of call outcome = []

-- the executions of a run that were done, in order
abbrev pub executions : List Entry → List TapeEntry
executions J = flat_map (λ (entry : Entry). execution_of entry.call entry.outcome) J

-- the executions that failed: of a run of the graph at most its last call
abbrev pub failed_executions : List Entry → List TapeEntry
failed_executions J = flat_map (λ (entry : Entry). failed_execution_of entry.call entry.outcome) J

-- the executions that a tape has for certain: those from before, and then those of the run that were done
abbrev pub kept_for : List TapeEntry → List Entry → List TapeEntry
kept_for old J = old ++ executions J

-- these, and the one that failed
abbrev pub tried_for : List TapeEntry → List Entry → List TapeEntry
tried_for old J = kept_for old J ++ failed_executions J

-- the content stands for a beginning of these executions that has all from before
pub record StandsForSome (digest : List ℕ) (old executed : List TapeEntry) (content : List ℕ) : Type 0 where
  pub count : ℕ
  pub has_old : length old ≤ count
  pub stands : StandsFor digest (take count executed) content

-- A tape that goes on: its disk stands for these executions, and over an honest disk nothing is pending.
pub record GoesOn {D : Type 0} (view : D → DiskView) (faults : D → ℕ) (first : Tape D) (executed : List TapeEntry) (tape : Tape D) : Type 0 where
  pub running : tape.stopped ≡ false
  pub renewed : tape.unrenewed ≡ None
  pub keeps : TapeHolds view tape executed
  pub steady : IsTrue (view first.disk).honest → IsSteady (view tape.disk)
  pub no_fault : faults tape.disk ≡ faults first.disk

-- A tape that a fault of its disk has stopped: a crash leaves the executions that were done, with the one that failed or
-- without it.
pub record HasStopped {D : Type 0} (view : D → DiskView) (faults : D → ℕ) (first : Tape D) (executed tried : List TapeEntry) (tape : Tape D) : Type 0 where
  pub stopped : tape.stopped ≡ true
  pub leaves : IsTrue (view first.disk).honest → (content : List ℕ) → (view tape.disk).may_leave content
      → StandsFor first.digest executed content ⊎ StandsFor first.digest tried content
  pub no_fewer : faults first.disk ≤ faults tape.disk
  pub rose : Rose (faults first.disk) (faults tape.disk)

-- The tape of a run that began over the tape `first` and these executions from before.
pub record TapeStands {D : Type 0} (view : D → DiskView) (faults : D → ℕ) (first : Tape D) (old : List TapeEntry) (J : List Entry) (tape : Tape D) : Type 0 where
  pub same_case : tape.digest ≡ first.digest
  -- a crash at any moment since the run began left all executions from before, and of the others a beginning
  pub any_moment : IsTrue (view first.disk).honest → LeavesOnly (view first.disk) (view tape.disk) (StandsForSome first.digest old (tried_for old J))
  pub goes_on : HasNoFault J → GoesOn view faults first (kept_for old J) tape
  pub has_stopped : ¬ HasNoFault J → HasStopped view faults first (kept_for old J) (tried_for old J) tape

-- The store of a run that began over the store `first`: without a tape nothing fails, and the disk is not called.
abbrev pub StoreStands : {D : Type 0} → (D → DiskView) → (D → ℕ) → Option (Store D) → List TapeEntry → List Entry → Store D → Type 0
StoreStands view faults (Some (Off first)) old J (Off disk) = (disk ≡ first) × HasNoFault J
StoreStands view faults (Some (On first)) old J (On tape) = TapeStands view faults first old J tape
StoreStands view faults first old J store = ⊥

-- whether the run began over a tape
abbrev pub IsTaped : {D : Type 0} → Option (Store D) → Type 0
IsTaped (Some (On first)) = Unit {0}
IsTaped first = ⊥

-- The store that a cluster may begin with: where it is a tape, that goes on, keeps the executions from before, and
-- has nothing pending over an honest disk.
abbrev pub MayBegin : {D : Type 0} → (D → DiskView) → List TapeEntry → Store D → Type 0
MayBegin view old (Off disk) = Unit {0}
MayBegin view old (On tape) = (tape.stopped ≡ false) × TapeHolds view tape old × (IsTrue (view tape.disk).honest → IsSteady (view tape.disk))

-- an execution may be put on the store's tape, where there is one
abbrev pub CanKeep : {D : Type 0} → Store D → Type 0
CanKeep (Off disk) = Unit {0}
CanKeep (On tape) = (tape.stopped ≡ false) × (tape.unrenewed ≡ None) × (tape.count ≤ 1199999)
