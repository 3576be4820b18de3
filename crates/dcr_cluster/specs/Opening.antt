-- Which executions a cluster can go on from, and what a refusal to open one leaves.
use Rattle.std.specs.Prelude.{◌≡◌, ℕ, ◌<◌, ◌≤◌, IsTrue, List, length, take, slice_get, Some}
use Rattle.dcr_base.specs.Count.{Rose}
use Rattle.dcr_base.specs.Disk.{DiskView, IsSteady, LeavesOnly}
use Rattle.dcr_graph.specs.declared.marking.Marking.{Marking}
use Rattle.dcr_journal.specs.Answer.{answer}
use Rattle.dcr_journal.specs.declared.call.Call.TheVariants.{Exec}
use Rattle.dcr_journal.specs.declared.call.Outcome.TheVariants.{Done}
use Rattle.dcr_tape.specs.Tape.{StandsFor}
use Rattle.dcr_tape.specs.declared.entry.TapeEntry.{TapeEntry}
use Rattle.dcr_tape.specs.declared.tape.Store.{Store}
use Rattle.dcr_tape.specs.declared.stop.RenewStop.{RenewStop}
use Rattle.dcr_tape.specs.declared.stop.RenewStop.TheVariants as stop
use Rattle.dcr_tape.specs.declared.tape.Store.TheVariants.{On}
use Rattle.dcr_cell.specs.ClusterId.{ClusterId, IsCall, marking_by}
use Rattle.dcr_cluster.specs.declared.refused.OpenCause.{OpenCause}
use Rattle.dcr_cluster.specs.declared.refused.OpenCause.TheVariants.{NoMemory, BadTape, DiskFault}

-- the execution can be done at this marking: its site and its event are ones of the cluster, the site owns the event, and
-- no cause blocks it
pub record IsPossible (c : ClusterId) (M : Marking) (x : TapeEntry) : Type 0 where
  pub in_range : IsCall c (Exec x.site x.event)
  pub done : answer c.rules c.owned M (Exec x.site x.event) ≡ Done

-- so many of the executions from before can be done, each after those before it
abbrev pub ArePossible : ClusterId → ℕ → Type 0
ArePossible c count = (place : ℕ) (x : TapeEntry) → place < count → slice_get c.old place ≡ Some x → IsPossible c (marking_by c (take place c.old)) x

-- the execution at this place is the first that can't
pub record IsFirstBad (c : ClusterId) (at : ℕ) : Type 0 where
  pub before : ArePossible c at
  pub execution : TapeEntry
  pub there : slice_get c.old at ≡ Some execution
  pub impossible : ¬ IsPossible c (marking_by c (take at c.old)) execution

-- the cause stands in the executions from before
abbrev pub IsCause : ClusterId → OpenCause → Type 0
IsCause c NoMemory = Unit {0}
IsCause c (BadTape at) = IsFirstBad c at
IsCause c DiskFault = ArePossible c (length c.old)

-- over an honest disk every image that a crash since the beginning might have left stands for the executions from before
abbrev pub LeavesOld : {D : Type 0} → (D → DiskView) → List TapeEntry → List ℕ → D → D → Type 0
LeavesOld view old digest first disk = IsTrue (view first).honest → LeavesOnly (view first) (view disk) (StandsFor digest old)

-- What a refusal for this cause leaves of the store `first`: the store as it was, but where the disk failed, or where there
-- was no memory for a cluster over a tape. The tape may be renewed then, and over an honest disk nothing is pending.
abbrev pub Leaves : {D : Type 0} → (D → DiskView) → (D → ℕ) → List TapeEntry → OpenCause → Store D → Store D → Type 0
Leaves view faults old NoMemory (On first) (On tape) =
    LeavesOld view old first.digest first.disk tape.disk × (faults tape.disk ≡ faults first.disk) × (IsTrue (view first.disk).honest → IsSteady (view tape.disk))
Leaves view faults old DiskFault (On first) (On tape) =
    LeavesOld view old first.digest first.disk tape.disk × (faults first.disk ≤ faults tape.disk) × Rose (faults first.disk) (faults tape.disk)
Leaves view faults old DiskFault first store = ⊥
Leaves view faults old cause first store = store ≡ first

pub record Refused {D : Type 0} (view : D → DiskView) (faults : D → ℕ) (c : ClusterId) (first : Store D) (cause : OpenCause) (store : Store D) : Type 0 where
  pub stands : IsCause c cause
  pub leaves : Leaves view faults c.old cause first store

-- why a cluster isn't opened whose tape isn't renewed
abbrev pub cause_of : RenewStop → OpenCause
cause_of stop.DiskFault = DiskFault
cause_of stop.NoMemory = NoMemory
