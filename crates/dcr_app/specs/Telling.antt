-- What a command that executes a case tells of its own: of the sessions, of their order, and of what else its report is due
-- with than `Done`.
use Rattle.std.specs.Prelude.{◌≡◌, ◌≢◌, ◌⊎◌, ℕ, ◌≤◌, List, [], length, Option, Some, None, IsSome, ⊤}
use Rattle.std.specs.List.{All}
use Rattle.dcr_base.specs.Count.{Rose}
use Rattle.dcr_base.specs.declared.status.Status.{Status}
use Rattle.dcr_base.specs.declared.status.Status.TheVariants.{Done, NoMemory, DiskFault, Full, DoorFault}
use Rattle.dcr_base.specs.Door.{Doors}
use Rattle.dcr_nest.specs.FlatRelation.{of_atoms}
use Rattle.dcr_nest.specs.Nest.{names_of, parents_of}
use Rattle.dcr_journal.specs.declared.call.Entry.{Entry}
use Rattle.dcr_journal.specs.declared.closed.Closed.{Closed}
use Rattle.dcr_tape.specs.declared.tape.Store.{Store}
use Rattle.dcr_policy.specs.Roles.{Roles}
use Rattle.dcr_work.specs.Order.{IsInWorkerOrder}
use Rattle.dcr_serve.specs.Left.{AreAllButFirst}
use Rattle.dcr_link.specs.Replies.{terms_of}
use Rattle.dcr_link.specs.declared.end.WorkCause.{WorkCause}
use Rattle.dcr_link.specs.declared.end.WorkCause.TheVariants as cause
use Rattle.dcr_serving.specs.declared.end.LinkEnd.{LinkEnd}
use Rattle.dcr_engine.specs.Ran.{HasCalls}
use Rattle.dcr_engine.specs.Served.{ServedIn, most_served}
use Rattle.dcr_json.specs.Written.{Spelled}
use Rattle.dcr_app.specs.declared.command.Command.{Command}
use Rattle.dcr_app.specs.declared.command.Command.TheVariants.{Read}
use Rattle.dcr_app.specs.declared.command.Reading.TheVariants.{Execute}
use Rattle.dcr_app.specs.declared.command.Way.{Way}
use Rattle.dcr_app.specs.declared.command.Way.TheVariants.{Run, Serve}

-- `sessions` is told of the sessions of a history that began over this store, of a case and its policy, and `order` of the order of its entries. `full`
-- is that it is full, and `door_failed` that the door failed.
pub record Telling (D : Type 0) : Type 1 where
  pub sessions : Store D → Spelled → Roles → List Entry → Type 0
  pub order : List Entry → Type 0
  pub full : List Entry → Type 0
  pub door_failed : Type 0

-- ---- the sessions of the case, by workers

abbrev pub by_workers : {D : Type 0} → ℕ → Telling D
by_workers workers = record {
  sessions = λ first case policy J. HasCalls case.sessions J;
  order = IsInWorkerOrder workers;
  full = λ J. ⊥;
  door_failed = ⊥;
}

-- ---- sessions over the links of a door

-- the names of the atoms of a case, in order
abbrev pub atoms_in : Spelled → List (List ℕ)
atoms_in case = of_atoms (parents_of case.nested.nodes) (names_of case.nested.nodes)

-- So many sessions over the links that the door had before, which have ended so. The order is that of the locks.
abbrev pub over_links : {D B L R : Type 0} → Doors B L R → B → B → ℕ → List (LinkEnd L R) → Telling D
over_links doors before after sessions ends = record {
  sessions = λ first case policy J. ServedIn doors.each first (terms_of case.cover.names (atoms_in case) policy) (doors.links before) sessions ends J;
  order = λ J. ⊤;
  full = λ J. length J ≡ most_served;
  door_failed = Rose (doors.faults before) (doors.faults after);
}

-- a session ends by what its own link asked, or by its link's fault
abbrev pub IsOfLink : WorkCause → Type 0
IsOfLink cause.Ended = ⊤
IsOfLink cause.LinkFault = ⊤
IsOfLink cause.LongLine = ⊤
IsOfLink cause.ManyLines = ⊤
IsOfLink (cause.Halted halt) = ⊥
IsOfLink cause.NoMemory = ⊥

-- What became of the door over which so many sessions were served: it has left the links that no session had. With `Done`,
-- and with every other status but `NoMemory` where its count of faults didn't rise, each session had one or the door has
-- shut. With `Done` no session was cut off, and the door didn't fail.
pub record LeavesServed {B L R : Type 0} (doors : Doors B L R) (before after : B) (sessions : ℕ) (ends : List (LinkEnd L R)) (status : Status) : Type 0 where
  pub left : AreAllButFirst (doors.links before) (length ends) (doors.links after)
  pub all : (status ≡ Done) ⊎ ((status ≢ NoMemory) × (Rose (doors.faults before) (doors.faults after) → ⊥)) → (length ends ≡ sessions) ⊎ doors.is_shut after
  pub by_links : status ≡ Done → All (λ (end : LinkEnd L R). IsOfLink end.end.cause) ends
  pub unfailed : status ≡ Done → doors.faults after ≡ doors.faults before
  pub failed : status ≡ DoorFault → Rose (doors.faults before) (doors.faults after)
  pub never_falls : doors.faults before ≤ doors.faults after

-- ---- each way

abbrev pub told_by : {D B L R : Type 0} → Doors B L R → B → B → List (LinkEnd L R) → Way → Telling D
told_by doors before after ends (Run workers) = by_workers workers
told_by doors before after ends (Serve sessions workers) = over_links doors before after sessions ends

-- how many sessions the command serves over links, where it serves any
abbrev pub served_by : Option Command → Option ℕ
served_by (Some (Read (Execute (Serve sessions workers) store))) = Some sessions
served_by command = None

abbrev pub IsServing : Option Command → Type 0
IsServing command = IsSome (served_by command)

-- What became of the door over which so many sessions were to be served: where none were, or no run is told, it was not asked, and is as it
-- was.
abbrev pub LeavesFor : {B L R : Type 0} → Doors B L R → Option ℕ → Option Closed → B → B → List (LinkEnd L R) → Status → Type 0
LeavesFor doors (Some sessions) (Some closed) before after ends status = LeavesServed doors before after sessions ends status
LeavesFor doors sessions closed_run before after ends status = (after ≡ before) × (ends ≡ [])

-- the same of a command
abbrev pub LeavesDoor : {B L R : Type 0} → Doors B L R → Option Command → Option Closed → B → B → List (LinkEnd L R) → Status → Type 0
LeavesDoor doors command closed_run before after ends status = LeavesFor doors (served_by command) closed_run before after ends status

-- ---- the status of a report

-- The status with which the report of a history is due, where `fine` is that no execution failed: the first of these that holds. With
-- `Done` the door hasn't failed either (`LeavesServed`).
pub data IsDueBy (fine full failed : Type 0) (due : Status) : Type 0 where
  disk_failed : (fine → ⊥) → due ≡ DiskFault → IsDueBy fine full failed due
  is_full : fine → full → due ≡ Full → IsDueBy fine full failed due
  door_failed : fine → (full → ⊥) → failed → due ≡ DoorFault → IsDueBy fine full failed due
  all_done : fine → (full → ⊥) → due ≡ Done → IsDueBy fine full failed due
