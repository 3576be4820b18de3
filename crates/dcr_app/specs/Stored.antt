-- What is left on the disk, and why one is refused as the tape of a case.
use Rattle.std.specs.Prelude.{◌≡◌, ◌≢◌, ◌⊎◌, ℕ, ◌≤◌, Bool, true, false, IsTrue, List, [], ◌++◌, length, codes, decimal, Option, Some, None, Ok}
use Rattle.dcr_base.specs.Count.{Rose}
use Rattle.dcr_base.specs.Disk.{DiskView, IsSteady, LeavesOnly}
use Rattle.dcr_base.specs.Side.{Adds, Side}
use Rattle.dcr_base.specs.declared.status.Status.{Status}
use Rattle.dcr_base.specs.declared.status.Status.TheVariants as named
use Rattle.dcr_set.specs.EventSet.{Set}
use Rattle.dcr_graph.specs.Cause.{waits}
use Rattle.dcr_graph.specs.GraphValue.{Flat, rules_of}
use Rattle.dcr_graph.specs.Projection.{HasRoom}
use Rattle.dcr_journal.specs.Run.{after, marks_at, HasNoFault, IsLegal}
use Rattle.dcr_journal.specs.declared.call.Entry.{Entry}
use Rattle.dcr_journal.specs.declared.closed.Closed.{Closed}
use Rattle.dcr_tape.specs.Kept.{part_of}
use Rattle.dcr_tape.specs.Opening.{IsCause, IsShown, IsUnmade, Opened, most_records}
use Rattle.dcr_tape.specs.Tape.{StandsFor}
use Rattle.dcr_tape.specs.declared.cause.TapeCause.{TapeCause}
use Rattle.dcr_tape.specs.declared.cause.TapeCause.TheVariants.{NotTape, OtherGraph, BadTape, Long, DiskFault, NoMemory}
use Rattle.dcr_tape.specs.declared.entry.TapeEntry.{TapeEntry}
use Rattle.dcr_cell.specs.Stored.{MayBegin, StandsForSome, kept_for, tried_for}
use Rattle.dcr_tape.specs.declared.tape.Store.{Store}
use Rattle.dcr_tape.specs.declared.tape.Store.TheVariants.{Off, On}
use Rattle.dcr_tape.specs.declared.tape.Tape.{Tape}
use Rattle.dcr_cluster.specs.Opening.{ArePossible, IsFirstBad, Refused}
use Rattle.dcr_cluster.specs.declared.refused.OpenCause.{OpenCause}
use Rattle.dcr_cluster.specs.declared.refused.OpenCause.TheVariants as opening
use Rattle.dcr_engine.specs.Ran.{IsWhole}
use Rattle.dcr_json.specs.Written.{Spelled}
use Rattle.dcr_policy.specs.Roles.{Roles}
use Rattle.dcr_report.specs.Report.{report_text}
use Rattle.dcr_replay.specs.Laws.{IsReport}
use Rattle.dcr_roles.specs.Accepted.{case_accepted}
use Rattle.dcr_app.specs.Headline.{IsDueFor, cluster_in, digest_of}
use Rattle.dcr_app.specs.Outside.{CountsWhere, IsStarved, WereLeft, Wrote}
use Rattle.dcr_app.specs.Telling.{Telling}

-- ---- after a run

-- What a run with the history J has left on the disk, where it went on from the executions `old` of the case with this
-- digest: these and then those of the run that were done. Where one failed, a crash leaves them with that one or without it.
pub record HasKept {D : Type 0} (view : D → DiskView) (faults : D → ℕ) (digest : List ℕ) (old : List TapeEntry) (J : List Entry) (before after : D) : Type 0 where
  pub stands : HasNoFault J → IsTrue (view after).told × StandsFor digest (kept_for old J) (view after).content
  pub leaves : IsTrue (view before).honest → (content : List ℕ) → (view after).may_leave content
      → StandsFor digest (kept_for old J) content ⊎ StandsFor digest (tried_for old J) content
  -- a crash at any moment since the call began left all executions from before, and of the others a beginning
  pub any_moment : IsSteady (view before) → StandsFor digest old (view before).content
      → LeavesOnly (view before) (view after) (StandsForSome digest old (tried_for old J))
  -- the same of the first run over an empty disk, but that a crash while it was made a tape left at most 65 bytes
  pub first_moment : IsSteady (view before) → (view before).content ≡ []
      → LeavesOnly (view before) (view after) (λ content. IsUnmade content ⊎ StandsForSome digest old (tried_for old J) content)
  -- over a disk that had nothing pending there is nothing pending again
  pub steady : HasNoFault J → IsSteady (view before) → IsSteady (view after)
  pub no_fault : HasNoFault J → faults after ≡ faults before
  pub failed : ¬ HasNoFault J → (faults before ≤ faults after) × Rose (faults before) (faults after)

-- the disk after a run: without a store it is not called
abbrev pub KeepsRun : Bool → {D : Type 0} → (D → DiskView) → (D → ℕ) → List ℕ → List TapeEntry → List Entry → D → D → Type 0
KeepsRun true view faults digest old J before after = HasKept view faults digest old J before after
KeepsRun false view faults digest old J before after = after ≡ before

-- ---- without a run

-- the disk stands for what it stood for: over a disk that had nothing pending a crash at any moment since the call began
-- left the same executions
abbrev pub StandsStill : {D : Type 0} → (D → DiskView) → D → D → Type 0
StandsStill view before after = (digest : List ℕ) (old : List TapeEntry) → IsSteady (view before) → StandsFor digest old (view before).content
    → LeavesOnly (view before) (view after) (StandsFor digest old)

-- What becomes of a content that is told: it is as it was, whatever it is; but an empty one may be made a tape, and one that
-- is a tape of the case that was read may be renewed (`StandsStill` says what that leaves).
pub data KeepsContent (left : Option (List ℕ)) (before after : DiskView) : Type 0 where
  as_it_was : IsTrue after.told → after.content ≡ before.content → KeepsContent left before after
  was_empty : before.content ≡ [] → KeepsContent left before after
  was_its_tape : (bytes : List ℕ) → WereLeft left bytes → (case : Spelled) → case_accepted bytes ≡ Ok case → (old : List TapeEntry) → StandsFor (digest_of case) old before.content
      → KeepsContent left before after

-- a content that is left while an empty disk is made a tape: at most 65 bytes, or a tape of no executions
abbrev pub IsMaking : List ℕ → Type 0
IsMaking content = IsUnmade content ⊎ ((digest : List ℕ) × StandsFor digest [] content)

-- Of a disk that had nothing pending: there is nothing pending again, but where the disk failed; and a crash at any moment since
-- the call began left of an empty one at most 65 bytes, or a tape of no executions.
pub record StaysSettled {D : Type 0} (view : D → DiskView) (before after : D) (status : Status) : Type 0 where
  pub steady : status ≢ named.DiskFault → IsSteady (view before) → IsSteady (view after)
  pub empty : IsSteady (view before) → (view before).content ≡ [] → LeavesOnly (view before) (view after) IsMaking

-- What becomes of the disk of a command with a store, where `closed_run` is the run that is told. It has failed where the status says so, and
-- where no run is told only then.
pub record CallsDisk {D : Type 0} (view : D → DiskView) (faults : D → ℕ) (left : Option (List ℕ)) (before after : D) (status : Status) (closed_run : Option Closed) : Type 0 where
  pub never_falls : faults before ≤ faults after
  pub counted : status ≡ named.DiskFault → Rose (faults before) (faults after)
  pub told : closed_run ≡ None → status ≢ named.DiskFault → faults after ≡ faults before
  pub still : closed_run ≡ None → StandsStill view before after
  pub settled : closed_run ≡ None → StaysSettled view before after status
  pub content : closed_run ≡ None → IsTrue (view before).told → KeepsContent left (view before) (view after)
  -- where the input failed or is refused it is not called
  pub uncalled : (status ≡ named.Refused) ⊎ (status ≡ named.ReadFault) → after ≡ before

-- the same of any command: without a store it is not called
abbrev pub LeavesDisk : Bool → {D : Type 0} → (D → DiskView) → (D → ℕ) → Option (List ℕ) → D → D → Status → Option Closed → Type 0
LeavesDisk true view faults left before after status closed_run = CallsDisk view faults left before after status closed_run
LeavesDisk false view faults left before after status closed_run = after ≡ before

-- The cause stands in this content, for the case: it is no tape of the case that has sound records, or its first execution
-- that can't be done, each after those before it, is this one.
pub data RefusesTape (case : Spelled) (content : List ℕ) (cause : TapeCause) : Type 0 where
  by_bytes : IsShown cause → IsCause (digest_of case) content cause → RefusesTape case content cause
  by_execution : (at : ℕ) → cause ≡ BadTape at → (old : List TapeEntry) → StandsFor (digest_of case) old content → length old ≤ most_records
      → IsFirstBad (cluster_in case old) at → RefusesTape case content cause

-- the line that tells it; a fault and want of memory have none
abbrev pub tape_line : TapeCause → List ℕ
tape_line NotTape = codes "tape not-tape\n"
tape_line (OtherGraph found) = codes "tape other-case\n"
tape_line (BadTape at) = codes "tape bad " ++ decimal at ++ codes "\n"
tape_line Long = codes "tape long\n"
tape_line DiskFault = []
tape_line NoMemory = []

-- What comes of a disk that is refused for this cause: nothing is written where it failed or memory ran out; else the line of
-- the cause was due, or memory ran out before it.
pub data EndsFor (why : TapeCause) (status : Status) (had took : Side) : Type 0 where
  tape_lost : why ≡ DiskFault → status ≡ named.DiskFault → Adds [] had took → EndsFor why status had took
  tape_starved : why ≢ DiskFault → IsStarved status had took → EndsFor why status had took
  tape_told : IsShown why → Wrote named.TapeRefused (tape_line why) status had took → EndsFor why status had took

-- The cause stands in the content of a disk that wasn't empty, which tells that content and still has it.
pub record ShowsCause (case : Spelled) (before after : DiskView) (cause : TapeCause) : Type 0 where
  pub content : List ℕ
  pub was : IsTrue before.told → before.content ≡ content
  pub stays : IsTrue after.told × (after.content ≡ content)
  pub some : content ≢ []
  pub stands : RefusesTape case content cause

-- ---- for private clauses

-- a run goes on from these executions, over the tape as which the disk was opened
pub record BeginsOn {D : Type 0} (view : D → DiskView) (faults : D → ℕ) (digest : List ℕ) (before : D) (tape : Tape D) (old : List TapeEntry) : Type 0 where
  pub opened : Opened (view before) (view tape.disk) digest (part_of tape) old
  pub may_begin : MayBegin view old (On tape)
  pub no_fault : faults tape.disk ≡ faults before

-- the store with which a run of the case with this digest begins, and the executions from before: of no store none
abbrev pub Begins : {D : Type 0} → (D → DiskView) → (D → ℕ) → List ℕ → Bool → D → Store D → List TapeEntry → Type 0
Begins view faults digest false before first old = (first ≡ Off before) × (old ≡ [])
Begins view faults digest true before (On tape) old = BeginsOn view faults digest before tape old
Begins view faults digest true before (Off disk) old = ⊥

abbrev pub disk_in : {D : Type 0} → Store D → D
disk_in (Off disk) = disk
disk_in (On tape) = tape.disk

-- why a disk is refused whose cluster isn't opened
abbrev pub tape_cause : OpenCause → TapeCause
tape_cause opening.NoMemory = NoMemory
tape_cause (opening.BadTape at) = BadTape at
tape_cause opening.DiskFault = DiskFault

-- what is told of a run on the sites of a graph, so that its report can be written
pub record IsRunOn (graph : Flat) (C : List Set) (closed : Closed) : Type 0 where
  pub room : HasRoom (length graph.names) closed.opening
  pub legal : IsLegal (rules_of graph) C closed.opening closed.history.entries
  pub marks : closed.marks ≡ marks_at (rules_of graph) C (after (rules_of graph) closed.opening closed.history.entries)
  pub waits : closed.waits ≡ waits (length graph.names) (after (rules_of graph) closed.opening closed.history.entries)

-- the case was run over this store, with its policy, and its report was due with this status
pub record RanOver {D : Type 0} (view : D → DiskView) (faults : D → ℕ) (telling : Telling D) (case : Spelled) (policy : Roles) (old : List TapeEntry) (first : Store D) (disk : D)
    (due : Status) (closed : Closed) : Type 0 where
  pub last : Store D
  pub same : disk ≡ disk_in last
  pub possible : ArePossible (cluster_in case old) (length old)
  pub whole : IsWhole view faults (cluster_in case old) first closed last
  pub sessions : telling.sessions first case policy closed.history.entries
  pub order : telling.order closed.history.entries
  pub due_is : IsDueFor telling closed.history.entries due
  pub legal : IsReport (report_text case.nested case.cover closed.opening closed.history.entries) (length closed.history.entries)

-- no call was made over this store, for this cause
pub record RefusedOver {D : Type 0} (view : D → DiskView) (faults : D → ℕ) (case : Spelled) (old : List TapeEntry) (first : Store D) (disk : D) (why : TapeCause) : Type 0 where
  pub cause : OpenCause
  pub is : why ≡ tape_cause cause
  pub last : Store D
  pub same : disk ≡ disk_in last
  pub refused : Refused view faults (cluster_in case old) first cause last

-- no call of the case was made, for this cause, and this is what became of the disk
pub record IsUnrun {D : Type 0} (view : D → DiskView) (faults : D → ℕ) (store : Bool) (case : Spelled) (before after : D) (why : TapeCause) : Type 0 where
  pub unstored : store ≡ false → (why ≡ NoMemory) × (after ≡ before)
  pub shows : IsShown why → ShowsCause case (view before) (view after) why
  pub counts : CountsWhere (why ≡ DiskFault) (faults before) (faults after)
  pub still : StandsStill view before after
  pub steady : why ≢ DiskFault → IsSteady (view before) → IsSteady (view after)
  pub making : IsSteady (view before) → (view before).content ≡ [] → LeavesOnly (view before) (view after) IsMaking
  pub content : (bytes : List ℕ) → case_accepted bytes ≡ Ok case → IsTrue (view before).told → KeepsContent (Some bytes) (view before) (view after)
