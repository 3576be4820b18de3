-- What follows from what the program answers, whatever the command.
use Rattle.std.proofs.Common.{◌≡◌, ◌≢◌, ◌⊎◌, ℕ, ◌<◌, ◌≤◌, ◌+◌, arith, Bool, true, false, List, [], length, codes, Option, Some, None, Result, Ok, Err, IfSome, IsSome, inl, inr, refl, sym, ap, subst, ◌∙◌}
use Rattle.std.specs.Prelude.{⊤}
use Rattle.dcr_base.specs.Count.{Rose}
use Rattle.dcr_base.specs.Disk.{DiskView}
use Rattle.dcr_base.specs.Door.{Doors}
use Rattle.dcr_base.specs.Side.{Side}
use Rattle.dcr_base.specs.declared.reading.ReadStop.{ReadStop}
use Rattle.dcr_base.specs.declared.reading.ReadStop.TheVariants as read
use Rattle.dcr_base.specs.declared.status.Status.{Status}
use Rattle.dcr_base.specs.declared.status.Status.TheVariants.{Done, Usage, Refused, ReadFault, WriteFault, NoMemory, DiskFault, DoorFault}
use Rattle.dcr_journal.specs.declared.closed.Closed.{Closed}
use Rattle.dcr_node.specs.WorldState.{WorldState}
use Rattle.dcr_tape.specs.Laws.{NoCause, OneList}
use Rattle.dcr_serving.specs.declared.end.LinkEnd.{LinkEnd}
use Rattle.dcr_engine.specs.Laws.{OrderedIsTold}
use Rattle.dcr_json.specs.Written.{Spelled}
use Rattle.dcr_adapt.specs.Stages.{stages_in}
use Rattle.dcr_log.specs.Records.{first_bad}
use Rattle.dcr_replay.specs.OneVerdict.{VerdictIsOne}
use Rattle.dcr_replay.specs.declared.verdict.Verdict.{Verdict}
use Rattle.dcr_replay.specs.declared.verdict.Verdict.TheVariants as verdict
use Rattle.dcr_roles.specs.Accepted.{case_accepted}
use Rattle.dcr_roles.specs.Laws.{AcceptedAreTheFormats}
use Rattle.dcr_roles.specs.declared.accepted.Accepted.{Accepted}
use Rattle.dcr_roles.specs.declared.accepted.AcceptStop.{AcceptStop}
use Rattle.dcr_app.specs.Adapted.{EndsStages}
use Rattle.dcr_app.specs.Answers.{Answers, AnswersBytes, AnswersPlain, AnswersWith, EndsAs, EndsRun, Executed, FromInput, IsAnswered, IsAnsweredCase, IsConverse, IsDoneThroughout, IsHeadline, IsOr, IsTask, IsTaskOf, IsToExecute, IsToldByOne, RefusesBy, RefusesBytes, Says, TellsBytes, TellsCase, TellsNodes, TellsRun, WasRead, verdict_status, bytes_refused, bytes_starved, bytes_told, has_failed, input_long, input_unread, input_whole, is_stored, is_tape_refused, refuses_bytes, refuses_long}
use Rattle.dcr_app.specs.Loaded.{AnswersLoad}
use Rattle.dcr_app.specs.Logged.{case_before_log, rows_in}
use Rattle.dcr_app.specs.Outside.{CountsWhere, IsUnread, LeavesInput, TookAtMost, WereLeft, Wrote, limit_in, most_bytes, wrote_all, write_failed, write_starved}
use Rattle.dcr_app.specs.Parted.{EndsPart}
use Rattle.dcr_app.specs.Stored.{LeavesDisk}
use Rattle.dcr_app.specs.Telling.{IsServing, LeavesDoor, LeavesFor, told_by}
use Rattle.dcr_app.specs.declared.answer.Answer.{Answer}
use Rattle.dcr_app.specs.declared.app.End.{End}
use Rattle.dcr_app.specs.declared.app.Task.{Task}
use Rattle.dcr_app.specs.declared.app.Task.TheVariants as task
use Rattle.dcr_app.specs.declared.command.Command.{Command}
use Rattle.dcr_app.specs.declared.command.Command.TheVariants.{Load, Read}
use Rattle.dcr_app.specs.declared.command.Reading.{Reading}
use Rattle.dcr_app.specs.declared.command.Reading.TheVariants.{Execute, Replay, Nodes, Conform, Adapt, Part}
use Rattle.dcr_app.specs.declared.command.Way.{Way}
use Rattle.dcr_app.specs.declared.command.Way.TheVariants.{Run, Serve}
use Rattle.dcr_app.proofs.AdaptLemmas.{stages_ended, starved_stages}
use Rattle.dcr_app.proofs.ApartLemmas.{apart_ended}
use Rattle.dcr_app.proofs.CaseLemmas.{case_ended}
use Rattle.dcr_app.proofs.DueLemmas.{by_due}
use Rattle.dcr_app.proofs.ConformLemmas.{log_ended, long_log, refused_log, starved_log}
use Rattle.dcr_app.proofs.LoadLemmas.{load_ended}
use Rattle.dcr_app.proofs.OutsideLemmas.{IsEnded, by_wrote, counted, ended_silent, ended_starved, ended_with, of_left, uncounted}
use Rattle.dcr_app.proofs.PartLemmas.{part_ended, refused_part, starved_part}
use Rattle.dcr_app.proofs.ReplayLemmas.{report_ended}
use Rattle.dcr_app.proofs.RunLemmas.{cases_are_accepted, done_throughout, tells_left, told_by_one, too_long}
use Rattle.dcr_app.proofs.SaysLemmas.{SaysAt, says_all}
use Rattle.dcr_app.proofs.TapeLemmas.{disk_left, uncalled_by}

-- ---- refusals

-- a refusal of the bytes of an input
pub refused_by : (reading : Reading) (bytes line : List ℕ) (had took : Side) (is_one : Type 0) (answer : Answer) → RefusesBy is_one line had took answer → (is_one → RefusesBytes reading bytes line)
    → AnswersPlain reading bytes had took answer
refused_by reading bytes line had took is_one answer (none, inl starved) refuses = bytes_starved none starved
refused_by reading bytes line had took is_one answer (none, inr it) refuses = bytes_refused none (record { line = line; refuses = refuses it.0; wrote = it.1 })

-- ---- where nothing fails

starved_case : (IsDone : Status → Type 0) (store : Bool) (disk : DiskView) (result : Result Spelled AcceptStop) (status : Status) → IsDone status → status ≡ NoMemory
    → IsAnsweredCase IsDone store disk result status
starved_case IsDone store disk (Err why) status done is = inr is
starved_case IsDone false disk (Ok case) status done is = done
starved_case IsDone true disk (Ok case) status done is = λ told. record { empty = λ _. done; goes_on = λ _ _ _ _. done; refused = λ _ _ _. inr is }

starved_run : (way : Way) (status : Status) → status ≡ NoMemory → EndsRun way status
starved_run (Run workers) status is = inr is
starved_run (Serve sessions workers) status is = inr (inr is)

-- want of memory answers each input
starved_answer : (reading : Reading) (disk : DiskView) (bytes : List ℕ) (status : Status) → status ≡ NoMemory → IsAnswered reading disk bytes status
starved_answer (Execute way store) disk bytes status is = starved_case (EndsRun way) store disk (case_accepted bytes) status (starved_run way status is) is
starved_answer Replay disk bytes status is = (λ more. inr is, λ few verdict found. inr is)
starved_answer (Nodes number) disk bytes status is = starved_case (IsOr Done) false disk (case_accepted bytes) status (inr is) is
starved_answer Conform disk bytes status is = starved_log (case_before_log bytes) (first_bad (rows_in bytes)) status is
starved_answer Adapt disk bytes status is = record { long = λ more. inr is; short = λ few. starved_stages (stages_in bytes) status is }
starved_answer (Part site) disk bytes status is = starved_part site (case_accepted bytes) status is

-- an input that is too long is refused
long_answer : (reading : Reading) (disk : DiskView) (bytes : List ℕ) (status : Status) → most_bytes reading < length bytes → IsOr Refused status → IsAnswered reading disk bytes status
long_answer (Execute way store) disk bytes status more or = subst (λ r. IsAnsweredCase (EndsRun way) store disk r status) (sym (too_long bytes more)) or
long_answer Replay disk bytes status more or = (λ _. or, λ few. absurd (omega (arith, more, few)))
long_answer (Nodes number) disk bytes status more or = subst (λ r. IsAnsweredCase (IsOr Done) false disk r status) (sym (too_long bytes more)) or
long_answer Conform disk bytes status more or = long_log bytes status more or
long_answer Adapt disk bytes status more or = record { long = λ _. or; short = λ few. absurd (omega (arith, more, few)) }
long_answer (Part site) disk bytes status more or = subst (λ (r : Result Spelled AcceptStop). EndsPart site r status) (sym (too_long bytes more)) or

-- and so are bytes of which a refusal holds
refused_answer : (reading : Reading) (disk : DiskView) (bytes line : List ℕ) (status : Status) → length bytes ≤ most_bytes reading → RefusesBytes reading bytes line → IsOr Refused status
    → IsAnswered reading disk bytes status
refused_answer (Execute way store) disk bytes line status few it or = subst (λ r. IsAnsweredCase (EndsRun way) store disk r status) (sym it.1) or
refused_answer Replay disk bytes line status few it or = elim it [ ]
refused_answer (Nodes number) disk bytes line status few it or = subst (λ r. IsAnsweredCase (IsOr Done) false disk r status) (sym it.1) or
refused_answer Conform disk bytes line status few it or = refused_log bytes it.0 status it.1 or
refused_answer Adapt disk bytes line status few it or =
    record { long = λ more. absurd (omega (arith, more, few)); short = λ _. subst (λ (r : Result (List Spelled) _). EndsStages r status) (sym it.1) or }
refused_answer (Part site) disk bytes line status few it or = refused_part site bytes line status it or

-- ---- what was read

-- statuses that say that a read failed, and that the input was read to its end and answered
abbrev IsOther : Status → Type 0
IsOther ReadFault = ⊥
IsOther Done = ⊥
IsOther status = Unit {0}

abbrev IsRead : Status → Type 0
IsRead ReadFault = ⊥
IsRead status = Unit {0}

-- an input that was not read to its end
pub unread_told : (stop_read : ReadStop) (reading : Reading) (left : Option (List ℕ)) (has_ended : Type 0) (had took : Side) (status : Status) (IsNone : Type 0) (Answered : List ℕ → Type 0) → IsNone
    → (stop_read ≡ read.TooLong → IfSome left (λ bytes. most_bytes reading < length bytes)) → IsUnread stop_read status had took → FromInput reading left has_ended had took status IsNone Answered
unread_told read.TooLong reading left has_ended had took status IsNone Answered none more it = input_long none (more refl) it.1
unread_told read.ReadFault reading left has_ended had took status IsNone Answered none more it = input_unread none (inl it.0) it.1
unread_told read.NoMemory reading left has_ended had took status IsNone Answered none more it = input_unread none (inr it.0) it.1

pub unread_leaves : (stop_read : ReadStop) (limit : ℕ) (left rest : Side) (has_ended : Type 0) (status : Status) (had took : Side) → TookAtMost (limit + 1) left.bytes rest.bytes
    → CountsWhere (stop_read ≡ read.ReadFault) left.faults rest.faults → IsUnread stop_read status had took → LeavesInput (Some limit) left rest has_ended status
unread_leaves read.TooLong limit left rest has_ended status had took most counts it =
    let other = by_wrote IsOther tt tt it.1 (λ _. tt) in
    (most, λ is. elim (subst IsOther is other) [ ], uncounted (λ is. subst IsOther is other) (counts.2 (λ is. let wrong : read.TooLong ≡ read.ReadFault = is in cc)))
unread_leaves read.ReadFault limit left rest has_ended status had took most counts it =
    (most, λ is. absurd (let wrong : ReadFault ≡ Done = sym it.0 ∙ is in cc), counted it.0 counts.0 (counts.1 refl))
unread_leaves read.NoMemory limit left rest has_ended status had took most counts it =
    (most, λ is. absurd (let wrong : NoMemory ≡ Done = sym it.0 ∙ is in cc), uncounted (λ is. let wrong : NoMemory ≡ ReadFault = sym it.0 ∙ is in cc) (counts.2 (λ is. let wrong : read.NoMemory ≡ read.ReadFault = is in cc)))

-- bytes that were read are answered with no status that says that a read failed
plain_read : (reading : Reading) (bytes : List ℕ) (had took : Side) (answer : Answer) → AnswersPlain reading bytes had took answer → IsRead answer.0
plain_read reading bytes had took answer (bytes_starved none starved) = subst IsRead (sym starved.0) tt
plain_read reading bytes had took answer (bytes_refused none it) = by_wrote IsRead tt tt it.wrote (λ _. tt)
plain_read (Execute way store) bytes had took answer (bytes_told it) = elim it.1 [ ]
plain_read Replay bytes had took answer (bytes_told it) = by_wrote IsRead tt tt it.1.line (λ _. of_verdict it.1.found)
  where
    of_verdict : (v : Verdict) → IsRead (verdict_status v)
    of_verdict (verdict.Valid count) = tt
    of_verdict (verdict.Invalid line kind) = tt
plain_read (Nodes number) bytes had took answer (bytes_told it) = of_run answer.1 answer.2 it
  where
    of_run : (closed_run : Option Closed) (world : Option WorldState) → TellsNodes bytes had took answer.0 closed_run world → IsRead answer.0
    of_run (Some closed) (Some world) it = by_wrote IsRead tt tt it.report (λ _. tt)
    of_run None world it = elim it [ ]
    of_run (Some closed) None it = elim it [ ]
plain_read Conform bytes had took answer (bytes_told it) = by_wrote IsRead tt tt it.1.wrote (λ _. tt)
plain_read Adapt bytes had took answer (bytes_told it) = by_wrote IsRead tt tt it.1.runs.wrote (λ _. tt)
plain_read (Part site) bytes had took answer (bytes_told it) = by_wrote IsRead tt tt it.1.wrote (λ _. tt)

-- what is left to do of the bytes of a whole input
pub whole_task : (reading : Reading) (left rest : Side) (has_ended : Type 0) (bytes : List ℕ) (had took : Side) (what : Task) → WasRead reading left rest has_ended bytes → IsTaskOf reading bytes had took what
    → IsTask (Some (Read reading)) left rest has_ended had took what
whole_task reading left rest has_ended bytes had took (task.Answered answer) was it =
    (input_whole bytes was.were_left was.few was.ended it, was.leaves answer.0 (λ is. subst IsRead is (plain_read reading bytes had took answer it)))
whole_task reading left rest has_ended bytes had took (task.Execute way store accepted) was it =
    (ap (λ (r : Reading). Some (Read r)) it.asked, (bytes, subst (λ (r : Reading). WasRead r left rest has_ended bytes) it.asked was, subst (λ (r : Reading). IsToExecute r bytes had took way store accepted) it.asked it))

-- ---- a command that is answered before a case is executed

module _ (had took : Side) (left : Option (List ℕ)) (has_ended : Type 0) (status : Status) (closed_run : Option Closed) (world : Option WorldState) where
  abbrev Plain : Option Command → Type 0
  Plain command = AnswersWith (λ way store bytes. ⊥) command left has_ended had took status closed_run world

  module _ (OfCase : Way → Bool → List ℕ → Type 0) where
    more_told : (reading : Reading) (bytes : List ℕ) → AnswersBytes (λ way store bytes. ⊥) reading bytes had took status closed_run world → AnswersBytes OfCase reading bytes had took status closed_run world
    more_told reading bytes (bytes_starved none starved) = bytes_starved none starved
    more_told reading bytes (bytes_refused none it) = bytes_refused none it
    more_told (Execute way store) bytes (bytes_told it) = elim it.1 [ ]
    more_told Replay bytes (bytes_told it) = bytes_told it
    more_told (Nodes number) bytes (bytes_told it) = bytes_told it
    more_told Conform bytes (bytes_told it) = bytes_told it
    more_told Adapt bytes (bytes_told it) = bytes_told it
    more_told (Part site) bytes (bytes_told it) = bytes_told it

    pub more_answered : (command : Option Command) → Plain command → AnswersWith OfCase command left has_ended had took status closed_run world
    more_answered None it = it
    more_answered (Some (Load number)) it = it
    more_answered (Some (Read reading)) (input_unread none why nothing) = input_unread none why nothing
    more_answered (Some (Read reading)) (input_long none more line) = input_long none more line
    more_answered (Some (Read reading)) (input_whole bytes read few ended it) = input_whole bytes read few ended (more_told reading bytes it)

  abbrev IsUncalled : Status → Type 0
  IsUncalled DiskFault = ⊥
  IsUncalled status = Unit {0}

  -- of a case that is to be executed no run is told then, and no disk that failed
  none_executed : (way : Way) (store : Bool) → Plain (Some (Read (Execute way store))) → (closed_run ≡ None) × IsUncalled status
  none_executed way store (input_unread none (inl e) nothing) = (none.0, subst IsUncalled (sym e) tt)
  none_executed way store (input_unread none (inr e) nothing) = (none.0, subst IsUncalled (sym e) tt)
  none_executed way store (input_long none more line) = (none.0, by_wrote IsUncalled tt tt line (λ _. tt))
  none_executed way store (input_whole bytes read few ended (bytes_starved none starved)) = (none.0, subst IsUncalled (sym starved.0) tt)
  none_executed way store (input_whole bytes read few ended (bytes_refused none it)) = (none.0, by_wrote IsUncalled tt tt it.wrote (λ _. tt))
  none_executed way store (input_whole bytes read few ended (bytes_told it)) = elim it.1 [ ]

  -- the disk is as it was
  pub disk_plain : {D : Type 0} (view : D → DiskView) (faults : D → ℕ) (disk after : D) → after ≡ disk → (command : Option Command) → Plain command
      → LeavesDisk (is_stored command) view faults left disk after status closed_run
  disk_plain view faults disk after same None it = same
  disk_plain view faults disk after same (Some (Load number)) it = same
  disk_plain view faults disk after same (Some (Read (Execute way store))) it =
      uncalled_by store view faults left disk after status closed_run same (λ is. subst IsUncalled is (none_executed way store it).1)
  disk_plain view faults disk after same (Some (Read Replay)) it = same
  disk_plain view faults disk after same (Some (Read (Nodes number))) it = same
  disk_plain view faults disk after same (Some (Read Conform)) it = same
  disk_plain view faults disk after same (Some (Read Adapt)) it = same
  disk_plain view faults disk after same (Some (Read (Part site))) it = same

  -- and so is the door
  pub door_plain : {B L R : Type 0} (doors : Doors B L R) (door : B) (ends : List (LinkEnd L R)) → ends ≡ [] → (command : Option Command) → Plain command
      → LeavesDoor doors command closed_run door door ends status
  door_plain doors door ends none None it = (refl, none)
  door_plain doors door ends none (Some (Load number)) it = (refl, none)
  door_plain doors door ends none (Some (Read (Execute (Run workers) store))) it = (refl, none)
  door_plain doors door ends none (Some (Read (Execute (Serve sessions workers) store))) it =
      subst (λ (c : Option Closed). LeavesFor doors (Some sessions) c door door ends status) (sym (none_executed (Serve sessions workers) store it).0) (refl, none)
  door_plain doors door ends none (Some (Read Replay)) it = (refl, none)
  door_plain doors door ends none (Some (Read (Nodes number))) it = (refl, none)
  door_plain doors door ends none (Some (Read Conform)) it = (refl, none)
  door_plain doors door ends none (Some (Read Adapt)) it = (refl, none)
  door_plain doors door ends none (Some (Read (Part site))) it = (refl, none)

-- ---- what is left to do

pub usage_task : (command : Option Command) (left : Side) (has_ended : Type 0) (had took : Side) (status : Status) → None ≡ command → (status ≡ Usage) ⊎ (status ≡ WriteFault)
    → Wrote Usage (codes "usage\n") status had took → IsTask command left left has_ended had took (task.Answered (record { 0 = status; 1 = None; 2 = None }))
usage_task command left has_ended had took status is either wrote =
    subst (λ (c : Option Command). IsTask c left left has_ended had took (task.Answered (record { 0 = status; 1 = None; 2 = None }))) is
    (((refl, refl), (starved either, wrote)), (refl, λ e. subst IsRead e (fine either)))
  where
    fine : (status ≡ Usage) ⊎ (status ≡ WriteFault) → IsRead status
    fine (inl e) = subst IsRead (sym e) tt
    fine (inr e) = subst IsRead (sym e) tt

    starved : (status ≡ Usage) ⊎ (status ≡ WriteFault) → status ≢ NoMemory
    starved (inl e) is = let wrong : Usage ≡ NoMemory = sym e ∙ is in cc
    starved (inr e) is = let wrong : WriteFault ≡ NoMemory = sym e ∙ is in cc

pub load_task : (command : Option Command) (number : ℕ) (left : Side) (has_ended : Type 0) (had took : Side) (answer : Answer) → Some (Load number) ≡ command
    → AnswersLoad number had took answer.0 answer.1 → answer.2 ≡ None → IsTask command left left has_ended had took (task.Answered answer)
load_task command number left has_ended had took answer is it world =
    subst (λ (c : Option Command). IsTask c left left has_ended had took (task.Answered answer)) is ((world, it), (refl, λ e. subst IsRead e (fine answer.1 it)))
  where
    fine : (closed_run : Option Closed) → AnswersLoad number had took answer.0 closed_run → IsRead answer.0
    fine None it = subst IsRead (sym it.0) tt
    fine (Some closed) it = by_wrote IsRead tt tt it.wrote (λ _. tt)

-- a command that is answered
pub task_answered : (command : Option Command) (left rest : Side) (has_ended : Type 0) (had took : Side) (what : Task) (answer : Answer) → what ≡ task.Answered answer
    → IsTask command left rest has_ended had took what → AnswersWith (λ way store bytes. ⊥) command left.bytes has_ended had took answer.0 answer.1 answer.2 × LeavesInput (limit_in command) left rest has_ended answer.0
task_answered command left rest has_ended had took what answer is it = subst (λ (t : Task). IsTask command left rest has_ended had took t) is it

-- a case that is to be executed
pub task_executed : (command : Option Command) (left rest : Side) (has_ended : Type 0) (had took : Side) (what : Task) (way : Way) (store : Bool) (accepted : Accepted) → what ≡ task.Execute way store accepted
    → IsTask command left rest has_ended had took what
    → (command ≡ Some (Read (Execute way store))) × ((bytes : List ℕ) × WasRead (Execute way store) left rest has_ended bytes × IsToExecute (Execute way store) bytes had took way store accepted)
task_executed command left rest has_ended had took what way store accepted is it = subst (λ (t : Task). IsTask command left rest has_ended had took t) is it

module _ {D B L R : Type 0} (view : D → DiskView) (faults : D → ℕ) (doors : Doors B L R) (door : B) (before : D) (had took : Side) (end : End B D L R) (way : Way) (store : Bool) where
  abbrev Answer_of : List ℕ → Type 0
  Answer_of bytes = AnswersBytes (Executed view faults doors door before had took end) (Execute way store) bytes had took end.status end.closed end.world

  executed_read : (bytes : List ℕ) → Answer_of bytes → IsRead end.status
  executed_read bytes (bytes_starved none starved) = subst IsRead (sym starved.0) tt
  executed_read bytes (bytes_refused none it) = by_wrote IsRead tt tt it.wrote (λ _. tt)
  executed_read bytes (bytes_told it) = of_case end.closed it.1
    where
      of_case : (closed_run : Option Closed) → TellsCase view faults (told_by doors door end.door end.ends.items way) store before end.disk bytes had took end.status closed_run → IsRead end.status
      of_case (Some closed) it = by_wrote IsRead tt tt it.headline.report.2 (λ _. by_due IsRead (λ _. tt) (λ _ _. tt) (λ _ _. tt) (λ _ _. tt) it.headline.report.1)
      of_case None (has_failed on is nothing) = subst IsRead (sym is) tt
      of_case None (is_tape_refused on it) = by_wrote IsRead tt tt it.line (λ _. tt)

  executed_here : (command : Option Command) (left rest : Side) (has_ended : Type 0) (bytes : List ℕ) → command ≡ Some (Read (Execute way store)) → WasRead (Execute way store) left rest has_ended bytes
      → Answer_of bytes → LeavesDisk store view faults (Some bytes) before end.disk end.status end.closed → LeavesDoor doors (Some (Read (Execute way store))) end.closed door end.door end.ends.items end.status
      → Answers view faults doors command door before left.bytes has_ended had took end × LeavesInput (limit_in command) left rest has_ended end.status
      × LeavesDisk (is_stored command) view faults left.bytes before end.disk end.status end.closed × LeavesDoor doors command end.closed door end.door end.ends.items end.status
  executed_here command left rest has_ended bytes asked was it disk leaves =
      subst (λ (c : Option Command). Answers view faults doors c door before left.bytes has_ended had took end × LeavesInput (limit_in c) left rest has_ended end.status
      × LeavesDisk (is_stored c) view faults left.bytes before end.disk end.status end.closed × LeavesDoor doors c end.closed door end.door end.ends.items end.status) (sym asked) (
        input_whole bytes was.were_left was.few was.ended it,
        was.leaves end.status (λ is. subst IsRead is (executed_read bytes it)),
        disk_left store view faults left.bytes bytes before end.disk end.status end.closed was.were_left disk,
        leaves,
      )

  -- it was executed over this disk, with nothing written before
  pub executed : (disk : D) (mid : Side) → disk ≡ before → mid ≡ had → (command : Option Command) (left rest : Side) (has_ended : Type 0) (bytes : List ℕ) → command ≡ Some (Read (Execute way store))
      → WasRead (Execute way store) left rest has_ended bytes
      → AnswersBytes (Executed view faults doors door disk mid took end) (Execute way store) bytes mid took end.status end.closed end.world × LeavesDisk store view faults (Some bytes) disk end.disk end.status end.closed
      → LeavesDoor doors (Some (Read (Execute way store))) end.closed door end.door end.ends.items end.status
      → Answers view faults doors command door before left.bytes has_ended had took end × LeavesInput (limit_in command) left rest has_ended end.status
      × LeavesDisk (is_stored command) view faults left.bytes before end.disk end.status end.closed × LeavesDoor doors command end.closed door end.door end.ends.items end.status
  executed disk mid same nothing command left rest has_ended bytes asked was it leaves =
      let here = subst (λ (h : Side). AnswersBytes (Executed view faults doors door before h took end) (Execute way store) bytes h took end.status end.closed end.world) nothing
      (subst (λ (d : D). AnswersBytes (Executed view faults doors door d mid took end) (Execute way store) bytes mid took end.status end.closed end.world) same it.0) in
      executed_here command left rest has_ended bytes asked was here (subst (λ (d : D). LeavesDisk store view faults (Some bytes) d end.disk end.status end.closed) same it.1) leaves

-- ---- which fault was counted

pub read_failed_by : (limit : Option ℕ) (left rest : Side) (has_ended : Type 0) (status : Status) → LeavesInput limit left rest has_ended status → status ≡ ReadFault → Rose left.faults rest.faults
read_failed_by None left rest has_ended status it is = absurd (it.1 is)
read_failed_by (Some limit) left rest has_ended status it is = it.2.1 is

pub disk_failed_by : {D : Type 0} (view : D → DiskView) (faults : D → ℕ) (store : Bool) (left : Option (List ℕ)) (before after : D) (status : Status) (closed_run : Option Closed)
    → LeavesDisk store view faults left before after status closed_run → store ≡ true → status ≡ DiskFault → Rose (faults before) (faults after)
disk_failed_by view faults true left before after status closed_run it on is = it.counted is
disk_failed_by view faults false left before after status closed_run it on is = absurd cc

pub door_failed_by : {B L R : Type 0} (doors : Doors B L R) (sessions : Option ℕ) (closed_run : Option Closed) (before after : B) (ends : List (LinkEnd L R)) (status : Status)
    → LeavesFor doors sessions closed_run before after ends status → IsSome sessions → closed_run ≢ None → status ≡ DoorFault → Rose (doors.faults before) (doors.faults after)
door_failed_by doors (Some sessions) (Some closed) before after ends status it serves some is = it.failed is
door_failed_by doors (Some sessions) None before after ends status it serves some is = absurd (some refl)
door_failed_by doors None closed_run before after ends status it serves some is = absurd cc

-- ---- every command

each_left : (P : List ℕ → Type 0) → ((bytes : List ℕ) → P bytes) → (left : Option (List ℕ)) → IfSome left P
each_left P holds None = tt
each_left P holds (Some bytes) = holds bytes

more_left : (P Q : List ℕ → Type 0) → ((bytes : List ℕ) → P bytes → Q bytes) → (left : Option (List ℕ)) → IfSome left P → IfSome left Q
more_left P Q more None it = tt
more_left P Q more (Some bytes) it = more bytes it

by_left : (P : Option (List ℕ) → Type 0) → P None → (left : Option (List ℕ)) (bytes : List ℕ) → WereLeft left bytes → P (Some bytes) → P left
by_left P none None bytes read it = none
by_left P none (Some told) bytes read it = subst (λ b. P (Some b)) (sym read) it

module _ {D B L R : Type 0} (view : D → DiskView) (faults : D → ℕ) (doors : Doors B L R) (door : B) (before : D) (had took : Side) (end : End B D L R) (left : Option (List ℕ)) (has_ended : Type 0) where
  abbrev Answered : Option Command → Type 0
  Answered command = Answers view faults doors command door before left has_ended had took end

  abbrev Said : Option Command → Status → Type 0
  Said command = SaysAt command (view before) (view end.disk) left had took end.closed

  -- ---- how it ended

  module _ (one : VerdictIsOne) (accepted : AcceptedAreTheFormats) (lists : OneList) (none : NoCause) where
    told_ended : (reading : Reading) (bytes : List ℕ) → WereLeft left bytes → length bytes ≤ most_bytes reading
        → TellsBytes (Executed view faults doors door before had took end) reading bytes had took end.status end.closed end.world
        → IsEnded ⊥ (Said (Some (Read reading))) (IsAnswered reading (view before) bytes end.status) end.status had took
    told_ended (Execute way store) bytes read few it =
        case_ended view faults doors door end.door end.ends.items way store before end.disk bytes had took end.status left read accepted lists none end.closed it.1
    told_ended Replay bytes read few it = report_ended one (view before) (view end.disk) left bytes had took end.closed end.status read few it.1
    told_ended (Nodes number) bytes read few it = apart_ended (cases_are_accepted accepted) number (view before) (view end.disk) left bytes had took end.status end.closed end.world it
    told_ended Conform bytes read few it = log_ended (cases_are_accepted accepted) (view before) (view end.disk) left bytes had took end.closed end.status few it.1
    told_ended Adapt bytes read few it = stages_ended (view before) (view end.disk) left bytes had took end.status end.closed few it.1
    told_ended (Part site) bytes read few it = part_ended (cases_are_accepted accepted) site (view before) (view end.disk) left bytes had took end.closed end.status it.1

    bytes_ended : (reading : Reading) (bytes : List ℕ) → WereLeft left bytes → length bytes ≤ most_bytes reading
        → AnswersBytes (Executed view faults doors door before had took end) reading bytes had took end.status end.closed end.world
        → IsEnded ⊥ (Said (Some (Read reading))) (IsAnswered reading (view before) bytes end.status) end.status had took
    bytes_ended reading bytes read few (bytes_starved untold starved) =
        ended_starved ⊥ (Said (Some (Read reading))) (IsAnswered reading (view before) bytes end.status) tt starved (starved_answer reading (view before) bytes end.status starved.0)
    bytes_ended reading bytes read few (bytes_refused untold it) =
        ended_with ⊥ (Said (Some (Read reading))) (IsAnswered reading (view before) bytes end.status) tt tt tt it.wrote (λ adds. (reading, refl, refuses_bytes bytes read it.line it.refuses adds.0))
        (λ _ _ or. refused_answer reading (view before) bytes it.line end.status few it.refuses or)
    bytes_ended reading bytes read few (bytes_told it) = told_ended reading bytes read few it

    abbrev AnsweredBy : Option Command → Type 0
    AnsweredBy None = ⊤
    AnsweredBy (Some (Load number)) = IsOr Done end.status
    AnsweredBy (Some (Read reading)) = IfSome left (λ bytes. IsAnswered reading (view before) bytes end.status)

    pub ended : (command : Option Command) → Answered command → IsEnded ⊤ (Said command) (AnsweredBy command) end.status had took
    ended None it = ended_with ⊤ (Said None) ⊤ tt tt tt it.1.1 (λ adds. refl) (λ _ _ _. tt)
    ended (Some (Load number)) it =
        let e = load_ended number (view before) (view end.disk) left had took end.status end.closed it.1 in record { writes = e.writes; reads = λ _. tt; says = e.says; ends = e.ends }
    ended (Some (Read reading)) (input_unread untold (inl e) nothing) =
        ended_silent ⊤ (Said (Some (Read reading))) (AnsweredBy (Some (Read reading))) nothing (λ is. let wrong : ReadFault ≡ WriteFault = sym e ∙ is in cc) (λ _. tt) (subst (Said (Some (Read reading))) (sym e) tt)
        (λ unread _. absurd (unread e))
    ended (Some (Read reading)) (input_unread untold (inr e) nothing) =
        ended_starved ⊤ (Said (Some (Read reading))) (AnsweredBy (Some (Read reading))) tt (e, nothing)
        (each_left (λ bytes. IsAnswered reading (view before) bytes end.status) (λ bytes. starved_answer reading (view before) bytes end.status e) left)
    ended (Some (Read reading)) (input_long untold more line) =
        ended_with ⊤ (Said (Some (Read reading))) (AnsweredBy (Some (Read reading))) tt tt tt line (λ adds. (reading, refl, refuses_long more adds.0))
        (λ _ _ or. more_left (λ bytes. most_bytes reading < length bytes) (λ bytes. IsAnswered reading (view before) bytes end.status)
        (λ bytes long. long_answer reading (view before) bytes end.status long or) left more)
    ended (Some (Read reading)) (input_whole bytes read few was it) =
        let e = bytes_ended reading bytes read few it in record {
          writes = e.writes;
          reads = λ _. tt;
          says = e.says;
          ends = λ reads writes disks falls. of_left (λ b. IsAnswered reading (view before) b end.status) left bytes read (e.ends reads writes disks falls);
        }

    pub says_told : (command : Option Command) → Answered command → Says command (view before) (view end.disk) left had took end.closed end.status
    says_told command it = says_all command (view before) (view end.disk) left had took end.closed end.status (ended command it).says

    pub ends_by : (reads writes disks falls : Type 0) → (end.status ≡ ReadFault → reads) → (end.status ≡ WriteFault → writes) → (command : Option Command)
        → (is_stored command ≡ true → end.status ≡ DiskFault → disks) → (IsServing command → end.closed ≢ None → end.status ≡ DoorFault → falls) → Answered command
        → EndsAs command (view before) left reads writes disks falls end.status
    ends_by reads writes disks falls read_told write_told None disk_told door_told it =
        by_usage it.1.1
      where
        by_usage : Wrote Usage (codes "usage\n") end.status had took → (end.status ≡ Usage) ⊎ (end.status ≡ WriteFault)
        by_usage (wrote_all is adds) = inl is
        by_usage (write_failed is stopped fails) = inr is
        by_usage (write_starved is stopped same) = absurd (it.1.0 is)
    ends_by reads writes disks falls read_told write_told (Some (Load number)) disk_told door_told it = λ fine.
        let e = load_ended number (view before) (view end.disk) left had took end.status end.closed it.1 in
        e.ends e.reads (λ is. fine (write_told is)) (λ is. let wrong = subst (Said (Some (Load number))) is e.says in cc) (λ is. let wrong = (subst (Said (Some (Load number))) is e.says).0 in cc)
    ends_by reads writes disks falls read_told write_told (Some (Read reading)) disk_told door_told it = λ reads_fine writes_fine disks_fine falls_fine.
        let e = ended (Some (Read reading)) it in
        e.ends (λ is. reads_fine (read_told is)) (λ is. writes_fine (write_told is)) (λ is. let stored = subst (Said (Some (Read reading))) is e.says in disks_fine (stored, disk_told stored is))
        (λ is. let serves = subst (Said (Some (Read reading))) is e.says in falls_fine (serves.0, door_told serves.0 serves.1 is))

  -- ---- a run that is told

  -- of a case that is executed a run is told, or none
  run_or : (way : Way) (store : Bool) → Answered (Some (Read (Execute way store)))
      → (end.closed ≡ None) ⊎ ((bytes : List ℕ) × WereLeft left bytes × has_ended × Executed view faults doors door before had took end way store bytes)
  run_or way store (input_unread none why nothing) = inl none.0
  run_or way store (input_long none more line) = inl none.0
  run_or way store (input_whole bytes read few ended (bytes_starved none starved)) = inl none.0
  run_or way store (input_whole bytes read few ended (bytes_refused none it)) = inl none.0
  run_or way store (input_whole bytes read few ended (bytes_told it)) = inr (bytes, read, ended, it.1)

  abbrev TellsIt : Way → Bool → Closed → Type 0
  TellsIt way store closed = TellsRun view faults (told_by doors door end.door end.ends.items way) store before end.disk left has_ended had took end.status closed

  told_left : (way : Way) (store : Bool) (closed_run : Option Closed) (bytes : List ℕ) → WereLeft left bytes → has_ended
      → TellsCase view faults (told_by doors door end.door end.ends.items way) store before end.disk bytes had took end.status closed_run → IfSome closed_run (TellsIt way store)
  told_left way store None bytes read ended it = tt
  told_left way store (Some closed) bytes read ended it =
      tells_left view faults (told_by doors door end.door end.ends.items way) store before end.disk left has_ended bytes had took end.status closed read ended it

  pub headline_by : (command : Option Command) → Answered command → IsHeadline view faults doors command door before left has_ended had took end
  headline_by None it = tt
  headline_by (Some (Load number)) it = tt
  headline_by (Some (Read (Execute way store))) it = elim (run_or way store it) [
    | inl none ↦ subst (λ (c : Option Closed). IfSome c (TellsIt way store)) (sym none) tt
    | inr told ↦ told_left way store end.closed told.0 told.1 told.2 told.3
  ]
  headline_by (Some (Read Replay)) it = tt
  headline_by (Some (Read (Nodes number))) it = tt
  headline_by (Some (Read Conform)) it = tt
  headline_by (Some (Read Adapt)) it = tt
  headline_by (Some (Read (Part site))) it = tt

  pub converse_by : AcceptedAreTheFormats → OrderedIsTold → (command : Option Command) → Answered command → IsConverse command left end.closed
  converse_by law ordered None it = tt
  converse_by law ordered (Some (Load number)) it = tt
  converse_by law ordered (Some (Read (Execute (Run workers) store))) it = elim (run_or (Run workers) store it) [
    | inl none ↦ subst (λ (c : Option Closed). IsConverse (Some (Read (Execute (Run workers) store))) left c) (sym none)
        (each_left _ (λ bytes case is. tt) left, each_left _ (λ bytes case events executions is spelled spell. tt) left)
    | inr told ↦ (
      by_left (λ l. IsToldByOne workers l end.closed) tt left told.0 told.1 (told_by_one view faults law ordered workers store before end.disk had took end.status told.0 end.closed told.3),
      by_left (λ l. IsDoneThroughout l end.closed) tt left told.0 told.1 (done_throughout view faults law ordered workers store before end.disk had took end.status told.0 end.closed told.3),
    )
  ]
  converse_by law ordered (Some (Read (Execute (Serve sessions workers) store))) it = tt
  converse_by law ordered (Some (Read Replay)) it = tt
  converse_by law ordered (Some (Read (Nodes number))) it = tt
  converse_by law ordered (Some (Read Conform)) it = tt
  converse_by law ordered (Some (Read Adapt)) it = tt
  converse_by law ordered (Some (Read (Part site))) it = tt
