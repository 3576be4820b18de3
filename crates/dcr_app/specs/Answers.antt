-- What each command answers.
use Rattle.std.specs.Prelude.{◌≡◌, ◌≢◌, ◌⊎◌, ℕ, ◌<◌, ◌≤◌, Bool, true, false, IsTrue, List, [], ◌∷◌, ◌++◌, codes, decimal, length, Option, Some, None, Result, Ok, Err, IfSome, ⊤}
use Rattle.std.specs.Io.KnownBytes.{Appends}
use Rattle.std.specs.List.{All}
use Rattle.dcr_base.specs.Disk.{DiskView}
use Rattle.dcr_base.specs.Side.{Adds, Side}
use Rattle.dcr_base.specs.declared.status.Status.{Status}
use Rattle.dcr_base.specs.declared.status.Status.TheVariants.{Done, Usage, Refused, ReadFault, WriteFault, NoMemory, DiskFault, Invalid, Full, TapeRefused, DoorFault}
use Rattle.dcr_journal.specs.Run.{HasNoFault, told}
use Rattle.dcr_journal.specs.declared.call.Entry.{Entry}
use Rattle.dcr_journal.specs.declared.call.Outcome.TheVariants as outcome
use Rattle.dcr_journal.specs.declared.closed.Closed.{Closed}
use Rattle.dcr_laws.specs.Laws.{IsRun, Spell, calls_for}
use Rattle.dcr_tape.specs.Opening.{most_records}
use Rattle.dcr_tape.specs.Tape.{StandsFor}
use Rattle.dcr_tape.specs.declared.cause.TapeCause.{TapeCause}
use Rattle.dcr_tape.specs.declared.entry.TapeEntry.{TapeEntry}
use Rattle.dcr_tape.specs.declared.tape.Store.{Store}
use Rattle.dcr_cell.specs.Stored.{IsTaped}
use Rattle.dcr_cluster.specs.Opening.{ArePossible}
use Rattle.dcr_engine.specs.Served.{most_served}
use Rattle.dcr_node.specs.WorldState.{WorldState}
use Rattle.dcr_schedule.specs.Apart.{HasRunApart}
use Rattle.dcr_schedule.specs.Executions.{exec_calls}
use Rattle.dcr_json.specs.Written.{Spelled}
use Rattle.dcr_format.specs.declared.stop.CaseStop.TheVariants as stop
use Rattle.dcr_adapt.specs.Stages.{stages_in}
use Rattle.dcr_adapt.specs.declared.stop.StageStop.{StageStop}
use Rattle.dcr_adapt.specs.declared.stop.StageStop.TheVariants as stage
use Rattle.dcr_report.specs.Report.{report_text}
use Rattle.dcr_replay.specs.FirstWrong.{IsVerdict}
use Rattle.dcr_replay.specs.Laws.{IsReport}
use Rattle.dcr_replay.specs.LeastWrong.{IsLeastWrong}
use Rattle.dcr_replay.specs.Words.{word_of}
use Rattle.dcr_replay.specs.declared.verdict.Verdict.{Verdict}
use Rattle.dcr_replay.specs.declared.verdict.Verdict.TheVariants as verdict
use Rattle.dcr_replay.specs.declared.verdict.Wrong.{Wrong}
use Rattle.dcr_policy.specs.Roles.{Roles}
use Rattle.dcr_roles.specs.Accepted.{HadMemory, IsAccepted, accepted_in, both_of, case_accepted}
use Rattle.dcr_roles.specs.Laws.{AcceptsCase}
use Rattle.dcr_roles.specs.declared.accepted.Accepted.{Accepted}
use Rattle.dcr_roles.specs.declared.accepted.AcceptStop.{AcceptStop}
use Rattle.dcr_app.specs.Adapted.{IsAnsweredStages, TellsStages, WroteReports, stage_line}
use Rattle.dcr_app.specs.Headline.{Headline, cluster_in, digest_of, rules_in}
use Rattle.dcr_app.specs.Loaded.{AnswersLoad}
use Rattle.dcr_app.specs.Logged.{InputRefusal, IsAnsweredLog, IsInputRefused, TellsLog, input_line}
use Rattle.dcr_app.specs.Command.{IsWay}
use Rattle.dcr_app.specs.Outside.{IsStarved, LeavesInput, WereLeft, Wrote, limit_in, most_bytes}
use Rattle.dcr_app.specs.Parted.{EndsPart, RefusesPart, TellsPart}
use Rattle.dcr_app.specs.Refusal.{case_line, refusal_line}
use Rattle.dcr_app.specs.Stored.{KeepsRun, RefusesTape, ShowsCause, tape_line}
use Rattle.dcr_app.specs.Telling.{IsServing, Telling, told_by}
use Rattle.dcr_base.specs.Door.{Doors}
use Rattle.dcr_app.specs.declared.answer.Answer.{Answer}
use Rattle.dcr_app.specs.declared.app.End.{End}
use Rattle.dcr_app.specs.declared.app.Task.{Task}
use Rattle.dcr_app.specs.declared.app.Task.TheVariants as task
use Rattle.dcr_app.specs.declared.command.Command.{Command}
use Rattle.dcr_app.specs.declared.command.Command.TheVariants.{Load, Read}
use Rattle.dcr_app.specs.declared.command.Reading.{Reading}
use Rattle.dcr_app.specs.declared.command.Reading.TheVariants.{Execute, Replay, Nodes, Conform, Adapt, Part}
use Rattle.dcr_app.specs.declared.command.Way.{Way}
use Rattle.dcr_app.specs.declared.command.Way.TheVariants.{Run, Serve}

-- ---- refusals

-- this is the line of the first refusal of these bytes
abbrev pub RefusesBytes : Reading → List ℕ → List ℕ → Type 0
RefusesBytes Replay bytes line = ⊥
RefusesBytes Conform bytes line = (why : InputRefusal) × IsInputRefused bytes why × (line ≡ input_line why)
RefusesBytes Adapt bytes line = (why : StageStop) × (stages_in bytes ≡ Err why) × (why ≢ stage.NoMemory) × (line ≡ stage_line why)
RefusesBytes (Part site) bytes line = RefusesPart site bytes line
RefusesBytes reading bytes line = (why : AcceptStop) × (case_accepted bytes ≡ Err why) × HadMemory why × (line ≡ refusal_line why)

-- the bytes are refused, and the line of the first refusal was due
pub record IsRefused (reading : Reading) (bytes : List ℕ) (had took : Side) (status : Status) : Type 0 where
  pub line : List ℕ
  pub refuses : RefusesBytes reading bytes line
  pub wrote : Wrote Refused line status had took

-- ---- `run` and `serve`

-- A run is told: it is the headline's, its report is one that `replay` finds valid, and the disk has what it did. With a store it
-- goes on from these executions, which can all be done, each after those before it.
pub record TellsRun {D : Type 0} (view : D → DiskView) (faults : D → ℕ) (telling : Telling D) (store : Bool) (before after : D) (left : Option (List ℕ)) (has_ended : Type 0)
    (had took : Side) (status : Status) (closed : Closed) : Type 0 where
  pub case : Spelled
  pub policy : Roles
  pub old : List TapeEntry
  pub few : length old ≤ most_records
  pub possible : ArePossible (cluster_in case old) (length old)
  pub first : Store D
  -- it is a tape where there is a store
  pub taped : IsTaped (Some first) → store ≡ true
  pub headline : Headline telling store (view before) first case policy old left has_ended had took status closed
  pub legal : IsReport (report_text case.nested case.cover closed.opening closed.history.entries) (length closed.history.entries)
  pub disk : KeepsRun store view faults (digest_of case) old closed.history.entries before after

-- The bytes are accepted, and the disk, which wasn't empty, is refused as the tape of their case: the line of a cause that
-- stands in its content was due. The disk tells that content and still has it.
pub record IsTapeRefused (bytes : List ℕ) (before after : DiskView) (had took : Side) (status : Status) : Type 0 where
  pub case : Spelled
  pub spelled : case_accepted bytes ≡ Ok case
  pub cause : TapeCause
  pub shows : ShowsCause case before after cause
  pub line : Wrote TapeRefused (tape_line cause) status had took

-- Why no run of a case is told: with a store, the disk failed before any call was made and nothing was written, or it is refused
-- as the tape of the case.
pub data TellsNone (store : Bool) (before after : DiskView) (bytes : List ℕ) (had took : Side) (status : Status) : Type 0 where
  has_failed : store ≡ true → status ≡ DiskFault → Adds [] had took → TellsNone store before after bytes had took status
  is_tape_refused : store ≡ true → IsTapeRefused bytes before after had took status → TellsNone store before after bytes had took status

-- what comes of a case that is executed: a run that is told is the headline's
abbrev pub TellsCase : {D : Type 0} → (D → DiskView) → (D → ℕ) → Telling D → Bool → D → D → List ℕ → Side → Side → Status → Option Closed → Type 0
TellsCase view faults telling store before after bytes had took status (Some closed) =
    TellsRun view faults telling store before after (Some bytes) ⊤ had took status closed
TellsCase view faults telling store before after bytes had took status None = TellsNone store (view before) (view after) bytes had took status

-- The run of a single worker in which nothing failed is the told one: the sessions one after the other. And a case of a
-- single session that spells a run of the graph from where it begins, each event at a site that owns it, is answered by
-- done at each of its calls, by however many workers.
abbrev pub IsToldByOne : ℕ → Option (List ℕ) → Option Closed → Type 0
IsToldByOne workers left closed_run = IfSome left (λ bytes. (case : Spelled) → case_accepted bytes ≡ Ok case
    → IfSome closed_run (λ closed. workers ≡ 1 → HasNoFault closed.history.entries
    → closed.history.entries ≡ told (rules_in case) case.cover.owned closed.opening case.sessions))

abbrev pub IsDoneThroughout : Option (List ℕ) → Option Closed → Type 0
IsDoneThroughout left closed_run = IfSome left (λ bytes. (case : Spelled) (events : List ℕ) (executions : List (ℕ × ℕ)) → case_accepted bytes ≡ Ok case
    → case.sessions ≡ calls_for executions ∷ [] → Spell case.cover.owned events executions
    → IfSome closed_run (λ closed. IsRun (rules_in case) closed.opening events → HasNoFault closed.history.entries
    → All (λ (entry : Entry). entry.outcome ≡ outcome.Done) closed.history.entries))

-- what is told of a run the other way round
abbrev pub IsConverse : Option Command → Option (List ℕ) → Option Closed → Type 0
IsConverse (Some (Read (Execute (Run workers) store))) left closed_run = IsToldByOne workers left closed_run × IsDoneThroughout left closed_run
IsConverse command left closed_run = ⊤

-- ---- `replay`

abbrev pub verdict_line : Verdict → List ℕ
verdict_line (verdict.Valid count) = codes "valid " ++ decimal count ++ codes "\n"
verdict_line (verdict.Invalid line kind) = codes "invalid " ++ decimal line ++ codes " " ++ word_of kind ++ codes "\n"

abbrev pub verdict_status : Verdict → Status
verdict_status (verdict.Valid count) = Done
verdict_status (verdict.Invalid line kind) = Invalid

-- the bytes were checked, and the line of their verdict was due
pub record IsChecked (bytes : List ℕ) (had took : Side) (status : Status) : Type 0 where
  pub found : Verdict
  pub is : IsVerdict bytes found
  pub line : Wrote (verdict_status found) (verdict_line found) status had took

-- ---- `nodes`

-- The executions of the case that these bytes spell were run at sites apart, and the report of that run was due.
pub record TellsApart (bytes : List ℕ) (had took : Side) (status : Status) (closed : Closed) (world : WorldState) : Type 0 where
  pub case : Spelled
  pub accepts : AcceptsCase bytes case
  -- the world is one over the case's graph, cover and opening marking, its journal is the told run of the executions,
  -- every site has heard of its whole stream, and the run that is told is how the world closed
  pub ran : HasRunApart (rules_in case) case.cover.owned case.opening case.sessions world closed
  -- what the output took is the report of that run, which `replay` finds valid
  pub report : Wrote Done (report_text case.nested case.cover closed.opening closed.history.entries) status had took
  pub history : closed.history.entries ≡ told (rules_in case) case.cover.owned case.opening (exec_calls case.sessions)
  pub legal : IsReport (report_text case.nested case.cover closed.opening closed.history.entries) (length closed.history.entries)

abbrev pub TellsNodes : List ℕ → Side → Side → Status → Option Closed → Option WorldState → Type 0
TellsNodes bytes had took status (Some closed) (Some world) = TellsApart bytes had took status closed world
TellsNodes bytes had took status closed_run world = ⊥

-- ---- every command

-- whether the command keeps its executions in a store
abbrev pub is_stored : Option Command → Bool
is_stored (Some (Read (Execute way store))) = store
is_stored command = false

-- no run is told, and no world
abbrev pub IsUntold : Option Closed → Option WorldState → Type 0
IsUntold closed_run world = (closed_run ≡ None) × (world ≡ None)

-- What is told where the bytes of an input are not refused: by a case that is executed what `OfCase` says of it; of a report its verdict; of a
-- case with a log behind it how each trace is judged; of several cases the reports of their runs, each of which goes on from the one before;
-- of a case and the name of a site that site's part.
abbrev pub TellsBytes : (Way → Bool → List ℕ → Type 0) → Reading → List ℕ → Side → Side → Status → Option Closed → Option WorldState → Type 0
TellsBytes OfCase (Execute way store) bytes had took status closed_run world = (world ≡ None) × OfCase way store bytes
TellsBytes OfCase Replay bytes had took status closed_run world = IsUntold closed_run world × IsChecked bytes had took status
TellsBytes OfCase (Nodes number) bytes had took status closed_run world = TellsNodes bytes had took status closed_run world
TellsBytes OfCase Conform bytes had took status closed_run world = IsUntold closed_run world × TellsLog bytes had took status
TellsBytes OfCase Adapt bytes had took status closed_run world = (world ≡ None) × TellsStages bytes had took status closed_run
TellsBytes OfCase (Part site) bytes had took status closed_run world = IsUntold closed_run world × TellsPart site bytes had took status

-- What comes of the bytes of an input: memory ran out before anything was written; they are refused; or this is told.
pub data FromBytes (reading : Reading) (bytes : List ℕ) (had took : Side) (status : Status) (IsNone IsTold : Type 0) : Type 0 where
  bytes_starved : IsNone → IsStarved status had took → FromBytes reading bytes had took status IsNone IsTold
  bytes_refused : IsNone → IsRefused reading bytes had took status → FromBytes reading bytes had took status IsNone IsTold
  bytes_told : IsTold → FromBytes reading bytes had took status IsNone IsTold

abbrev pub AnswersBytes : (Way → Bool → List ℕ → Type 0) → Reading → List ℕ → Side → Side → Status → Option Closed → Option WorldState → Type 0
AnswersBytes OfCase reading bytes had took status closed_run world =
    FromBytes reading bytes had took status (IsUntold closed_run world) (TellsBytes OfCase reading bytes had took status closed_run world)

-- What comes of a command that reads its input: a read failed or memory ran out, before anything was written; there were too many bytes; or
-- all were read, which are those that the input had left, and these were answered.
pub data FromInput (reading : Reading) (left : Option (List ℕ)) (has_ended : Type 0) (had took : Side) (status : Status) (IsNone : Type 0) (IsAnswered : List ℕ → Type 0) : Type 0 where
  input_unread : IsNone → (status ≡ ReadFault) ⊎ (status ≡ NoMemory) → Adds [] had took → FromInput reading left has_ended had took status IsNone IsAnswered
  input_long : IsNone → IfSome left (λ bytes. most_bytes reading < length bytes) → Wrote Refused (case_line stop.TooLong) status had took
      → FromInput reading left has_ended had took status IsNone IsAnswered
  input_whole : (bytes : List ℕ) → WereLeft left bytes → length bytes ≤ most_bytes reading → has_ended → IsAnswered bytes
      → FromInput reading left has_ended had took status IsNone IsAnswered

-- What a command answers: to words that are none the line `usage`; to a number the run of its case; else what comes of its input.
abbrev pub AnswersWith : (Way → Bool → List ℕ → Type 0) → Option Command → Option (List ℕ) → Type 0 → Side → Side → Status → Option Closed → Option WorldState → Type 0
AnswersWith OfCase None left has_ended had took status closed_run world =
    IsUntold closed_run world × ((status ≢ NoMemory) × Wrote Usage (codes "usage\n") status had took)
AnswersWith OfCase (Some (Load number)) left has_ended had took status closed_run world = (world ≡ None) × AnswersLoad number had took status closed_run
AnswersWith OfCase (Some (Read reading)) left has_ended had took status closed_run world =
    FromInput reading left has_ended had took status (IsUntold closed_run world) (λ bytes. AnswersBytes OfCase reading bytes had took status closed_run world)

-- what the end tells of a case that is executed in this way
abbrev pub Executed : {D B L R : Type 0} → (D → DiskView) → (D → ℕ) → Doors B L R → B → D → Side → Side → End B D L R → Way → Bool → List ℕ → Type 0
Executed view faults doors door before had took end way store bytes =
    TellsCase view faults (told_by doors door end.door end.ends.items way) store before end.disk bytes had took end.status end.closed

-- What the program answers, where a case that is executed is told by its run, that of its own sessions or of those over links. `doors` is
-- what the door and its links tell, `door` is the door at entry and `before` the disk. `left` is what the input had left at entry, where it
-- tells that, and `has_ended` that it has come to its end; `had` is what the output had taken at entry, and `took` what it has taken now,
-- where it tells that.
abbrev pub Answers : {D B L R : Type 0} → (D → DiskView) → (D → ℕ) → Doors B L R → Option Command → B → D → Option (List ℕ) → Type 0 → Side → Side → End B D L R → Type 0
Answers view faults doors command door before left has_ended had took end =
    AnswersWith (Executed view faults doors door before had took end) command left has_ended had took end.status end.closed end.world

-- A run of a case that `run` or `serve` tells is the headline's, whatever the status. `answers` says so too, of each command and with the
-- other answers; this is the part of it that is cited alone. `TellsRun` has besides the headline what `replay` finds and what the disk has.
abbrev pub IsHeadline : {D B L R : Type 0} → (D → DiskView) → (D → ℕ) → Doors B L R → Option Command → B → D → Option (List ℕ) → Type 0 → Side → Side → End B D L R → Type 0
IsHeadline view faults doors (Some (Read (Execute way store))) door before left has_ended had took end =
    IfSome end.closed (λ closed. TellsRun view faults (told_by doors door end.door end.ends.items way) store before end.disk left has_ended had took end.status closed)
IsHeadline view faults doors command door before left has_ended had took end = ⊤

-- ---- what each status says

-- whether the command writes one report of a run that it tells
abbrev pub IsReporting : Option Command → Type 0
IsReporting (Some (Read (Execute way store))) = ⊤
IsReporting (Some (Read (Nodes number))) = ⊤
IsReporting command = ⊥

-- the report that was written is that of a legal history, so that `replay` finds it valid
abbrev pub WroteReport : Option (List ℕ) → Option (List ℕ) → Option Closed → Type 0
WroteReport had took closed_run = IfSome closed_run (λ closed. (text : List ℕ) × Appends had took text × IsReport text (length closed.history.entries))

-- the line that was written says that the input is the report of a legal history, with the number of its entries
pub record SaysValid (left had took : Option (List ℕ)) : Type 0 where
  pub count : ℕ
  pub report : IfSome left (λ bytes. IsReport bytes count)
  pub wrote : Appends had took (codes "valid " ++ decimal count ++ codes "\n")

-- The line that was written says which line of the input is the first wrong one: the lines before it begin the report of a
-- legal history, and with it they begin none. So the input is no such report.
pub record SaysInvalid (left had took : Option (List ℕ)) : Type 0 where
  pub line : ℕ
  pub kind : Wrong
  pub first : IfSome left (λ bytes. IsVerdict bytes (verdict.Invalid line kind))
  pub least : IfSome left (λ bytes. IsLeastWrong bytes line)
  pub no_report : IfSome left (λ bytes. (count : ℕ) → IsReport bytes count → ⊥)
  pub wrote : Appends had took (verdict_line (verdict.Invalid line kind))

-- the line that was written says why the input is refused: that it has too many bytes, or the first refusal of its bytes
pub data Refuses (reading : Reading) (left had took : Option (List ℕ)) : Type 0 where
  refuses_long : IfSome left (λ bytes. most_bytes reading < length bytes) → Appends had took (case_line stop.TooLong) → Refuses reading left had took
  refuses_bytes : (bytes : List ℕ) → WereLeft left bytes → (line : List ℕ) → RefusesBytes reading bytes line → Appends had took line → Refuses reading left had took

-- What each status says: of what was written, and with which command it comes. `before` and `after` are the disk at entry and now.
abbrev pub Says : Option Command → DiskView → DiskView → Option (List ℕ) → Side → Side → Option Closed → Status → Type 0
Says command before after left had took closed_run status =
    (status ≡ Done → IsReporting command → WroteReport had.bytes took.bytes closed_run)
    × (status ≡ Done → command ≡ Some (Read Replay) → SaysValid left had.bytes took.bytes)
    × (status ≡ Done → command ≡ Some (Read Adapt) → WroteReports had.bytes took.bytes)
    × (status ≡ Invalid → (command ≡ Some (Read Replay)) × SaysInvalid left had.bytes took.bytes)
    × (status ≡ Usage → command ≡ None)
    × (status ≡ Refused → (reading : Reading) × (command ≡ Some (Read reading)) × Refuses reading left had.bytes took.bytes)
    × (status ≡ TapeRefused → (is_stored command ≡ true) × ((bytes : List ℕ) × WereLeft left bytes × IsTapeRefused bytes before after had took TapeRefused))
    × (status ≡ DiskFault → is_stored command ≡ true)
    × (status ≡ Full → IsServing command × IfSome closed_run (λ closed. length closed.history.entries ≡ most_served))
    × (status ≡ DoorFault → IsServing command × (closed_run ≢ None))

-- ---- where nothing fails

-- what an input, an output and a disk that don't fail can end with, where these statuses are due
abbrev pub IsOr : Status → Status → Type 0
IsOr due status = (status ≡ due) ⊎ (status ≡ NoMemory)

-- what the execution of a case ends with where nothing fails
abbrev pub EndsRun : Way → Status → Type 0
EndsRun (Run workers) status = IsOr Done status
EndsRun (Serve sessions workers) status = (status ≡ Full) ⊎ IsOr Done status

-- A disk that is empty or stands for executions that can be done is gone on from; one that is refused as a tape is refused.
pub record IsAnsweredTape (IsDone : Status → Type 0) (case : Spelled) (content : List ℕ) (status : Status) : Type 0 where
  pub empty : content ≡ [] → IsDone status
  pub goes_on : (old : List TapeEntry) → StandsFor (digest_of case) old content → length old ≤ most_records → ArePossible (cluster_in case old) (length old)
      → IsDone status
  pub refused : (cause : TapeCause) → content ≢ [] → RefusesTape case content cause → IsOr TapeRefused status

-- a case is done, where its tape is not refused, and other bytes are refused
abbrev pub IsAnsweredCase : (Status → Type 0) → Bool → DiskView → Result Spelled AcceptStop → Status → Type 0
IsAnsweredCase IsDone store disk (Err why) status = IsOr Refused status
IsAnsweredCase IsDone false disk (Ok case) status = IsDone status
IsAnsweredCase IsDone true disk (Ok case) status = IsTrue disk.told → IsAnsweredTape IsDone case disk.content status

-- a text within the limit is found valid or invalid, by its verdict, and a longer one is refused
abbrev pub IsAnsweredReport : List ℕ → Status → Type 0
IsAnsweredReport bytes status =
    (268435456 < length bytes → IsOr Refused status)
    × (length bytes ≤ 268435456 → (verdict : Verdict) → IsVerdict bytes verdict → IsOr (verdict_status verdict) status)

-- What the bytes that the input had left are answered by, where the disk tells this.
abbrev pub IsAnswered : Reading → DiskView → List ℕ → Status → Type 0
IsAnswered (Execute way store) disk bytes status = IsAnsweredCase (EndsRun way) store disk (case_accepted bytes) status
IsAnswered Replay disk bytes status = IsAnsweredReport bytes status
IsAnswered (Nodes number) disk bytes status = IsAnsweredCase (IsOr Done) false disk (case_accepted bytes) status
IsAnswered Conform disk bytes status = IsAnsweredLog bytes status
IsAnswered Adapt disk bytes status = IsAnsweredStages bytes status
IsAnswered (Part site) disk bytes status = EndsPart site (case_accepted bytes) status

-- What the program ends with unless one of these came: a failed read, a failed write, and, where the command calls them, a failed disk
-- and a failed door.
abbrev pub EndsAs : Option Command → DiskView → Option (List ℕ) → Type 0 → Type 0 → Type 0 → Type 0 → Status → Type 0
EndsAs None disk left reads_failed writes_failed disks_failed doors_failed status = (status ≡ Usage) ⊎ (status ≡ WriteFault)
EndsAs (Some (Load number)) disk left reads_failed writes_failed disks_failed doors_failed status = (writes_failed → ⊥) → IsOr Done status
EndsAs (Some (Read reading)) disk left reads_failed writes_failed disks_failed doors_failed status =
    (reads_failed → ⊥) → (writes_failed → ⊥) → ((is_stored (Some (Read reading)) ≡ true) × disks_failed → ⊥) → (IsServing (Some (Read reading)) × doors_failed → ⊥)
    → IfSome left (λ bytes. IsAnswered reading disk bytes status)

-- ---- for private clauses

-- what comes of the bytes of an input where no case is executed
abbrev pub AnswersPlain : Reading → List ℕ → Side → Side → Answer → Type 0
AnswersPlain reading bytes had took answer = AnswersBytes (λ way store bytes. ⊥) reading bytes had took answer.0 answer.1 answer.2

-- This line of a refusal was due, or memory ran out before it. `is_one` is that the refusal is none for want of memory.
abbrev pub RefusesBy : Type 0 → List ℕ → Side → Side → Answer → Type 0
RefusesBy is_one line had took answer = IsUntold answer.1 answer.2 × (IsStarved answer.0 had took ⊎ (is_one × Wrote Refused line answer.0 had took))

-- The bytes are accepted, and are to be executed in this way, with a store or without one; nothing was written.
pub record IsToExecute (reading : Reading) (bytes : List ℕ) (had took : Side) (way : Way) (store : Bool) (accepted : Accepted) : Type 0 where
  pub asked : reading ≡ Execute way store
  pub numbers : IsWay way
  pub fits : IsAccepted accepted
  pub spelled : accepted_in bytes ≡ Ok (both_of accepted)
  pub nothing : took ≡ had

-- what is left to do of these bytes
abbrev pub IsTaskOf : Reading → List ℕ → Side → Side → Task → Type 0
IsTaskOf reading bytes had took (task.Answered answer) = AnswersPlain reading bytes had took answer
IsTaskOf reading bytes had took (task.Execute way store accepted) = IsToExecute reading bytes had took way store accepted

-- The input was read whole, which has `rest` left: a command that reads it may end with any status but that of a failed read.
pub record WasRead (reading : Reading) (left rest : Side) (has_ended : Type 0) (bytes : List ℕ) : Type 0 where
  pub were_left : WereLeft left.bytes bytes
  pub few : length bytes ≤ most_bytes reading
  pub ended : has_ended
  pub leaves : (status : Status) → status ≢ ReadFault → LeavesInput (Some (most_bytes reading)) left rest has_ended status

-- what is left to do where the words were read, and the input where they ask for that, which has `rest` left
abbrev pub IsTask : Option Command → Side → Side → Type 0 → Side → Side → Task → Type 0
IsTask command left rest has_ended had took (task.Answered answer) =
    AnswersWith (λ way store bytes. ⊥) command left.bytes has_ended had took answer.0 answer.1 answer.2 × LeavesInput (limit_in command) left rest has_ended answer.0
IsTask command left rest has_ended had took (task.Execute way store accepted) =
    (command ≡ Some (Read (Execute way store)))
    × ((bytes : List ℕ) × WasRead (Execute way store) left rest has_ended bytes × IsToExecute (Execute way store) bytes had took way store accepted)
