-- What `adapt` answers: the reports of stages, each of which goes on from where the one before it ended, or why the input is
-- refused.
use Rattle.std.specs.Prelude.{◌≡◌, ◌⊎◌, ℕ, zero, suc, ◌+◌, ◌-◌, ◌<◌, ◌≤◌, List, [], ◌∷◌, ◌++◌, codes, decimal, flat_map, length, map, take, Option, Some, None, Result, Ok, Err, IfSome}
use Rattle.std.specs.Io.KnownBytes.{Appends}
use Rattle.std.specs.List.{All, slice_get}
use Rattle.dcr_base.specs.Side.{Side}
use Rattle.dcr_base.specs.declared.status.Status.{Status}
use Rattle.dcr_base.specs.declared.status.Status.TheVariants.{Done, Refused, WriteFault, NoMemory}
use Rattle.dcr_set.specs.EventSet.{Set}
use Rattle.dcr_graph.specs.Cause.{waits}
use Rattle.dcr_graph.specs.GraphValue.{Flat, rules_of}
use Rattle.dcr_graph.specs.declared.marking.Marking.{Marking}
use Rattle.dcr_journal.specs.Run.{after, marks_at, told}
use Rattle.dcr_journal.specs.declared.call.Call.{Call}
use Rattle.dcr_journal.specs.declared.call.Entry.{Entry}
use Rattle.dcr_journal.specs.declared.closed.Closed.{Closed}
use Rattle.dcr_json.specs.Written.{Spelled}
use Rattle.dcr_report.specs.Report.{report_text}
use Rattle.dcr_replay.specs.Laws.{IsReport}
use Rattle.dcr_adapt.specs.Carried.{carried}
use Rattle.dcr_adapt.specs.Stages.{stages_in}
use Rattle.dcr_adapt.specs.declared.stop.StageStop.{StageStop}
use Rattle.dcr_adapt.specs.declared.stop.StageStop.TheVariants as stage
use Rattle.dcr_app.specs.Headline.{rules_in}
use Rattle.dcr_app.specs.Outside.{Wrote}
use Rattle.dcr_app.specs.Refusal.{case_line, policy_line}
use Rattle.dcr_app.specs.Stored.{IsRunOn}
use Rattle.dcr_app.specs.Telling.{atoms_in}

-- ---- a stage

-- a case, and the marking with which it begins
pub record Stage : Type 0 where
  pub case : Spelled
  pub opening : Marking

abbrev pub case_of_stage : Stage → Spelled
case_of_stage s = s.case

-- the told run of its sessions
abbrev pub history_of : Stage → List Entry
history_of s = told (rules_in s.case) s.case.cover.owned s.opening s.case.sessions

-- the marking with which it ends
abbrev pub ending_of : Stage → Marking
ending_of s = after (rules_in s.case) s.opening (history_of s)

-- its report
abbrev pub report_of : Stage → List ℕ
report_of s = report_text s.case.nested s.case.cover s.opening (history_of s)

-- the reports of stages, one after the other
abbrev pub reports_of : List Stage → List ℕ
reports_of stages = flat_map report_of stages

-- the first stage begins with this marking
abbrev pub BeginsAt : Marking → List Stage → Type 0
BeginsAt M stages = IfSome (slice_get stages 0) (λ s. s.opening ≡ M)

-- and each further one with what is carried to it from the end of the one before
abbrev pub GoesOn : List Stage → Type 0
GoesOn stages = (i : ℕ) (s t : Stage) → slice_get stages i ≡ Some s → slice_get stages (i + 1) ≡ Some t
    → t.opening ≡ carried (atoms_in s.case) (ending_of s) (atoms_in t.case) t.case.opening

-- the first begins as its file says
abbrev pub BeginsAsWritten : List Stage → Type 0
BeginsAsWritten stages = IfSome (slice_get stages 0) (λ s. s.opening ≡ s.case.opening)

-- ---- its run

-- this is what is told of its run
pub record IsRunOfStage (s : Stage) (closed : Closed) : Type 0 where
  pub opening : closed.opening ≡ s.opening
  pub history : closed.history.entries ≡ history_of s
  pub marks : closed.marks ≡ marks_at (rules_in s.case) s.case.cover.owned (ending_of s)
  pub waits : closed.waits ≡ waits (rules_in s.case).atoms (ending_of s)

-- the run of the last of so many stages is told; of none, what is told is the run before them, if there is one
abbrev pub IsToldOf : List Stage → Option Closed → ℕ → Option Closed → Type 0
IsToldOf stages before zero closed_run = closed_run ≡ before
IsToldOf stages before (suc k) closed_run = (s : Stage) × (closed : Closed) × (slice_get stages k ≡ Some s) × (closed_run ≡ Some closed) × IsRunOfStage s closed

-- Of these stages so many were run, each to its end, the last of which is told, and the reports of all were due. What was
-- written reaches behind the report of the one before the last, and not behind that of the last; where the output failed it
-- doesn't reach its end. Each report by itself is that of a legal history.
pub record RunsStages (stages : List Stage) (before : Option Closed) (had took : Side) (status : Status) (closed_run : Option Closed) : Type 0 where
  pub count : ℕ
  pub within : count ≤ length stages
  pub all : status ≡ Done → count ≡ length stages
  pub told : IsToldOf stages before count closed_run
  pub wrote : Wrote Done (reports_of stages) status had took
  pub reach : ℕ
  pub far : length (reports_of (take (count - 1) stages)) ≤ reach
  pub near : reach ≤ length (reports_of (take count stages))
  pub cut : status ≡ WriteFault → reach < length (reports_of (take count stages))
  pub front : Appends had.bytes took.bytes (take reach (reports_of (take count stages)))
  pub legal : All (λ (s : Stage). IsReport (report_of s) (length (history_of s))) (take count stages)

-- ---- refusals

-- the line that tells why the lines of a text are no stages; want of memory has none
abbrev pub stage_line : StageStop → List ℕ
stage_line (stage.Cases count) = codes "refused 14 cases " ++ decimal count ++ codes "\n"
stage_line (stage.Stage i why) = codes "case " ++ decimal i ++ codes " " ++ case_line why
stage_line (stage.Policy i why) = codes "case " ++ decimal i ++ codes " " ++ policy_line why
stage_line (stage.Dropped i name) = codes "case " ++ decimal i ++ codes " refused 13 dropped " ++ name ++ codes "\n"
stage_line stage.NoMemory = []

-- ---- answers

-- The stages that the bytes spell, one in each line, were run, one after the other, and their reports were due.
pub record TellsStages (bytes : List ℕ) (had took : Side) (status : Status) (closed_run : Option Closed) : Type 0 where
  pub stages : List Stage
  pub spelled : stages_in bytes ≡ Ok (map case_of_stage stages)
  pub first : BeginsAsWritten stages
  pub next : GoesOn stages
  pub runs : RunsStages stages None had took status closed_run

-- what was written with Done are reports of legal histories, each of which `replay` finds valid by itself
pub record WroteReports (had took : Option (List ℕ)) : Type 0 where
  pub stages : List Stage
  pub wrote : Appends had took (reports_of stages)
  pub legal : All (λ (s : Stage). IsReport (report_of s) (length (history_of s))) stages

-- what an input and an output that don't fail end with: stages are run, and other inputs refused
abbrev pub EndsStages : Result (List Spelled) StageStop → Status → Type 0
EndsStages (Err why) status = (status ≡ Refused) ⊎ (status ≡ NoMemory)
EndsStages (Ok cases) status = (status ≡ Done) ⊎ (status ≡ NoMemory)

pub record IsAnsweredStages (bytes : List ℕ) (status : Status) : Type 0 where
  pub long : 16777216 < length bytes → (status ≡ Refused) ⊎ (status ≡ NoMemory)
  pub short : length bytes ≤ 16777216 → EndsStages (stages_in bytes) status

-- ---- for private clauses

-- the stages of this case, which begins with M, and of those behind it
abbrev pub stages_from : Spelled → Marking → List Spelled → List Stage
stages_from case M [] = record { case = case; opening = M } ∷ []
stages_from case M (next ∷ rest) =
    let s : Stage = record { case = case; opening = M } in
    s ∷ stages_from next (carried (atoms_in case) (ending_of s) (atoms_in next) next.opening) rest

-- what is told of a run of these sessions on the sites of a graph, from M
pub record RanAlone (graph : Flat) (C : List Set) (M : Marking) (sessions : List (List Call)) (closed : Closed) : Type 0 where
  pub opening : closed.opening ≡ M
  pub history : closed.history.entries ≡ told (rules_of graph) C M sessions
  pub run : IsRunOn graph C closed
  pub few : length closed.history.entries ≤ 200000
  pub no_other : All (λ (entry : Entry). entry.session < length sessions) closed.history.entries
