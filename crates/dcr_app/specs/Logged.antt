-- What `conform` answers: how each trace of a log is judged, or why the input is refused.
use Rattle.std.specs.Prelude.{◌≡◌, ◌⊎◌, ℕ, ◌+◌, List, [], ◌∷◌, ◌++◌, codes, decimal, drop, length, nat_le, Option, Some, None, Result, Ok, Err, if◌then◌else◌}
use Rattle.dcr_base.specs.Side.{Side}
use Rattle.dcr_base.specs.declared.status.Status.{Status}
use Rattle.dcr_base.specs.declared.status.Status.TheVariants.{Done, Refused, NoMemory}
use Rattle.dcr_text.specs.Lines.{pieces_of}
use Rattle.dcr_graph.specs.GraphValue.{Flat}
use Rattle.dcr_nest.specs.FlatRelation.{IsFlattening}
use Rattle.dcr_json.specs.Written.{Spelled}
use Rattle.dcr_format.specs.declared.stop.CaseStop.TheVariants as stop
use Rattle.dcr_log.specs.Records.{Record, first_bad, records_of}
use Rattle.dcr_log.specs.Traces.{traces_of}
use Rattle.dcr_conform.specs.Judge.{AreJudged}
use Rattle.dcr_conform.specs.Lines.{judged_text}
use Rattle.dcr_conform.specs.declared.judged.Judged.{Judged}
use Rattle.dcr_roles.specs.Accepted.{HadMemory, case_accepted}
use Rattle.dcr_roles.specs.Laws.{AcceptsCase}
use Rattle.dcr_roles.specs.declared.accepted.AcceptStop.{AcceptStop}
use Rattle.dcr_roles.specs.declared.accepted.AcceptStop.TheVariants as accept
use Rattle.dcr_app.specs.Outside.{Wrote}
use Rattle.dcr_app.specs.Refusal.{refusal_line}

-- ---- the two parts of the input

-- the first of a text's pieces
abbrev pub first_piece : List (List ℕ) → List ℕ
first_piece [] = []
first_piece (piece ∷ pieces) = piece

-- the case file is what stands before the first line end
abbrev pub case_bytes : List ℕ → List ℕ
case_bytes bytes = first_piece (pieces_of 10 bytes)

-- and the log is what stands behind it; without a line end it is empty
abbrev pub log_bytes : List ℕ → List ℕ
log_bytes bytes = drop (length (case_bytes bytes) + 1) bytes

-- the records of the log, of which the first is its header
abbrev pub rows_in : List ℕ → List Record
rows_in bytes = records_of (log_bytes bytes)

-- ---- refusals

-- the case as which the first line is accepted, or its first refusal; an input of more than 16,777,216 bytes is too long
abbrev pub case_before_log : List ℕ → Result Spelled AcceptStop
case_before_log bytes = if nat_le (length bytes) 16777216 then case_accepted (case_bytes bytes) else Err (accept.Case stop.TooLong)

-- why an input is refused: for its case, or since the record of this number is the first bad one of its log
pub data InputRefusal : Type 0 where
  no_case : AcceptStop → InputRefusal
  bad_record : ℕ → InputRefusal

-- the line that tells of a bad record
abbrev pub record_line : ℕ → List ℕ
record_line row = codes "refused 15 log " ++ decimal row ++ codes "\n"

-- the line that tells it
abbrev pub input_line : InputRefusal → List ℕ
input_line (no_case why) = refusal_line why
input_line (bad_record row) = record_line row

-- the first refusal of the input's bytes is this one: of its case, or, where that is one, of its log
abbrev pub IsInputRefused : List ℕ → InputRefusal → Type 0
IsInputRefused bytes (no_case why) = (case_before_log bytes ≡ Err why) × HadMemory why
IsInputRefused bytes (bad_record row) = (case : Spelled) × (case_before_log bytes ≡ Ok case) × (first_bad (rows_in bytes) ≡ Some row)

-- ---- answers

-- The traces of the log were judged by the whole graph of the case, from its opening marking, and their lines were due.
pub record TellsLog (bytes : List ℕ) (had took : Side) (status : Status) : Type 0 where
  pub case : Spelled
  -- the first line is accepted as the case, and the log behind it has no bad record
  pub accepts : AcceptsCase (case_bytes bytes) case
  pub good : first_bad (rows_in bytes) ≡ None
  -- the flat graph of the case
  pub graph : Flat
  pub flat : IsFlattening case.nested graph
  -- one answer for each trace that the records spell, in order of first appearance
  pub answers : List Judged
  pub judged : AreJudged graph case.opening (traces_of (drop 1 (rows_in bytes))) answers
  -- what the output took are the lines of these answers, and then how many there are
  pub wrote : Wrote Done (judged_text graph.names (traces_of (drop 1 (rows_in bytes))) answers) status had took

-- what an input and an output that don't fail end with: a case and a log without a bad record are done, and others refused
abbrev pub EndsLog : Result Spelled AcceptStop → Option ℕ → Status → Type 0
EndsLog (Err why) found status = (status ≡ Refused) ⊎ (status ≡ NoMemory)
EndsLog (Ok case) (Some row) status = (status ≡ Refused) ⊎ (status ≡ NoMemory)
EndsLog (Ok case) None status = (status ≡ Done) ⊎ (status ≡ NoMemory)

abbrev pub IsAnsweredLog : List ℕ → Status → Type 0
IsAnsweredLog bytes status = EndsLog (case_before_log bytes) (first_bad (rows_in bytes)) status
