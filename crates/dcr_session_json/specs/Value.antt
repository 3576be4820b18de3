-- The JSON value of sessions.
use Rattle.std.specs.Prelude.{ℕ, List, map}
use Rattle.serde_json.specs.Data.{Data, string, array}
use Rattle.serde_json.specs.View.{items_of}
use Rattle.dcr_journal.specs.declared.call.Call.{Call}
use Rattle.dcr_line.specs.Line.{call_text}

-- a call: its text
abbrev pub call_value : List (List ℕ) → List (List ℕ) → Call → Data
call_value sites names call = string (call_text sites names call)

abbrev pub call_values : List (List ℕ) → List (List ℕ) → List Call → List Data
call_values sites names calls = map (call_value sites names) calls

-- the sessions in order, each the array of its calls
abbrev pub session_values : List (List ℕ) → List (List ℕ) → List (List Call) → List Data
session_values sites names sessions = map (λ calls. array (items_of (call_values sites names calls))) sessions

abbrev pub sessions_value : List (List ℕ) → List (List ℕ) → List (List Call) → Data
sessions_value sites names sessions = array (items_of (session_values sites names sessions))
