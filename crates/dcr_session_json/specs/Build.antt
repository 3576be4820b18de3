-- The calls that sessions of the right shape write, and the facts by which they are calls. Sites and atoms are known by
-- their names.
use Rattle.std.specs.Prelude.{ℕ, List, length, map, Option, is_some, unwrap_or, slice_index_or}
use Rattle.serde_json.specs.Data.{Data, null}
use Rattle.dcr_journal.specs.declared.call.Call.{Call}
use Rattle.dcr_journal.specs.declared.call.Call.TheVariants.{Accepting}
use Rattle.dcr_line.specs.CallLine.{call_in}
use Rattle.dcr_format.specs.Facts.{Fact, each_below, facts_below}
use Rattle.dcr_format.specs.declared.stop.CaseStop.TheVariants.{CallLine}
use Rattle.dcr_session_json.specs.Written.{text_in, calls_in}

-- ---- what is written

-- the call that a text is
abbrev pub call_of : List (List ℕ) → List (List ℕ) → Data → Option Call
call_of sites names call = call_in sites names (text_in call)

-- the calls that the texts are
abbrev pub calls_of : List (List ℕ) → List (List ℕ) → List Data → List Call
calls_of sites names calls = map (λ call. unwrap_or (call_of sites names call) Accepting) calls

-- the calls of each session
unfoldable pub sessions_in : List (List ℕ) → List (List ℕ) → List Data → List (List Call)
sessions_in sites names sessions = map (λ session. calls_of sites names (calls_in session)) sessions

-- ---- the facts

-- each of the texts of session k is a call
abbrev pub calls_fact : List (List ℕ) → List (List ℕ) → ℕ → List Data → Fact
calls_fact sites names k calls = each_below (length calls) (λ j. is_some (call_of sites names (slice_index_or calls j null))) (CallLine k)

-- the session with a number
abbrev pub session_at : List Data → ℕ → Data
session_at sessions k = slice_index_or sessions k null

-- one for each session
unfoldable pub build_facts : List (List ℕ) → List (List ℕ) → List Data → List Fact
build_facts sites names sessions = facts_below (length sessions) (λ k. calls_fact sites names k (calls_in (session_at sessions k)))
