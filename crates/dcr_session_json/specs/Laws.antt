-- That the value of sessions is read back.
use Rattle.std.specs.Prelude.{◌≡◌, ℕ, List, length, None, Some}
use Rattle.dcr_journal.specs.declared.call.Call.{Call}
use Rattle.dcr_line.specs.Known.{AreNames}
use Rattle.dcr_format.specs.Facts.{first}
use Rattle.dcr_session_json.specs.Accepted.{IsAcceptedSessions}
use Rattle.dcr_session_json.specs.Build.{build_facts, sessions_in}
use Rattle.dcr_session_json.specs.Limits.{limit_facts}
use Rattle.dcr_session_json.specs.Shape.{shape_facts}
use Rattle.dcr_session_json.specs.Value.{sessions_value}
use Rattle.dcr_session_json.specs.Written.{written_in}

-- the value of these sessions is read back by these names
pub record IsReadBack (sites names : List (List ℕ)) (made : List (List Call)) : Type 0 where
  pub shape : first (shape_facts (Some (sessions_value sites names made))) ≡ None
  pub limits : first (limit_facts (written_in (Some (sessions_value sites names made)))) ≡ None
  pub calls : first (build_facts sites names (written_in (Some (sessions_value sites names made)))) ≡ None
  pub sessions : sessions_in sites names (written_in (Some (sessions_value sites names made))) ≡ made

abbrev pub AreReadBack : Type 0
AreReadBack = (sites names : List (List ℕ)) → AreNames sites → AreNames names → (sessions : List (List Call)) → IsAcceptedSessions (length sites) (length names) sessions → IsReadBack sites names sessions
