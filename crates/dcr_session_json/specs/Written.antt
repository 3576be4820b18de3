-- The sessions of a case file as they are written: the values of the sessions, and what their calls say.
use Rattle.std.specs.Prelude.{ℕ, List, [], Option, unwrap_or}
use Rattle.serde_json.specs.Data.{Data}
use Rattle.serde_json.specs.Find.{as_str}
use Rattle.dcr_format.specs.Members.{elements, elements_or_none}

-- the text of a call
abbrev pub text_in : Data → List ℕ
text_in call = unwrap_or (as_str call) []

-- the values of the calls of a session
abbrev pub calls_in : Data → List Data
calls_in session = unwrap_or (elements session) []

-- the values of the sessions in the member `sessions`, and none where there is no such member
abbrev pub written_in : Option Data → List Data
written_in sessions = unwrap_or (elements_or_none sessions) []
