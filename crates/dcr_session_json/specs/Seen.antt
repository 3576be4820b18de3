-- What contracts see of what is lent from a case file.
use Rattle.std.specs.Prelude.{List, map}
use Rattle.serde_json.specs.Data.{Data}
use Rattle.serde_json.specs.View.{view}
use Rattle.dcr_session_json.specs.declared.written.SessionText.{SessionText}

abbrev pub written : SessionText → List Data
written text = map view text.sessions.now
