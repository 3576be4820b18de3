-- The text of a case: the compact JSON text of a case file in which the case is written.
use Rattle.std.specs.Prelude.{ℕ, codes, List, Some}
use Rattle.serde_json.specs.Data.{Data, string, object, no_members, member}
use Rattle.serde_json.specs.Written.{compact_text}
use Rattle.dcr_cover_json.specs.Text.{cover_value}
use Rattle.dcr_graph_json.specs.Build.{atom_names}
use Rattle.dcr_graph_json.specs.Text.{graph_value}
use Rattle.dcr_session_json.specs.Value.{sessions_value}
use Rattle.dcr_json.specs.Written.{Spelled, version_text}

-- a case: `cover`, `graph`, `sessions` and `version`
unfoldable pub case_value : Spelled → Data
case_value case =
    object (member (codes "cover") (cover_value (atom_names case.nested) case.cover)
    (member (codes "graph") (graph_value case.nested (Some case.opening))
    (member (codes "sessions") (sessions_value case.cover.names (atom_names case.nested) case.sessions)
    (member (codes "version") (string (version_text case.nested.version)) no_members))))

unfoldable pub case_text : Spelled → List ℕ
case_text case = compact_text (case_value case)
