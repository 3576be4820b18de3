-- A case file as it is written, member by member, and the case that is meant.
use Rattle.std.specs.Prelude.{ℕ, codes, List, Option, Some, None, unwrap_or, if◌then◌else◌}
use Rattle.std.specs.Option.{option_and_then}
use Rattle.std.specs.Str.{bytes_eq}
use Rattle.serde_json.specs.Data.{Data}
use Rattle.serde_json.specs.Find.{get, as_object, as_str}
use Rattle.dcr_graph.specs.declared.marking.Marking.{Marking}
use Rattle.dcr_nest.specs.Nest.{Nest}
use Rattle.dcr_nest.specs.declared.node.Version.{Version}
use Rattle.dcr_nest.specs.declared.node.Version.TheVariants.{V1, V2}
use Rattle.dcr_proj.specs.CoverValue.{Owners}
use Rattle.dcr_journal.specs.declared.call.Call.{Call}
use Rattle.dcr_graph_json.specs.Build.{atom_names, nest_in, opening_in}
use Rattle.dcr_graph_json.specs.Shape.{written_in as graph_in}
use Rattle.dcr_graph_json.specs.Written.{Written as Graph}
use Rattle.dcr_cover_json.specs.Shape.{sites_in}
use Rattle.dcr_cover_json.specs.Sites.{Site, cover_in}
use Rattle.dcr_session_json.specs.Build.{sessions_in as calls_in}
use Rattle.dcr_session_json.specs.Written.{written_in as sessions_in}

-- ---- the version

-- the third is the second, with roles besides
abbrev pub version_named : List ℕ → Option Version
version_named text = if bytes_eq text (codes "1") then Some V1 else (if bytes_eq text (codes "2") then Some V2 else (if bytes_eq text (codes "3") then Some V2 else None))

-- the version that a member is: the first, where there is no such member
abbrev pub version_written : Option Data → Option Version
version_written None = Some V1
version_written (Some d) = option_and_then version_named (as_str d)

-- the version of an object
unfoldable pub version_in : Data → Option Version
version_in d = option_and_then (λ _. version_written (get (codes "version") d)) (as_object d)

abbrev pub version_of : Data → Version
version_of d = unwrap_or (version_in d) V1

abbrev pub version_text : Version → List ℕ
version_text V1 = codes "1"
version_text V2 = codes "2"

-- ---- the members

pub record Written : Type 0 where
  pub graph : Graph
  pub sites : List Site
  pub sessions : List Data

unfoldable pub written_in : Data → Written
written_in d = record { graph = graph_in (version_of d) (get (codes "graph") d); sites = sites_in (get (codes "cover") d); sessions = sessions_in (get (codes "sessions") d) }

-- ---- what is meant

-- A case: its nested graph, the cover, the opening marking, and the calls of each session.
pub record Spelled : Type 0 where
  pub nested : Nest
  pub cover : Owners
  pub opening : Marking
  pub sessions : List (List Call)

-- the calls are those of the sites and the atoms
unfoldable pub spelled_in : Written → Spelled
spelled_in w = record {
  nested = nest_in w.graph;
  cover = cover_in (nest_in w.graph) w.sites;
  opening = opening_in w.graph;
  sessions = calls_in (cover_in (nest_in w.graph) w.sites).names (atom_names (nest_in w.graph)) w.sessions;
}
