-- The facts of a case file, in the order in which they are tried.
use Rattle.std.specs.Prelude.{codes, List, ◌∷◌, ◌++◌, is_some}
use Rattle.serde_json.specs.Data.{Data}
use Rattle.serde_json.specs.Find.{get}
use Rattle.dcr_format.specs.Facts.{Fact, unless}
use Rattle.dcr_format.specs.declared.stop.CaseStop.TheVariants.{Shape}
use Rattle.dcr_format.specs.declared.stop.Part.TheVariants as part
use Rattle.dcr_graph_json.specs.Build.{atom_names, nest_in, build_facts as graph_build}
use Rattle.dcr_graph_json.specs.Limits.{limit_facts as graph_limits}
use Rattle.dcr_graph_json.specs.Shape.{shape_facts as graph_shape}
use Rattle.dcr_cover_json.specs.Build.{build_facts as cover_build}
use Rattle.dcr_cover_json.specs.Limits.{limit_facts as cover_limits}
use Rattle.dcr_cover_json.specs.Shape.{shape_facts as cover_shape}
use Rattle.dcr_cover_json.specs.Sites.{cover_in}
use Rattle.dcr_session_json.specs.Build.{build_facts as session_build}
use Rattle.dcr_session_json.specs.Limits.{limit_facts as session_limits}
use Rattle.dcr_session_json.specs.Shape.{shape_facts as session_shape}
use Rattle.dcr_json.specs.Written.{Written, version_in, version_of, written_in}

-- an object, whose `version` is one where it is there
abbrev pub top_fact : Data → Fact
top_fact d = unless (is_some (version_in d)) (Shape part.Top 0)

-- the shape: the value, and then the graph, the cover and the sessions
unfoldable pub shape_facts : Data → List Fact
shape_facts d = top_fact d ∷ (graph_shape (version_of d) (get (codes "graph") d) ++ (cover_shape (get (codes "cover") d) ++ session_shape (get (codes "sessions") d)))

-- the limits of each
unfoldable pub limit_facts : Written → List Fact
limit_facts w = graph_limits w.graph ++ (cover_limits w.sites ++ session_limits w.sessions)

-- the graph, its cover, and calls at its sites
unfoldable pub build_facts : Written → List Fact
build_facts w =
    graph_build w.graph
    ++ (cover_build (nest_in w.graph) w.sites ++ session_build (cover_in (nest_in w.graph) w.sites).names (atom_names (nest_in w.graph)) w.sessions)

unfoldable pub case_facts : Data → List Fact
case_facts d = shape_facts d ++ (limit_facts (written_in d) ++ build_facts (written_in d))
