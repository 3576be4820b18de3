-- The case that bytes spell has an accepted nested graph and an accepted cover.
use Rattle.std.proofs.Common.{◌≡◌, ℕ, codes, List, ◌++◌, Option, None, Ok, sym, subst}
use Rattle.serde_json.specs.Data.{Data}
use Rattle.serde_json.specs.Find.{get}
use Rattle.dcr_nest.specs.declared.node.Version.{Version}
use Rattle.dcr_proj.specs.CoverValue.{Owners}
use Rattle.dcr_format.specs.Facts.{first}
use Rattle.dcr_format.proofs.FactLemmas.{first_none}
use Rattle.dcr_format.proofs.OrderLemmas.{facts_told}
use Rattle.dcr_cover_json.specs.Accepted.{IsAcceptedCover}
use Rattle.dcr_cover_json.specs.Build.{build_facts as cover_build}
use Rattle.dcr_cover_json.specs.Laws.{AreReadBack}
use Rattle.dcr_cover_json.specs.Limits.{limit_facts as cover_limits}
use Rattle.dcr_cover_json.specs.Shape.{shape_facts as cover_shape, sites_in}
use Rattle.dcr_cover_json.specs.Sites.{cover_in}
use Rattle.dcr_graph_json.specs.Accepted.{IsAcceptedGraph}
use Rattle.dcr_graph_json.specs.Build.{atom_names, build_facts as graph_build, nest_in}
use Rattle.dcr_graph_json.specs.Limits.{limit_facts as graph_limits}
use Rattle.dcr_graph_json.specs.Shape.{shape_facts as graph_shape, written_in as graph_in}
use Rattle.dcr_graph_json.specs.Written.{Written as Graph}
use Rattle.dcr_session_json.specs.Build.{build_facts as session_build}
use Rattle.dcr_session_json.specs.Limits.{limit_facts as session_limits}
use Rattle.dcr_session_json.specs.Shape.{shape_facts as session_shape}
use Rattle.dcr_json.specs.Case.{case_in, case_of_value}
use Rattle.dcr_json.specs.Facts.{build_facts, case_facts, limit_facts, shape_facts, top_fact}
use Rattle.dcr_json.specs.Written.{Spelled, spelled_in, version_of, written_in}
use Rattle.dcr_json.proofs.RefusalLemmas.{cases_law}
use Rattle.dcr_format.proofs.StageLemmas.{all_three, third_fact}
use Rattle.dcr_format.proofs.TextValueLemmas.{IsTextValue, json_text}
use Rattle.dcr_graph_json.proofs.AcceptedLemmas.{graph_accepted, member_text}

module _ (law : AreReadBack) (d : Data) (text : IsTextValue d) (holds : first (case_facts d) ≡ None) where
  abbrev version : Version
  version = version_of d

  abbrev graph : Option Data
  graph = get (codes "graph") d

  abbrev cover : Option Data
  cover = get (codes "cover") d

  abbrev g : Graph
  g = graph_in version graph

  abbrev meant : Owners
  meant = cover_in (nest_in g) (sites_in cover)

  abbrev sessions : List Data
  sessions = (written_in d).sessions

  parts : (first (shape_facts d) ≡ None) × (first (limit_facts (written_in d)) ≡ None) × (first (build_facts (written_in d)) ≡ None)
  unfolding case_facts
  parts = all_three (shape_facts d) (limit_facts (written_in d)) (build_facts (written_in d)) holds

  shapes : (first (graph_shape version graph) ≡ None) × (first (cover_shape cover) ≡ None) × (first (session_shape (get (codes "sessions") d)) ≡ None)
  unfolding shape_facts
  shapes =
      let rest = graph_shape version graph ++ (cover_shape cover ++ session_shape (get (codes "sessions") d)) in
      all_three (graph_shape version graph) (cover_shape cover) (session_shape (get (codes "sessions") d)) (first_none (top_fact d) rest parts.0).1

  limits : (first (graph_limits g) ≡ None) × (first (cover_limits (sites_in cover)) ≡ None) × (first (session_limits sessions) ≡ None)
  unfolding limit_facts written_in
  limits = all_three (graph_limits g) (cover_limits (sites_in cover)) (session_limits sessions) parts.1

  builds : (first (graph_build g) ≡ None) × (first (cover_build (nest_in g) (sites_in cover)) ≡ None) × (first (session_build meant.names (atom_names (nest_in g)) sessions) ≡ None)
  unfolding build_facts written_in
  builds = all_three (graph_build g) (cover_build (nest_in g) (sites_in cover)) (session_build meant.names (atom_names (nest_in g)) sessions) parts.2

  graph_is : IsAcceptedGraph version (nest_in g)
  graph_is = graph_accepted version graph (member_text (codes "graph") d text) (third_fact (graph_shape version graph) (graph_limits g) (graph_build g) shapes.0 limits.0 None builds.0)

  cover_is : IsAcceptedCover (nest_in g) meant
  cover_is = law.accepted (nest_in g) cover (third_fact (cover_shape cover) (cover_limits (sites_in cover)) (cover_build (nest_in g) (sites_in cover)) shapes.1 limits.1 None builds.1)

  value_accepted : IsAcceptedGraph (case_of_value d).nested.version (case_of_value d).nested × IsAcceptedCover (case_of_value d).nested (case_of_value d).cover
  unfolding spelled_in written_in
  value_accepted = (subst (λ v. IsAcceptedGraph v (nest_in g)) (sym graph_is.of_version) graph_is, cover_is)

-- the case that bytes spell has an accepted nested graph and an accepted cover
pub given_accepted : AreReadBack → (bytes : List ℕ) (case : Spelled) → case_in bytes ≡ Ok case → IsAcceptedGraph case.nested.version case.nested × IsAcceptedCover case.nested case.cover
given_accepted law bytes case e =
    let h = (cases_law bytes case).0 e in
    subst (λ (c : Spelled). IsAcceptedGraph c.nested.version c.nested × IsAcceptedCover c.nested c.cover) (sym h.is)
    (value_accepted law h.value (json_text bytes h.value h.json.json) ((facts_told.passed (case_facts h.value)).1 h.facts))
