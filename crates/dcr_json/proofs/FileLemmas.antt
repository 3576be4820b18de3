-- The facts of a case file in their order, and what its members write.
use Rattle.std.proofs.Common.{◌≡◌, ℕ, codes, List, ◌++◌, Some, None, Ok, Err, is_some, unwrap_or, sym, ap, ◌∙◌}
use Rattle.serde_json.specs.Data.{Data}
use Rattle.serde_json.specs.Find.{get}
use Rattle.dcr_graph.specs.declared.marking.Marking.{Marking}
use Rattle.dcr_nest.specs.Nest.{Nest}
use Rattle.dcr_nest.specs.declared.node.Version.{Version}
use Rattle.dcr_nest.specs.declared.node.Version.TheVariants.{V1}
use Rattle.dcr_proj.specs.CoverValue.{Owners}
use Rattle.dcr_journal.specs.declared.call.Call.{Call}
use Rattle.dcr_format.specs.Facts.{Fact, first, unless}
use Rattle.dcr_format.specs.declared.stop.CaseStop.{CaseStop}
use Rattle.dcr_format.specs.declared.stop.CaseStop.TheVariants.{Shape}
use Rattle.dcr_format.specs.declared.stop.Part.TheVariants as part
use Rattle.dcr_format.proofs.FactLemmas.{first_here, first_past}
use Rattle.dcr_cover_json.specs.Shape.{shape_facts as cover_shape, sites_in}
use Rattle.dcr_cover_json.specs.Sites.{Site, cover_in}
use Rattle.dcr_graph_json.specs.Build.{atom_names, nest_in, opening_in}
use Rattle.dcr_graph_json.specs.Shape.{shape_facts as graph_shape, written_in as graph_in}
use Rattle.dcr_graph_json.specs.Written.{Written as Graph}
use Rattle.dcr_session_json.specs.Build.{build_facts as session_build, sessions_in as calls_in}
use Rattle.dcr_session_json.specs.Shape.{shape_facts as session_shape}
use Rattle.dcr_session_json.specs.Written.{written_in as sessions_in}
use Rattle.dcr_json.specs.Case.{case_of_value, value_in}
use Rattle.dcr_json.specs.Facts.{build_facts, case_facts, limit_facts, shape_facts, top_fact}
use Rattle.dcr_json.specs.Written.{Spelled, Written, spelled_in, version_in, version_of, written_in}
use Rattle.dcr_format.proofs.StageLemmas.{first_stop, second_stop, third_fact}
use Rattle.dcr_json.proofs.GivingLemmas.{given_all, given_stop}

-- ---- the shape

module _ (d : Data) where
  abbrev graph : Version → List Fact
  graph version = graph_shape version (get (codes "graph") d)

  abbrev cover : List Fact
  cover = cover_shape (get (codes "cover") d)

  abbrev sessions : List Fact
  sessions = session_shape (get (codes "sessions") d)

  pub top_stop : version_in d ≡ None → first (shape_facts d) ≡ Some (Shape part.Top 0)
  unfolding shape_facts
  top_stop e = first_here (top_fact d) (graph (version_of d) ++ (cover ++ sessions)) (Shape part.Top 0) (ap (λ o. unless (is_some o) (Shape part.Top 0)) e)

  module _ (version : Version) (top : version_in d ≡ Some version) where
    version_is : version_of d ≡ version
    version_is = ap (λ o. unwrap_or o V1) top

    past_top : first (shape_facts d) ≡ first (graph version ++ (cover ++ sessions))
    unfolding shape_facts
    past_top =
        first_past (top_fact d) (graph (version_of d) ++ (cover ++ sessions)) (ap (λ o. unless (is_some o) (Shape part.Top 0)) top)
        ∙ ap (λ v. first (graph v ++ (cover ++ sessions))) version_is

    pub graph_stop : (stop : CaseStop) → first (graph version) ≡ Some stop → first (shape_facts d) ≡ Some stop
    graph_stop stop e = past_top ∙ first_stop (graph version) cover sessions stop e

    pub cover_stop : first (graph version) ≡ None → (stop : CaseStop) → first cover ≡ Some stop → first (shape_facts d) ≡ Some stop
    cover_stop past stop e = past_top ∙ second_stop (graph version) cover sessions past stop e

    pub sessions_fact : first (graph version) ≡ None → first cover ≡ None → (fact : Fact) → first sessions ≡ fact → first (shape_facts d) ≡ fact
    sessions_fact past next fact e = past_top ∙ third_fact (graph version) cover sessions past next fact e

    pub same_written : (g : Graph) (sites : List Site) (values : List Data) → g ≡ graph_in version (get (codes "graph") d) → sites ≡ sites_in (get (codes "cover") d) → values ≡ sessions_in (get (codes "sessions") d)
        → (let w : Written = record { graph = g; sites = sites; sessions = values } in w) ≡ written_in d
    unfolding written_in
    same_written g sites values is_graph are_sites are_values =
        let made : Graph → List Site → List Data → Written = λ x y z. record { graph = x; sites = y; sessions = z } in
        ap (λ x. made x sites values) (is_graph ∙ ap (λ v. graph_in v (get (codes "graph") d)) (sym version_is))
        ∙ ap (λ y. made (graph_in (version_of d) (get (codes "graph") d)) y values) are_sites
        ∙ ap (λ z. made (graph_in (version_of d) (get (codes "graph") d)) (sites_in (get (codes "cover") d)) z) are_values

-- ---- what is built

module _ (w : Written) (N : Nest) (nested : N ≡ nest_in w.graph) where
  abbrev meant : Owners
  meant = cover_in (nest_in w.graph) w.sites

  module _ (C : Owners) (is_cover : C ≡ cover_in N w.sites) where
    cover_is : C ≡ meant
    cover_is = is_cover ∙ ap (λ M. cover_in M w.sites) nested

    module _ (names : List (List ℕ)) (named : names ≡ atom_names N) where
      names_are : names ≡ atom_names (nest_in w.graph)
      names_are = named ∙ ap atom_names nested

      pub same_calls : session_build meant.names (atom_names (nest_in w.graph)) w.sessions ≡ session_build C.names names w.sessions
      same_calls =
          ap (λ (D : Owners). session_build D.names (atom_names (nest_in w.graph)) w.sessions) (sym cover_is)
          ∙ ap (λ ns. session_build C.names ns w.sessions) (sym names_are)

      pub same_case : (M : Marking) (calls : List (List Call)) → M ≡ opening_in w.graph → calls ≡ calls_in C.names names w.sessions
          → (let case : Spelled = record { nested = N; cover = C; opening = M; sessions = calls } in case) ≡ spelled_in w
      unfolding spelled_in
      same_case M calls opens are =
          let made : Nest → Owners → Marking → List (List Call) → Spelled = λ x y z t. record { nested = x; cover = y; opening = z; sessions = t } in
          ap (λ x. made x C M calls) nested
          ∙ ap (λ y. made (nest_in w.graph) y M calls) cover_is
          ∙ ap (λ z. made (nest_in w.graph) meant z calls) opens
          ∙ ap (λ t. made (nest_in w.graph) meant (opening_in w.graph) t)
          (are ∙ ap (λ (D : Owners). calls_in D.names names w.sessions) cover_is ∙ ap (λ ns. calls_in meant.names ns w.sessions) names_are)

-- ---- the shape, the limits, and what is built

module _ (d : Data) where
  pub case_shape : (stop : CaseStop) → first (shape_facts d) ≡ Some stop → first (case_facts d) ≡ Some stop
  unfolding case_facts
  case_shape stop e = first_stop (shape_facts d) (limit_facts (written_in d)) (build_facts (written_in d)) stop e

  module _ (w : Written) (writes : w ≡ written_in d) (shape : first (shape_facts d) ≡ None) where
    pub case_limit : (stop : CaseStop) → first (limit_facts w) ≡ Some stop → first (case_facts d) ≡ Some stop
    unfolding case_facts
    case_limit stop e = second_stop (shape_facts d) (limit_facts (written_in d)) (build_facts (written_in d)) shape stop (ap (λ v. first (limit_facts v)) (sym writes) ∙ e)

    pub case_built : first (limit_facts w) ≡ None → (fact : Fact) → first (build_facts w) ≡ fact → first (case_facts d) ≡ fact
    unfolding case_facts
    case_built limits fact e =
        third_fact (shape_facts d) (limit_facts (written_in d)) (build_facts (written_in d)) shape (ap (λ v. first (limit_facts v)) (sym writes) ∙ limits) fact
        (ap (λ v. first (build_facts v)) (sym writes) ∙ e)

  -- what the definition of a value says
  pub value_stop : (stop : CaseStop) → first (case_facts d) ≡ Some stop → value_in d ≡ Err stop
  unfolding value_in
  value_stop stop e = given_stop (case_facts d) (case_of_value d) stop e

  pub value_given : (case : Spelled) → first (case_facts d) ≡ None → case ≡ case_of_value d → value_in d ≡ Ok case
  unfolding value_in
  value_given case e same = given_all (case_facts d) (case_of_value d) case e (sym same)
