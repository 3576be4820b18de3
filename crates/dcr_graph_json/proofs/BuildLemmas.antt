-- The facts of a graph in their order, and what the values of a graph keep.
use Rattle.std.proofs.Common.{◌≡◌, ℕ, List, [], ◌∷◌, map, Some, None, sym, ap, subst, ◌∙◌, arith}
use Rattle.std.specs.List.{All}
use Rattle.std.proofs.lemmas.List.{get_or-map, length-map}
use Rattle.serde_json.specs.Data.{Data}
use Rattle.serde_json.specs.View.{view}
use Rattle.serde_json.specs.declared.value.Value.{Value}
use Rattle.dcr_graph.specs.Pairs.{Pair}
use Rattle.dcr_nest.specs.Nest.{Nest, nest}
use Rattle.dcr_nest.specs.declared.node.Node.{Node}
use Rattle.dcr_format.specs.Facts.{Fact, first}
use Rattle.dcr_format.specs.declared.stop.CaseStop.{CaseStop}
use Rattle.dcr_format.proofs.FactLemmas.{first_here, first_past}
use Rattle.dcr_graph_json.specs.Build.{names_fact, parents_fact, marks_fact, ends_fact, clash_fact, nest_in, nodes_in, pairs_in, build_facts}
use Rattle.dcr_graph_json.specs.Written.{Written, names_in}

-- each of the views of values is so where each of the values is seen so
pub of_views : (P : Data → Type 0) (vs : List Value) → All P (map view vs) → All (λ v. P (view v)) vs
of_views P vs all k d l = subst P (get_or-map view vs k d (view d) l) (all k (view d) (omega (arith, length-map vs view)))

-- the nested graph of these nodes and pairs, where they are those that are written
pub same_nest : (w : Written) (N : Nest) (nodes : List Node) (pairs : List Pair) (index : List (List ℕ)) → N ≡ nest w.version nodes pairs
    → nodes ≡ nodes_in w.events → pairs ≡ pairs_in index w.relations → index ≡ names_in w.events → N ≡ nest_in w
unfolding nest_in
same_nest w N nodes pairs index is these those named =
    is ∙ ap (λ ns. nest w.version ns pairs) these ∙ ap (nest w.version (nodes_in w.events)) (those ∙ ap (λ names. pairs_in names w.relations) named)

pub same_ends : (w : Written) (index : List (List ℕ)) (fact : Fact) → index ≡ names_in w.events → ends_fact index w.relations ≡ fact → ends_fact (names_in w.events) w.relations ≡ fact
same_ends w index fact named e = ap (λ names. ends_fact names w.relations) (sym named) ∙ e

module _ (w : Written) where
  abbrev parents_on : List Fact
  parents_on = parents_fact w.events ∷ marks_fact w.events ∷ ends_fact (names_in w.events) w.relations ∷ clash_fact (nest_in w) ∷ []

  abbrev marks_on : List Fact
  marks_on = marks_fact w.events ∷ ends_fact (names_in w.events) w.relations ∷ clash_fact (nest_in w) ∷ []

  abbrev ends_on : List Fact
  ends_on = ends_fact (names_in w.events) w.relations ∷ clash_fact (nest_in w) ∷ []

  pub names_stop : (stop : CaseStop) → names_fact w.events ≡ Some stop → first (build_facts w) ≡ Some stop
  unfolding build_facts
  names_stop stop e = first_here (names_fact w.events) parents_on stop e

  module _ (named : names_fact w.events ≡ None) where
    past_names : first (build_facts w) ≡ first parents_on
    unfolding build_facts
    past_names = first_past (names_fact w.events) parents_on named

    pub parents_stop : (stop : CaseStop) → parents_fact w.events ≡ Some stop → first (build_facts w) ≡ Some stop
    parents_stop stop e = past_names ∙ first_here (parents_fact w.events) marks_on stop e

    module _ (parents : parents_fact w.events ≡ None) where
      past_parents : first (build_facts w) ≡ first marks_on
      past_parents = past_names ∙ first_past (parents_fact w.events) marks_on parents

      pub marks_stop : (stop : CaseStop) → marks_fact w.events ≡ Some stop → first (build_facts w) ≡ Some stop
      marks_stop stop e = past_parents ∙ first_here (marks_fact w.events) ends_on stop e

      module _ (marks : marks_fact w.events ≡ None) where
        past_marks : first (build_facts w) ≡ first ends_on
        past_marks = past_parents ∙ first_past (marks_fact w.events) ends_on marks

        pub ends_stop : (stop : CaseStop) → ends_fact (names_in w.events) w.relations ≡ Some stop → first (build_facts w) ≡ Some stop
        ends_stop stop e = past_marks ∙ first_here (ends_fact (names_in w.events) w.relations) (clash_fact (nest_in w) ∷ []) stop e

        pub clash_last : ends_fact (names_in w.events) w.relations ≡ None → (fact : Fact) → clash_fact (nest_in w) ≡ fact → first (build_facts w) ≡ fact
        clash_last ends fact e = past_marks ∙ first_past (ends_fact (names_in w.events) w.relations) (clash_fact (nest_in w) ∷ []) ends ∙ only (clash_fact (nest_in w)) fact e
          where
            only : (f fact : Fact) → f ≡ fact → first (f ∷ []) ≡ fact
            only None fact e = e
            only (Some stop) fact e = e
