-- Which nested graphs are accepted, and what a reader of their canonical texts finds.
use Rattle.std.specs.Prelude.{◌≡◌, ◌≢◌, ℕ, true, List, ◌++◌, Option, None, IsUtf8, MatchOption}
use Rattle.std.specs.List.{All}
use Rattle.serde_json.specs.Data.{Data}
use Rattle.dcr_graph.specs.Names.{is_label}
use Rattle.dcr_graph.specs.Pairs.{first_clash}
use Rattle.dcr_nest.specs.FlatRelation.{flat_relation}
use Rattle.dcr_nest.specs.Nest.{Nest, IsNested, names_of, labels_of}
use Rattle.dcr_nest.specs.declared.node.Version.{Version}
use Rattle.dcr_format.specs.Facts.{Fact}
use Rattle.dcr_format.specs.Texts.{AreAllNames}
use Rattle.dcr_graph_json.specs.Build.{build_facts}
use Rattle.dcr_graph_json.specs.Limits.{limit_facts}
use Rattle.dcr_graph_json.specs.Shape.{shape_facts, written_in}
use Rattle.dcr_graph_json.specs.Text.{graph_text}

-- all facts of a graph of this version, in the order in which they are tried where nothing else stands beside it
abbrev pub graph_facts : Version → Option Data → List Fact
graph_facts version graph = shape_facts version graph ++ (limit_facts (written_in version graph) ++ build_facts (written_in version graph))

-- a nested graph of this version that no refusal of a case file refuses: within the limits, distinct names that are
-- names, each parent earlier, labels that are labels, and no pair of atoms both included and excluded
pub record IsAcceptedGraph (version : Version) (N : Nest) : Type 0 where
  pub of_version : N.version ≡ version
  pub nested : IsNested N
  pub names : AreAllNames (names_of N.nodes)
  pub labels : All (λ label. is_label label ≡ true) (labels_of N.nodes)
  pub texts : All IsUtf8 (labels_of N.nodes)
  pub unclashed : first_clash (flat_relation N) ≡ None

-- the nested graph whose canonical text the bytes are, where there is an accepted one of this version, and else none
abbrev pub IsGraphIn : Version → List ℕ → Option Nest → Type 0
IsGraphIn version bytes found = MatchOption found ((N : Nest) → IsAcceptedGraph version N → bytes ≢ graph_text N) (λ N. IsAcceptedGraph version N × (bytes ≡ graph_text N))
