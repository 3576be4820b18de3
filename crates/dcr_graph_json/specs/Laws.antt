-- That the value of an accepted graph is read back, and what any canonical text is.
use Rattle.std.specs.Prelude.{◌≡◌, length, Option, None, Some}
use Rattle.serde_json.specs.Read.{read}
use Rattle.dcr_graph.specs.Projection.{HasRoom}
use Rattle.dcr_graph.specs.declared.marking.Marking.{Marking}
use Rattle.dcr_nest.specs.Nest.{Nest, parents_of}
use Rattle.dcr_nest.specs.Tree.{atoms}
use Rattle.dcr_nest.specs.declared.node.Version.{Version}
use Rattle.dcr_format.specs.Facts.{first}
use Rattle.dcr_format.specs.Texts.{IsOneLine}
use Rattle.dcr_graph_json.specs.Accepted.{IsAcceptedGraph, graph_facts}
use Rattle.dcr_graph_json.specs.Build.{nest_in, opening_in}
use Rattle.dcr_graph_json.specs.Shape.{written_in}
use Rattle.dcr_graph_json.specs.Text.{graph_text, graph_value}

-- every fact of a graph holds of the value of an accepted one, which writes that graph and the opening that it was written
-- with
pub record AreReadBack : Type 0 where
  pub facts : (version : Version) (N : Nest) (opening : Option Marking) → IsAcceptedGraph version N → first (graph_facts version (Some (graph_value N opening))) ≡ None
  pub nested : (version : Version) (N : Nest) (opening : Option Marking) → IsAcceptedGraph version N → nest_in (written_in version (Some (graph_value N opening))) ≡ N
  pub opening : (version : Version) (N : Nest) (M : Marking) → IsAcceptedGraph version N → HasRoom (length (atoms (parents_of N.nodes))) M → opening_in (written_in version (Some (graph_value N (Some M)))) ≡ M
  -- the canonical text is read as the value, and has no line end
  pub text : (N : Nest) → read (graph_text N) ≡ Some (graph_value N None)
  pub one_line : (N : Nest) → IsOneLine (graph_text N)
  pub one : (version : Version) (M N : Nest) → IsAcceptedGraph version M → IsAcceptedGraph version N → graph_text M ≡ graph_text N → M ≡ N
