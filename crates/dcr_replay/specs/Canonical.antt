-- What the lines of a graph and of a cover rest on: their texts have no line end, and mean one graph or one cover.
use Rattle.std.specs.Prelude.{◌≡◌, ℕ, List}
use Rattle.dcr_nest.specs.Nest.{Nest, IsNested}
use Rattle.dcr_nest.specs.declared.node.Version.{Version}
use Rattle.dcr_proj.specs.CoverValue.{Owners}
use Rattle.dcr_format.specs.Texts.{IsOneLine}
use Rattle.dcr_cover_json.specs.Accepted.{IsAcceptedCover}
use Rattle.dcr_cover_json.specs.Text.{cover_text}
use Rattle.dcr_graph_json.specs.Accepted.{IsAcceptedGraph}
use Rattle.dcr_graph_json.specs.Build.{atom_names}
use Rattle.dcr_graph_json.specs.Text.{graph_text}

pub record HaveNoLineEnd : Type 0 where
  pub graph : (N : Nest) → IsOneLine (graph_text N)
  pub cover : (atoms : List (List ℕ)) (cover : Owners) → IsOneLine (cover_text atoms cover)

pub record MeanOne : Type 0 where
  -- accepted graphs of one version with one text are one
  pub graph : (version : Version) (M N : Nest) → IsAcceptedGraph version M → IsAcceptedGraph version N → graph_text M ≡ graph_text N → M ≡ N
  -- accepted covers of one graph with one text are one
  pub cover : (N : Nest) → IsNested N → (C D : Owners) → IsAcceptedCover N C → IsAcceptedCover N D → cover_text (atom_names N) C ≡ cover_text (atom_names N) D → C ≡ D
