-- The names that were added and those to come are all the names.
use Rattle.std.proofs.Common.{◌≡◌, ◌<◌, ◌++◌, length, map}
use Rattle.std.specs.List.{All}
use Rattle.serde_json.specs.View.{view}
use Rattle.dcr_graph_json.specs.Text.{name_value}
use Rattle.dcr_cover_json.specs.Text.{owned_values}
use Rattle.dcr_cover_json.proofs.text.owned_values.Given as goal

abbrev pub invariant-loop-e : goal.invariant-loop-e
invariant-loop-e l = record {
  atoms : All (λ e. e < length l.graph.names) l.e-iterator;
  added : map view l.values.items ++ map (name_value l.graph.names) l.e-iterator ≡ owned_values l.graph.names l.owned;
}
