use Rattle.std.proofs.Common.{◌≡◌, map, take}
use Rattle.serde_json.specs.View.{view}
use Rattle.dcr_nest.specs.Nest.{names_of}
use Rattle.dcr_graph_json.specs.Text.{relation_value}
use Rattle.dcr_graph_json.proofs.text.relation_values.Given as goal

abbrev pub invariant-loop-relation : goal.invariant-loop-relation
invariant-loop-relation l = map view l.values.items ≡ map (relation_value (names_of l.nodes)) (take l.relation-index l.relations)
