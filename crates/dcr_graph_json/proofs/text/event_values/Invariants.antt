use Rattle.std.proofs.Common.{◌≡◌, map, option_map}
use Rattle.std.specs.List.{range_with_len}
use Rattle.serde_json.specs.View.{view}
use Rattle.dcr_graph_json.specs.Text.{event_value_at}
use Rattle.dcr_graph_json.proofs.text.event_values.Given as goal

-- the nodes before x
abbrev pub invariant-loop-x : goal.invariant-loop-x
invariant-loop-x l = map view l.values.items ≡ map (event_value_at l.nested (option_map (λ m. m.now) l.opening)) (range_with_len 0 l.x)
