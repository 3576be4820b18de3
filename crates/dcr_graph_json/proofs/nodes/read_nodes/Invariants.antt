use Rattle.std.proofs.Common.{◌≡◌, ◌<◌, ℕ, true, length, map, take, IsUtf8}
use Rattle.std.specs.List.{All}
use Rattle.dcr_nest.specs.Nest.{labels_of}
use Rattle.serde_json.specs.View.{view}
use Rattle.dcr_graph_json.specs.Build.{has_earlier_parent, node_in}
use Rattle.dcr_graph_json.specs.Written.{event_at, names_in}
use Rattle.dcr_graph_json.proofs.nodes.read_nodes.Given as goal

-- the nodes of the events before this name, whose parents are earlier
abbrev pub invariant-loop-name : goal.invariant-loop-name
invariant-loop-name l = record {
  texts : All IsUtf8 (labels_of l.nodes.items);
  count : length l.nodes.items ≡ length l.yielded;
  nodes : l.nodes.items ≡ map (node_in (names_in (map view l.events))) (take (length l.yielded) (map view l.events));
  earlier : (k : ℕ) → k < length l.yielded → has_earlier_parent (names_in (map view l.events)) k (event_at (map view l.events) k) ≡ true;
}
