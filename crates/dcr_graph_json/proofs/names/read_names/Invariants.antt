use Rattle.std.proofs.Common.{◌≡◌, ◌<◌, ℕ, true, map, take}
use Rattle.serde_json.specs.View.{view}
use Rattle.dcr_graph_json.specs.Build.{is_new_name}
use Rattle.dcr_graph_json.specs.Written.{event_at, name_in, names_in}
use Rattle.dcr_graph_json.proofs.names.read_names.Given as goal

-- the names of the events before i, which are new
abbrev pub invariant-loop-i : goal.invariant-loop-i
invariant-loop-i l = record {
  names : l.names.items ≡ map name_in (take l.i (map view l.events));
  new : (k : ℕ) → k < l.i → is_new_name (names_in (map view l.events)) k (name_in (event_at (map view l.events) k)) ≡ true;
}
