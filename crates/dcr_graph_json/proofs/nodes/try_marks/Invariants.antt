use Rattle.std.proofs.Common.{◌≡◌, ◌<◌, ℕ, true, map}
use Rattle.serde_json.specs.View.{view}
use Rattle.dcr_graph_json.specs.Build.{has_its_marks}
use Rattle.dcr_graph_json.specs.Written.{event_at}
use Rattle.dcr_graph_json.proofs.nodes.try_marks.Given as goal

-- no mark stands on a nest before i
abbrev pub invariant-loop-i : goal.invariant-loop-i
invariant-loop-i l = (k : ℕ) → k < l.i → has_its_marks (map view l.events) (event_at (map view l.events) k) ≡ true
