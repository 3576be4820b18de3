use Rattle.std.proofs.Common.{◌≡◌, not, take, map, count_by}
use Rattle.serde_json.specs.View.{view}
use Rattle.dcr_graph_json.specs.Limits.{is_parent_name}
use Rattle.dcr_graph_json.specs.Written.{name_in}
use Rattle.dcr_graph_json.proofs.atoms.count_atoms.Given as goal

-- the atoms before this event
abbrev pub invariant-loop-event : goal.invariant-loop-event
invariant-loop-event l = l.atoms ≡ count_by (λ event. not (is_parent_name (map view l.events) (name_in event))) (take l.event-index (map view l.events))
