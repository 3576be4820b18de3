use Rattle.std.proofs.Common.{◌≡◌, ◌≤◌, ℕ, List, length, map, take}
use Rattle.std.specs.List.{list_any}
use Rattle.std.specs.Str.{bytes_eq}
use Rattle.serde_json.specs.View.{view}
use Rattle.dcr_graph_json.specs.Limits.{is_parent_name}
use Rattle.dcr_graph_json.proofs.atoms.read_parents.Given as goal

-- the parents of the events before this one
abbrev pub invariant-loop-event : goal.invariant-loop-event
invariant-loop-event l = record {
  most : length l.parents.items ≤ l.event-index;
  parents : (name : List ℕ) → list_any (λ parent. bytes_eq name parent.now) l.parents.items ≡ is_parent_name (take l.event-index (map view l.events)) name;
}
