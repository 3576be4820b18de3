use Rattle.std.proofs.Common.{◌≡◌, map, take}
use Rattle.serde_json.specs.View.{view}
use Rattle.dcr_graph_json.specs.Written.{names_in}
use Rattle.dcr_graph_json.proofs.names.name_texts.Given as goal

-- the names of the events before this one
abbrev pub invariant-loop-event : goal.invariant-loop-event
invariant-loop-event l = map (λ text. text.now) l.texts.items ≡ take l.event-index (names_in (map view l.events))
