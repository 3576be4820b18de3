use Rattle.std.proofs.Common.{◌≡◌, map, take}
use Rattle.serde_json.specs.View.{view}
use Rattle.dcr_session_json.specs.Value.{call_values}
use Rattle.dcr_session_json.proofs.value.call_values.Given as goal

-- the calls before the place
abbrev pub invariant-loop-place : goal.invariant-loop-place
invariant-loop-place l = map view l.values.items ≡ call_values l.cover.names l.graph.names (take l.place l.calls)
