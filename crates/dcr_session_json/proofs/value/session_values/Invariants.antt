use Rattle.std.proofs.Common.{◌≡◌, map, take}
use Rattle.serde_json.specs.View.{view}
use Rattle.dcr_session_json.specs.Value.{session_values}
use Rattle.dcr_session_json.proofs.value.session_values.Given as goal

-- the sessions before this one
abbrev pub invariant-loop-calls : goal.invariant-loop-calls
invariant-loop-calls l = map view l.values.items ≡ session_values l.cover.names l.graph.names (take l.calls-index l.sessions)
