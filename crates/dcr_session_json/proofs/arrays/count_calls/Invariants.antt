use Rattle.std.proofs.Common.{◌≡◌, map, take}
use Rattle.serde_json.specs.View.{view}
use Rattle.dcr_session_json.specs.Limits.{call_count}
use Rattle.dcr_session_json.proofs.arrays.count_calls.Given as goal

-- the calls of the sessions before this one
abbrev pub invariant-loop-session : goal.invariant-loop-session
invariant-loop-session l = l.count ≡ call_count (take l.session-index (map view l.sessions))
