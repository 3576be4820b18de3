use Rattle.std.proofs.Common.{◌≡◌, ◌<◌, ℕ, None, map, take}
use Rattle.serde_json.specs.View.{view}
use Rattle.dcr_session_json.specs.Build.{calls_fact, calls_of, session_at}
use Rattle.dcr_session_json.specs.Written.{calls_in}
use Rattle.dcr_session_json.proofs.calls.read_each.Given as goal

-- the sessions before k
abbrev pub invariant-loop-k : goal.invariant-loop-k
invariant-loop-k l = record {
  sessions : l.read.items ≡ map (λ session. calls_of l.directory.sites l.directory.atoms (calls_in session)) (take l.k (map view l.sessions));
  facts : (i : ℕ) → i < l.k → calls_fact l.directory.sites l.directory.atoms i (calls_in (session_at (map view l.sessions) i)) ≡ None;
}
