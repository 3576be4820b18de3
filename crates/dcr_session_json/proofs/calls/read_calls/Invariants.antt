use Rattle.std.proofs.Common.{◌≡◌, ◌<◌, ◌≤◌, ℕ, true, get_or, is_some, length, map, take, vec_capacity}
use Rattle.serde_json.specs.Data.{null}
use Rattle.serde_json.specs.View.{view}
use Rattle.dcr_session_json.specs.Build.{call_of, calls_of}
use Rattle.dcr_session_json.proofs.calls.read_calls.Given as goal

-- the calls before j, and room for all
abbrev pub invariant-loop-j : goal.invariant-loop-j
invariant-loop-j l = record {
  calls : l.calls.items ≡ calls_of l.directory.sites l.directory.atoms (take l.j (map view l.texts));
  read : (i : ℕ) → i < l.j → is_some (call_of l.directory.sites l.directory.atoms (get_or (map view l.texts) i null)) ≡ true;
  reached : length l.calls.items ≡ l.j;
  reserved : length l.texts ≤ vec_capacity l.calls;
}
