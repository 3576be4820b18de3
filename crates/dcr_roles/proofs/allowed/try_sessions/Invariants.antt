use Rattle.std.proofs.Common.{◌≡◌, ℕ, ◌<◌, [], None, get_or}
use Rattle.dcr_roles.specs.Allowed.{call_denied}
use Rattle.dcr_roles.proofs.allowed.try_sessions.Given as goal

-- no call of a session before k is denied
abbrev pub invariant-loop-k : goal.invariant-loop-k
invariant-loop-k l = (n : ℕ) → n < l.k → call_denied l.policy n (get_or l.sessions n []) ≡ None
