use Rattle.std.proofs.Common.{◌≡◌, ℕ, ◌<◌, None}
use Rattle.dcr_roles.specs.Allowed.{role_for}
use Rattle.dcr_roles.proofs.allowed.try_calls.Given as goal

-- no call before j is denied
abbrev pub invariant-loop-j : goal.invariant-loop-j
invariant-loop-j l = (i : ℕ) → i < l.j → role_for l.policy l.k l.calls i ≡ None
