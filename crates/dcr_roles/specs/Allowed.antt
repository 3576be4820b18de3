-- The first call of some sessions that a policy denies.
use Rattle.std.specs.Prelude.{◌≡◌, ℕ, List, [], length, Option, Some, None, is_some, Result, Ok, Err, slice_index_or}
use Rattle.dcr_set.specs.Least.{least}
use Rattle.dcr_journal.specs.declared.call.Call.{Call}
use Rattle.dcr_journal.specs.declared.call.Call.TheVariants.{Accepting}
use Rattle.dcr_policy.specs.Deny.{deny}
use Rattle.dcr_policy.specs.Roles.{Roles}
use Rattle.dcr_roles.specs.Elements.{◌>>=◌}
use Rattle.dcr_roles.specs.declared.stop.PolicyStop.{PolicyStop}
use Rattle.dcr_roles.specs.declared.stop.PolicyStop.TheVariants.{Denied}

-- the role for want of which call j of a session is denied
abbrev pub role_for : Roles → ℕ → List Call → ℕ → Option (List ℕ)
role_for P k calls j = deny P k (slice_index_or calls j Accepting)

-- the least of a session's calls that is denied
abbrev pub call_denied : Roles → ℕ → List Call → Option ℕ
call_denied P k calls = least (length calls) (λ j. is_some (role_for P k calls j))

-- the least session of which one is
abbrev pub session_denied : Roles → List (List Call) → Option ℕ
session_denied P sessions = least (length sessions) (λ k. is_some (call_denied P k (slice_index_or sessions k [])))

-- the refusal of the least call that is denied, by the session and then by the call, with the role that it lacks
unfoldable pub denial : Roles → List (List Call) → Option PolicyStop
denial P sessions = do
  k ← session_denied P sessions
  j ← call_denied P k (slice_index_or sessions k [])
  role ← role_for P k (slice_index_or sessions k []) j
  Some (Denied k j role)

-- a refusal, if there is one, and else the policy
abbrev pub unless : Option PolicyStop → Roles → Result Roles PolicyStop
unless None P = Ok P
unless (Some stop) P = Err stop

-- the refusal is that of the least call of session k that is denied
pub record IsCallDenied (P : Roles) (k : ℕ) (calls : List Call) (stop : PolicyStop) : Type 0 where
  pub j : ℕ
  pub role : List ℕ
  pub least : call_denied P k calls ≡ Some j
  pub lacks : role_for P k calls j ≡ Some role
  pub is : stop ≡ Denied k j role
