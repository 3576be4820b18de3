-- The policy of a JSON value that spells a case, or its first refusal.
use Rattle.std.specs.Prelude.{◌≡◌, ◌≢◌, ℕ, List, Result, Ok, Err}
use Rattle.std.specs.Result.{MatchResult}
use Rattle.serde_json.specs.Data.{Data}
use Rattle.dcr_nest.specs.Nest.{parents_of}
use Rattle.dcr_policy.specs.Roles.{Roles}
use Rattle.dcr_json.specs.Case.{case_in}
use Rattle.dcr_json.specs.Written.{Spelled}
use Rattle.dcr_json.specs.Refusals.{SpellsJson}
use Rattle.dcr_roles.specs.Stages.{◌>>=◌}
use Rattle.dcr_roles.specs.Allowed.{denial, unless}
use Rattle.dcr_roles.specs.Policy.{policy_told}
use Rattle.dcr_roles.specs.declared.stop.PolicyStop.{PolicyStop}
use Rattle.dcr_roles.specs.declared.stop.PolicyStop.TheVariants.{NoMemory}

-- a part that fails, or else a call of the case's sessions that is denied, or else the policy
unfoldable pub policy_in : Data → Spelled → Result Roles PolicyStop
policy_in d case = policy_told d (parents_of case.nested.nodes) >>= λ P. unless (denial P case.sessions) P

-- What a step gave beside what its definition says: its value, seen by view, or its refusal. Where memory ran out nothing
-- is said.
abbrev pub Says : {A B : Type 0} → (A → B) → Result A PolicyStop → Result B PolicyStop → Type 0
Says view result meant = MatchResult result (λ value. meant ≡ Ok (view value)) (λ stop. stop ≢ NoMemory → meant ≡ Err stop)

-- some bytes are this value, and spell this case
pub record IsSpelledBy (d : Data) (case : Spelled) : Type 0 where
  pub bytes : List ℕ
  pub json : SpellsJson bytes d
  pub spells : case_in bytes ≡ Ok case
