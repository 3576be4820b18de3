-- The case that bytes spell, with its policy, or which refusal comes first.
use Rattle.std.specs.Prelude.{◌≡◌, ◌≢◌, ℕ, List, length, Result, Ok, Err}
use Rattle.std.specs.Result.{MatchResult}
use Rattle.dcr_policy.specs.Roles.{Roles}
use Rattle.dcr_json.specs.Built.{case_of, IsCase}
use Rattle.dcr_json.specs.Case.{file_in, value_in}
use Rattle.dcr_json.specs.Written.{Spelled}
use Rattle.dcr_format.specs.declared.stop.CaseStop.{CaseStop}
use Rattle.dcr_format.specs.declared.stop.CaseStop.TheVariants.{NoMemory as no_case_memory}
use Rattle.dcr_roles.specs.Stages.{◌>>=◌}
use Rattle.dcr_roles.specs.Read.{policy_in}
use Rattle.dcr_roles.specs.Words.{AreAllowed}
use Rattle.dcr_roles.specs.declared.accepted.Accepted.{Accepted}
use Rattle.dcr_roles.specs.declared.accepted.AcceptStop.{AcceptStop}
use Rattle.dcr_roles.specs.declared.accepted.AcceptStop.TheVariants.{Case, Policy}
use Rattle.dcr_roles.specs.declared.stop.PolicyStop.{PolicyStop}
use Rattle.dcr_roles.specs.declared.stop.PolicyStop.TheVariants.{NoMemory as no_policy_memory}

-- a case and its policy
pub record SpelledBoth : Type 0 where
  pub case : Spelled
  pub policy : Roles

-- a stage of reading the case
abbrev pub of_case : {A : Type 0} → Result A CaseStop → Result A AcceptStop
of_case (Ok x) = Ok x
of_case (Err stop) = Err (Case stop)

-- and of reading its policy
abbrev pub of_policy : {A : Type 0} → Result A PolicyStop → Result A AcceptStop
of_policy (Ok x) = Ok x
of_policy (Err stop) = Err (Policy stop)

-- the case, then its policy, or the first refusal of all
unfoldable pub accepted_in : List ℕ → Result SpelledBoth AcceptStop
accepted_in bytes = do
  value ← of_case (file_in bytes)
  case ← of_case (value_in value)
  policy ← of_policy (policy_in value case)
  Ok (record { case = case; policy = policy })

-- the fields read as lists
abbrev pub both_of : Accepted → SpelledBoth
both_of accepted = record { case = case_of accepted.case; policy = accepted.policy }

-- neither part of the reading wanted memory
abbrev pub HadMemory : AcceptStop → Type 0
HadMemory (Case stop) = stop ≢ no_case_memory
HadMemory (Policy stop) = stop ≢ no_policy_memory

-- the reader said what the definition says; where memory ran out nothing is said
abbrev pub SaysAccepted : Result Accepted AcceptStop → Result SpelledBoth AcceptStop → Type 0
SaysAccepted result meant = MatchResult result (λ accepted. meant ≡ Ok (both_of accepted)) (λ stop. HadMemory stop → meant ≡ Err stop)

-- the case is one, its policy is over its atoms, and no call of its sessions is denied
pub record IsAccepted (accepted : Accepted) : Type 0 where
  pub case : IsCase accepted.case
  pub atoms : length accepted.policy.atoms ≡ length accepted.case.graph.names
  pub allowed : AreAllowed accepted.policy accepted.case.sessions

-- ---- the case alone

-- the case that is accepted, or the first refusal
abbrev pub case_accepted : List ℕ → Result Spelled AcceptStop
case_accepted bytes = do
  both ← accepted_in bytes
  Ok both.case

-- a part of the reading wanted memory
abbrev pub WantedMemory : AcceptStop → Type 0
WantedMemory (Case stop) = stop ≡ no_case_memory
WantedMemory (Policy stop) = stop ≡ no_policy_memory
