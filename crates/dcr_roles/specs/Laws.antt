-- When a policy is refused, and when bytes are not accepted, in the words of the format.
use Rattle.std.specs.Prelude.{◌≡◌, ◌↔◌, ℕ, true, false, List, None, Ok, Err}
use Rattle.serde_json.specs.Data.{Data}
use Rattle.dcr_journal.specs.declared.call.Call.{Call}
use Rattle.dcr_nest.specs.Nest.{parents_of}
use Rattle.dcr_policy.specs.Deny.{deny}
use Rattle.dcr_policy.specs.Roles.{Roles}
use Rattle.dcr_roles.specs.Order.{IsFirstToFail}
use Rattle.dcr_json.specs.Written.{Spelled}
use Rattle.dcr_json.specs.Refusals.{Comes as CaseComes, SpellsCase, SpellsJson}
use Rattle.dcr_roles.specs.Accepted.{accepted_in, SpelledBoth}
use Rattle.dcr_roles.specs.Policy.{nothing_asked, policy_written}
use Rattle.dcr_roles.specs.Read.{policy_in}
use Rattle.dcr_roles.specs.Words.{rank, Holds, FailsAt, AreAllowed, IsFirstDenied}
use Rattle.dcr_roles.specs.Written.{is_third}
use Rattle.dcr_roles.specs.declared.accepted.AcceptStop.{AcceptStop}
use Rattle.dcr_roles.specs.declared.accepted.AcceptStop.TheVariants.{Case, Policy as OfPolicy}
use Rattle.dcr_roles.specs.declared.stop.PolicyPart.{PolicyPart}
use Rattle.dcr_roles.specs.declared.stop.PolicyStop.{PolicyStop}
use Rattle.dcr_roles.specs.declared.stop.PolicyStop.TheVariants.{Policy, Denied, NoMemory}

-- ---- a policy

-- the file writes this policy for the case: of the third version and with no part that fails, what is written; in the
-- other versions nothing is asked for
pub record WritesPolicy (d : Data) (case : Spelled) (P : Roles) : Type 0 where
  pub parts : is_third d ≡ true → (part : PolicyPart) → Holds d part
  pub written : is_third d ≡ true → P ≡ policy_written d (parents_of case.nested.nodes)
  pub nothing : is_third d ≡ false → P ≡ nothing_asked (parents_of case.nested.nodes)

-- this part is the first that fails, in a file of the third version
pub record PartFails (d : Data) (part : PolicyPart) (i : ℕ) : Type 0 where
  pub third : is_third d ≡ true
  pub first : IsFirstToFail rank (Holds d) (FailsAt d) part i

-- nothing that is tried before it is wrong, and this is
abbrev pub PolicyComes : Data → Spelled → PolicyStop → Type 0
PolicyComes d case (Policy part i) = PartFails d part i
PolicyComes d case (Denied k j role) = (P : Roles) × WritesPolicy d case P × IsFirstDenied P case.sessions k j role
PolicyComes d case NoMemory = ⊥

-- the file writes the policy, and it allows every call of the case
pub record IsGranted (d : Data) (case : Spelled) (P : Roles) : Type 0 where
  pub writes : WritesPolicy d case P
  pub allowed : AreAllowed P case.sessions

pub record PoliciesAreTheFormats : Type 0 where
  -- a refusal comes exactly where nothing that is tried before it is wrong, and this is
  pub refused : (d : Data) (case : Spelled) (stop : PolicyStop) → (policy_in d case ≡ Err stop) ↔ PolicyComes d case stop
  -- a policy is given exactly where it is granted
  pub given : (d : Data) (case : Spelled) (P : Roles) → (policy_in d case ≡ Ok P) ↔ IsGranted d case P

-- ---- the bytes

-- they are this JSON value and spell this case
pub record Spells (bytes : List ℕ) (d : Data) (case : Spelled) : Type 0 where
  pub json : SpellsJson bytes d
  pub spells : SpellsCase bytes case

-- nothing that is tried before it is wrong, and this is
abbrev pub Comes : List ℕ → AcceptStop → Type 0
Comes bytes (Case stop) = CaseComes bytes stop
Comes bytes (OfPolicy stop) = (d : Data) × (case : Spelled) × Spells bytes d case × PolicyComes d case stop

-- nothing is wrong, and this is the case and its policy
pub record SpellsBoth (bytes : List ℕ) (both : SpelledBoth) : Type 0 where
  pub value : Data
  pub spells : Spells bytes value both.case
  pub granted : IsGranted value both.case both.policy

-- nothing is wrong, and this is the case, whatever its policy
pub record AcceptsCase (bytes : List ℕ) (case : Spelled) : Type 0 where
  pub policy : Roles
  pub spells : SpellsBoth bytes (record { case = case; policy = policy })

abbrev pub RefusalsAreTheFormats : Type 0
RefusalsAreTheFormats = (bytes : List ℕ) (stop : AcceptStop) → (accepted_in bytes ≡ Err stop) ↔ Comes bytes stop

abbrev pub AcceptedAreTheFormats : Type 0
AcceptedAreTheFormats = (bytes : List ℕ) (both : SpelledBoth) → (accepted_in bytes ≡ Ok both) ↔ SpellsBoth bytes both

-- one is accepted exactly where no refusal comes
abbrev pub OneOfTheTwo : Type 0
OneOfTheTwo = (bytes : List ℕ) → ((both : SpelledBoth) × (accepted_in bytes ≡ Ok both)) ↔ ((stop : AcceptStop) → ¬ Comes bytes stop)

-- ---- the other versions

abbrev pub OthersAllowAll : Type 0
OthersAllowAll = (d : Data) (case : Spelled) → is_third d ≡ false → (P : Roles) × (policy_in d case ≡ Ok P) × ((session : ℕ) (call : Call) → deny P session call ≡ None)
