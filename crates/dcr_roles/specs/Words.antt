-- The parts of a policy in the words of the format, and when each of them fails.
use Rattle.std.specs.Prelude.{◌≡◌, ◌⊎◌, ℕ, ◌<◌, true, codes, List, None, Some, slice_get}
use Rattle.serde_json.specs.Data.{Data}
use Rattle.serde_json.specs.Find.{get}
use Rattle.dcr_journal.specs.declared.call.Call.{Call}
use Rattle.dcr_policy.specs.Deny.{deny}
use Rattle.dcr_policy.specs.Roles.{Roles}
use Rattle.dcr_roles.specs.Order.{EachAt, FailsFirst}
use Rattle.dcr_roles.specs.Elements.{elements_at, graph_elements}
use Rattle.dcr_roles.specs.Written.{fits_event, fits_item, fits_user, is_array, so_where_there}
use Rattle.dcr_roles.specs.declared.stop.PolicyPart.{PolicyPart}
use Rattle.dcr_roles.specs.declared.stop.PolicyPart.TheVariants as part

-- the place of a part in the order in which they are tried
abbrev pub rank : PolicyPart → ℕ
rank part.Event = 0
rank part.Users = 1
rank part.User = 2
rank part.By = 3

abbrev pub users_of : Data → List Data
users_of d = elements_at (codes "users") d

-- the member is an array, where it is there
abbrev pub HasArray : List ℕ → Data → Type 0
HasArray name d = so_where_there is_array (get name d) ≡ true

-- the part is as it should be; of a part that comes several times, each
abbrev pub Holds : Data → PolicyPart → Type 0
Holds d part.Event = EachAt (λ _ event. fits_event event ≡ true) (graph_elements (codes "events") d)
Holds d part.Users = HasArray (codes "users") d
Holds d part.User = EachAt (λ i user. fits_user (users_of d) i user ≡ true) (users_of d)
Holds d part.By = HasArray (codes "by") d × EachAt (λ _ item. fits_item (users_of d) item ≡ true) (elements_at (codes "by") d)

-- the part fails; of a part that comes several times, the one at i first
abbrev pub FailsAt : Data → PolicyPart → ℕ → Type 0
FailsAt d part.Event i = FailsFirst (λ _ event. fits_event event ≡ true) (graph_elements (codes "events") d) i
FailsAt d part.Users i = (i ≡ 0) × ¬ HasArray (codes "users") d
FailsAt d part.User i = FailsFirst (λ i user. fits_user (users_of d) i user ≡ true) (users_of d) i
FailsAt d part.By i = ((i ≡ 0) × ¬ HasArray (codes "by") d) ⊎ FailsFirst (λ _ item. fits_item (users_of d) item ≡ true) (elements_at (codes "by") d) i

-- ---- the calls

-- every call of session k is allowed
abbrev pub IsAllowed : Roles → ℕ → List Call → Type 0
IsAllowed P k calls = EachAt (λ _ call. deny P k call ≡ None) calls

abbrev pub AreAllowed : Roles → List (List Call) → Type 0
AreAllowed P sessions = EachAt (IsAllowed P) sessions

-- call j of session k is denied for want of this role, and each call before it is allowed, by the session and then by the
-- call
pub record IsFirstDenied (P : Roles) (sessions : List (List Call)) (k j : ℕ) (role : List ℕ) : Type 0 where
  pub calls : List Call
  pub call : Call
  pub session : slice_get sessions k ≡ Some calls
  pub at : slice_get calls j ≡ Some call
  pub lacks : deny P k call ≡ Some role
  pub earlier_call : (i : ℕ) (other : Call) → i < j → slice_get calls i ≡ Some other → deny P k other ≡ None
  pub earlier_session : (l : ℕ) (others : List Call) → l < k → slice_get sessions l ≡ Some others → IsAllowed P l others
