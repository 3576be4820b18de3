-- What the words on roles come to.
use Rattle.std.specs.Prelude.{◌≡◌, ℕ, Bool, not, ◌&&◌, List, [], ◌∷◌, filter, length, None, slice_index_or}
use Rattle.std.specs.List.{All, list_any, range_with_len}
use Rattle.std.specs.Str.{bytes_eq}
use Rattle.dcr_journal.specs.declared.call.Call.{Call}
use Rattle.dcr_nest.specs.Tree.{Parents, is_at_or_below}
use Rattle.dcr_policy.specs.Deny.{role_denied, deny}
use Rattle.dcr_policy.specs.Roles.{roles_of}
use Rattle.dcr_policy.specs.Upward.{upward}

-- each role where it first appears
abbrev pub first_kept : List (List ℕ) → List (List ℕ)
first_kept [] = []
first_kept (role ∷ rest) = role ∷ filter (λ other. not (bytes_eq role other)) (first_kept rest)

-- a role that is asked for twice is asked for once
abbrev pub RepeatsDoNotCount : Type 0
RepeatsDoNotCount = (asked had : List (List ℕ)) → role_denied (first_kept asked) had ≡ role_denied asked had

-- a role that passes is found upwards of a node exactly where a node that it is at or below has one
abbrev pub RolesComeFromAbove : Type 0
RolesComeFromAbove = (passes : List ℕ → Bool) (parents : Parents) (lists : List (List (List ℕ))) (x : ℕ) → length lists ≡ length parents
    → list_any passes (upward parents lists x) ≡ list_any (λ y. is_at_or_below parents x y && list_any passes (slice_index_or lists y [])) (range_with_len 0 (length parents))

-- where no event has roles of its own every call is allowed
abbrev pub NothingAskedIsAllowed : Type 0
NothingAskedIsAllowed = (parents : Parents) (own users : List (List (List ℕ))) (by : List ℕ) (session : ℕ) (call : Call) → All (λ roles. roles ≡ []) own → deny (roles_of parents own users by) session call ≡ None
