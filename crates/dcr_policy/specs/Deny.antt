-- Which calls a policy denies, and for want of which role.
use Rattle.std.specs.Prelude.{ℕ, ◌<◌, Bool, List, [], ◌∷◌, Option, Some, None, if◌then◌else◌, slice_index_or}
use Rattle.std.specs.List.{list_any}
use Rattle.std.specs.Str.{bytes_eq}
use Rattle.dcr_journal.specs.declared.call.Call.{Call}
use Rattle.dcr_journal.specs.declared.call.Call.TheVariants.{Exec, Look, Enabled, Accepting}
use Rattle.dcr_policy.specs.Roles.{Roles}

-- whether some role of the one list is in the other
abbrev pub shares_role : List (List ℕ) → List (List ℕ) → Bool
shares_role asked had = list_any (λ role. list_any (bytes_eq role) had) asked

-- What is allowed where no role is asked for, or one of them is had. Else it is denied for want of the first of them.
abbrev pub role_denied : List (List ℕ) → List (List ℕ) → Option (List ℕ)
role_denied [] had = None
role_denied (first ∷ rest) had = if shares_role (first ∷ rest) had then None else Some first

-- The role for want of which a call of a session is denied; none where it is allowed. An execution asks for the roles of
-- its event, at whatever site, and a session past those with a user has none. Every other call is allowed.
abbrev pub deny : Roles → ℕ → Call → Option (List ℕ)
deny P session (Exec i e) = role_denied (slice_index_or P.atoms e []) (slice_index_or P.sessions session [])
deny P session (Look i) = None
deny P session (Enabled i) = None
deny P session Accepting = None

-- the event of a call is one of so many atoms
abbrev pub IsOfAtoms : ℕ → Call → Type 0
IsOfAtoms atoms (Exec i e) = e < atoms
IsOfAtoms atoms (Look i) = Unit {0}
IsOfAtoms atoms (Enabled i) = Unit {0}
IsOfAtoms atoms Accepting = Unit {0}
