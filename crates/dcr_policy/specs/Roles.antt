-- The roles of a policy: those that atoms ask for, and those that sessions have. A role is a name, by its bytes.
use Rattle.std.specs.Prelude.{ℕ, List, [], map, slice_index_or}
use Rattle.dcr_nest.specs.Tree.{Parents, atoms}
use Rattle.dcr_policy.specs.Upward.{upward}

-- for each atom the roles that it asks for, and for each session that has a user the roles of that user
pub record Roles : Type 0 where
  pub atoms : List (List (List ℕ))
  pub sessions : List (List (List ℕ))

-- The policy of events with these parents and roles of their own, where users have these roles and the sessions are by
-- these users, by their numbers. An atom asks for its own roles, then for its parent's, and so on upwards.
abbrev pub roles_of : Parents → List (List (List ℕ)) → List (List (List ℕ)) → List ℕ → Roles
roles_of parents own users by = record {
  atoms = map (upward parents own) (atoms parents);
  sessions = map (λ user. slice_index_or users user []) by;
}
