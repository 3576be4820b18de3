-- The policy that a JSON value writes for the events of a case, or the first part of it that fails.
use Rattle.std.specs.Prelude.{codes, [], map, Result, Ok, if◌then◌else◌}
use Rattle.serde_json.specs.Data.{Data}
use Rattle.dcr_nest.specs.Tree.{Parents, atoms}
use Rattle.dcr_policy.specs.Roles.{Roles, roles_of}
use Rattle.dcr_policy.specs.Upward.{upward}
use Rattle.dcr_roles.specs.Stages.{◌>>=◌}
use Rattle.dcr_roles.specs.Elements.{elements_at, graph_elements}
use Rattle.dcr_roles.specs.Parts.{parts_fit}
use Rattle.dcr_roles.specs.Written.{is_third, roles_at, roles_by}
use Rattle.dcr_roles.specs.declared.stop.PolicyStop.{PolicyStop}

-- what is written: an atom asks for the roles of its event, then of its parent, and so on upwards, and a session has
-- those of the user that `by` names at its place
abbrev pub policy_written : Data → Parents → Roles
policy_written d parents = record {
  atoms = map (upward parents (map roles_at (graph_elements (codes "events") d))) (atoms parents);
  sessions = map (roles_by (elements_at (codes "users") d)) (elements_at (codes "by") d);
}

-- no event asks for a role, and no session has one
abbrev pub nothing_asked : Parents → Roles
nothing_asked parents = roles_of parents [] [] []

-- what is written, where each part of it is as it should be
abbrev pub policy_if_fit : Data → Parents → Result Roles PolicyStop
policy_if_fit d parents = parts_fit d >>= λ fit. Ok (policy_written d parents)

-- that in the third version, and in the others nothing that is asked for
unfoldable pub policy_told : Data → Parents → Result Roles PolicyStop
policy_told d parents = if is_third d then policy_if_fit d parents else Ok (nothing_asked parents)
