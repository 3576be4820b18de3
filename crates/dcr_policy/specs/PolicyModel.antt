-- What the fields of a policy stand for.
use Rattle.std.specs.Prelude.{◌≡◌, ◌<◌, ◌≤◌, [], length, map, slice_index_or}
use Rattle.std.specs.List.{All}
use Rattle.dcr_graph.specs.Names.{AreDistinct}
use Rattle.dcr_nest.specs.Tree.{AreEarlier}
use Rattle.dcr_policy.specs.Numbered.{named, AreBelow}
use Rattle.dcr_policy.specs.Roles.{Roles}
use Rattle.dcr_policy.specs.Sets.{asking_for}
use Rattle.dcr_policy.specs.Upward.{upward}
use Rattle.dcr_policy.specs.declared.policy.Policy.TheInside.{Inside}

abbrev pub roles_in : Inside → Roles
roles_in x = record {
  atoms = map (λ node. named x.names.items (upward x.parents.items x.own.items node)) x.nodes.items;
  sessions = map (λ user. named x.names.items (slice_index_or x.users.items user [])) x.by.items;
}

-- no name twice, each parent earlier, the numbers those of names, nodes and users, and for each user the atoms that ask
-- for one of his roles
pub record IsPolicy (x : Inside) : Type 0 where
  pub distinct : AreDistinct x.names.items
  pub earlier : AreEarlier x.parents.items
  pub most_atoms : length x.nodes.items ≤ 1024
  pub as_many : length x.own.items ≡ length x.parents.items
  pub nodes : All (λ node. node < length x.parents.items) x.nodes.items
  pub own : AreBelow (length x.names.items) x.own.items
  pub users : AreBelow (length x.names.items) x.users.items
  pub by : All (λ user. user < length x.users.items) x.by.items
  pub may : x.may.items ≡ map (asking_for x.parents.items x.own.items x.nodes.items) x.users.items
