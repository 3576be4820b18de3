-- What the fields of a tree stand for.
use Rattle.std.specs.Prelude.{◌≡◌, ◌≤◌, length}
use Rattle.dcr_nest.specs.Tree.{Parents, AreEarlier, atoms}
use Rattle.dcr_nest.specs.declared.tree.Tree.TheInside.{Inside}

abbrev pub parents_in : Inside → Parents
parents_in t = t.parents.items

-- the atoms are those of the parents, of which each stands earlier
pub record IsTree (t : Inside) : Type 0 where
  pub most : length t.parents.items ≤ 2048
  pub earlier : AreEarlier t.parents.items
  pub same_atoms : t.atoms.items ≡ atoms t.parents.items
  pub most_atoms : length (atoms t.parents.items) ≤ 1024
