-- What a directory of names stands for.
use Rattle.std.specs.Prelude.{◌≡◌, ℕ, List}
use Rattle.dcr_line.specs.Known.{AreNames}
use Rattle.dcr_line.specs.declared.directory.Directory.TheInside.{Inside}

-- the names of the sites and those of the atoms, in order
pub record Named : Type 0 where
  pub sites : List (List ℕ)
  pub atoms : List (List ℕ)

abbrev pub named : List (List ℕ) → List (List ℕ) → Named
named sites atoms = record { sites = sites; atoms = atoms }

abbrev pub names_of : Inside → Named
names_of x = named x.sites x.graph.now.names

-- the atoms that are found are those of the graph, and lines can be read by the names of the sites and the atoms
pub record IsDirectory (x : Inside) : Type 0 where
  pub atoms : x.atoms ≡ x.graph.now.names
  pub known_sites : AreNames x.sites
  pub known_atoms : AreNames x.atoms
