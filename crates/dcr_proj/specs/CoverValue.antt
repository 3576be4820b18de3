-- A cover as contracts see it: the sites of a graph, and which of its atoms each of them owns.
use Rattle.std.specs.Prelude.{◌≡◌, ℕ, ◌<◌, ◌≤◌, Bool, true, List, [], length, slice_index_or}
use Rattle.std.specs.List.{All, list_any}
use Rattle.dcr_set.specs.EventSet.{Set, has}
use Rattle.dcr_graph.specs.Names.{AreDistinct}

-- the names of the sites in order, and beside them the sets that they own
pub record Owners : Type 0 where
  pub names : List (List ℕ)
  pub owned : List Set

abbrev pub owners : List (List ℕ) → List Set → Owners
owners names owned = record { names = names; owned = owned }

-- how many atoms a list of sets is about: the room of the first
abbrev pub atoms_of : List Set → ℕ
atoms_of sets = length (slice_index_or sets 0 [])

-- each set has a place for each atom
abbrev pub HaveOneRoom : List Set → Type 0
HaveOneRoom sets = All (λ set. length set ≡ atoms_of sets) sets

-- whether an atom is in one of the sets
abbrev pub is_owned : List Set → ℕ → Bool
is_owned owned atom = list_any (λ set. has set atom) owned

-- each atom below that number is owned by one of the sites
abbrev pub IsCovered : ℕ → List Set → Type 0
IsCovered atoms owned = (atom : ℕ) → atom < atoms → is_owned owned atom ≡ true

-- 1 to 64 sites with distinct names and one set each, and each atom is owned
pub record IsCover (cover : Owners) : Type 0 where
  pub some_site : 1 ≤ length cover.names
  pub most_sites : length cover.names ≤ 64
  pub as_many : length cover.owned ≡ length cover.names
  pub distinct : AreDistinct cover.names
  pub rooms : HaveOneRoom cover.owned
  pub covered : IsCovered (atoms_of cover.owned) cover.owned
