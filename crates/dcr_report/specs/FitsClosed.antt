-- Which cases and closed runs have lines: their numbers are those of sites and atoms that there are.
use Rattle.std.specs.Prelude.{◌≡◌, ℕ, ◌<◌, ◌≤◌, List, length}
use Rattle.std.specs.Option.{ForSome}
use Rattle.std.specs.List.{All}
use Rattle.dcr_graph.specs.Projection.{FitsAtoms, HasRoom}
use Rattle.dcr_graph.specs.declared.marking.Marking.{Marking}
use Rattle.dcr_graph.specs.declared.marking.SiteMark.{SiteMark}
use Rattle.dcr_proj.specs.CoverValue.{Owners, atoms_of}
use Rattle.dcr_journal.specs.declared.closed.Closed.{Closed}
use Rattle.dcr_line.specs.Fits.{FitsEntry}

-- the cover and the opening marking are ones of so many atoms
pub record FitsCase (atoms : ℕ) (cover : Owners) (opening : Marking) : Type 0 where
  pub rooms : atoms_of cover.owned ≡ atoms
  pub marks : FitsAtoms atoms opening.executed opening.pending opening.included

-- What a closed run tells has lines, whether or not a graph of so many atoms allows it: its opening marking has room for
-- them, each entry names sites and atoms that there are, and so do the marks, one for each site, and what is waited for.
pub record FitsTold (atoms : ℕ) (cover : Owners) (closed : Closed) : Type 0 where
  pub opening : HasRoom atoms closed.opening
  pub entries : All (FitsEntry (length cover.owned) atoms) closed.history.entries
  pub as_many_marks : length closed.marks ≡ length cover.owned
  pub marks : All (λ (mark : SiteMark). FitsAtoms atoms mark.executed mark.pending mark.included) closed.marks
  pub waits : ForSome closed.waits (λ e. e < atoms)

-- the run is one over a cover of so many atoms, whose sites have these names
pub record FitsReport (atoms : ℕ) (cover : Owners) (sites : List (List ℕ)) (closed : Closed) : Type 0 where
  pub begins : FitsCase atoms cover closed.opening
  pub entries : All (FitsEntry (length cover.names) atoms) closed.history.entries
  pub named : sites ≡ cover.names
  pub few_sites : length sites ≤ 64
  pub as_many_marks : length closed.marks ≡ length sites
  pub marks : All (λ (mark : SiteMark). FitsAtoms atoms mark.executed mark.pending mark.included) closed.marks
  pub waits : ForSome closed.waits (λ e. e < atoms)
