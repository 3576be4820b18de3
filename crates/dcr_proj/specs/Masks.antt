-- The masks of a projection, each of which lies under a number: the first, under 0, has no event.
use Rattle.std.specs.Prelude.{◌≡◌, ◌==◌, ℕ, ◌<◌, ◌≤◌, List, length, IfSome}
use Rattle.dcr_set.specs.EventSet.{Set, no_event, those}
use Rattle.dcr_graph.specs.Rows.{row}
use Rattle.dcr_proj.specs.CoverValue.{atoms_of, HaveOneRoom}
use Rattle.dcr_proj.specs.declared.masks.Place.{Place}

-- masks over the same atoms, the first of which has no event
pub record AreMasks (masks : List Set) : Type 0 where
  pub some_mask : 1 ≤ length masks
  pub rooms : HaveOneRoom masks
  pub nothing : row masks 0 ≡ no_event (atoms_of masks)

-- what lay under a number still lies there
pub record KeepsMasks (old new : List Set) : Type 0 where
  pub as_many : length old ≤ length new
  pub same : (k : ℕ) → k < length old → row new k ≡ row old k

-- the event that is told of a mask is its only one
pub record HasAlone (masks : List Set) (number e : ℕ) : Type 0 where
  pub atom : e < atoms_of masks
  pub only : row masks number ≡ those (atoms_of masks) (λ k. k == e)

-- a mask lies there
pub record IsPlace (masks : List Set) (place : Place) : Type 0 where
  pub within : place.number < length masks
  pub alone : IfSome place.alone (HasAlone masks place.number)
