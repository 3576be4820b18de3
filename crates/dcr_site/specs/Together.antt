-- Sites that stand together at one marking.
use Rattle.std.specs.Prelude.{◌≡◌, ℕ, Bool, ◌&&◌, List, length, slice_get, Some}
use Rattle.dcr_set.specs.EventSet.{Set, has}
use Rattle.dcr_graph.specs.Rules.{Rules}
use Rattle.dcr_graph.specs.Rows.{row}
use Rattle.dcr_graph.specs.declared.marking.Marking.{Marking}
use Rattle.dcr_proj.specs.CoverValue.{is_owned}
use Rattle.dcr_site.specs.Seen.{Seen, StandsAt}

-- each site stands at the marking M, with its owned set of C
pub record AllStand (G : Rules) (C : List Set) (M : Marking) (sites : List Seen) : Type 0 where
  pub as_many : length sites ≡ length C
  pub each : (i : ℕ) (site : Seen) → slice_get sites i ≡ Some site → StandsAt G (row C i) M site

-- a projection over so many atoms
pub record IsOver (atoms : ℕ) (site : Seen) : Type 0 where
  pub own : length site.projection.own ≡ atoms
  pub alphabet : length site.projection.alphabet ≡ atoms

-- each projection is one over so many atoms
abbrev pub AreOver : ℕ → List Seen → Type 0
AreOver atoms sites = (i : ℕ) (site : Seen) → slice_get sites i ≡ Some site → IsOver atoms site

-- an atom is owned by a site, included and pending
abbrev pub waits_in : List Set → Marking → ℕ → Bool
waits_in C M a = is_owned C a && (has M.included a && has M.pending a)
