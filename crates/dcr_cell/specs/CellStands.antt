-- What lies under the lock of a site.
use Rattle.std.specs.Prelude.{◌≡◌, ℕ}
use Rattle.dcr_graph.specs.Rows.{row}
use Rattle.dcr_site.specs.Seen.{Seen, StandsAt}
use Rattle.dcr_turn.specs.FrontValue.{FrontValue}
use Rattle.dcr_cell.specs.ClusterId.{ClusterId, marking_after}

-- The front is that of the place's site, and the site's marks are those of the marking after the entries that the front
-- has seen.
pub record CellStands (c : ClusterId) (place : ℕ) (site : Seen) (front : FrontValue) : Type 0 where
  pub at : front.site ≡ place
  pub stands : StandsAt c.rules (row c.owned place) (marking_after c front.front) site
