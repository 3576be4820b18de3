-- A site as contracts see it: its projection and its marks.
use Rattle.std.specs.Prelude.{◌≡◌}
use Rattle.dcr_set.specs.EventSet.{Set}
use Rattle.dcr_graph.specs.Rules.{Rules}
use Rattle.dcr_graph.specs.Projection.{project}
use Rattle.dcr_graph.specs.declared.marking.Marking.{Marking}
use Rattle.dcr_graph.specs.declared.marking.SiteMark.{SiteMark}
use Rattle.dcr_proj.specs.Local.{Local, projection_of}

pub record Seen : Type 0 where
  pub projection : Local
  pub mark : SiteMark

-- the site that owns S stands at the marking M of the rules G: its projection is that of S, and its marks are those of M
pub record StandsAt (G : Rules) (S : Set) (M : Marking) (site : Seen) : Type 0 where
  pub projection : site.projection ≡ projection_of G S
  pub mark : site.mark ≡ project G S M
