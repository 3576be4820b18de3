-- What the fields of a site stand for.
use Rattle.std.specs.Prelude.{length}
use Rattle.dcr_graph.specs.Projection.{FitsAtoms}
use Rattle.dcr_site.specs.Seen.{Seen}
use Rattle.dcr_site.specs.declared.site.Site.TheInside.{Inside}

abbrev pub seen_of : Inside → Seen
seen_of s = record { projection = s.projection; mark = s.mark }

-- the marks have the room of the projection
abbrev pub HasMarks : Inside → Type 0
HasMarks s = FitsAtoms (length s.projection.own) s.mark.executed s.mark.pending s.mark.included
