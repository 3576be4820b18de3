-- What the fields of a graph stand for.
use Rattle.std.specs.Prelude.{◌≡◌, ◌≤◌, length}
use Rattle.std.specs.List.{All}
use Rattle.dcr_graph.specs.Names.{AreDistinct}
use Rattle.dcr_graph.specs.GraphValue.{Flat}
use Rattle.dcr_graph.specs.declared.graph.Graph.TheInside.{Inside}

abbrev pub flat_of : Inside → Flat
flat_of g = record { names = g.names; labels = g.labels.items; tables = g.tables.items }

-- one label and, of each of the six kinds, one row for each name, and no name twice
pub record FitsNames (g : Inside) : Type 0 where
  pub most : length g.names ≤ 1024
  pub as_many_labels : length g.labels.items ≡ length g.names
  pub distinct : AreDistinct g.names
  pub six_kinds : length g.tables.items ≡ 6
  pub rows : All (λ table. length table ≡ length g.names) g.tables.items
