-- A plain engine as contracts see it: its graph, and the marking at which it stands.
use Rattle.dcr_graph.specs.GraphValue.{Flat}
use Rattle.dcr_graph.specs.declared.marking.Marking.{Marking}

pub record Standing : Type 0 where
  pub graph : Flat
  pub marking : Marking
