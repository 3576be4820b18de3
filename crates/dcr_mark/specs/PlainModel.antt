-- What the fields of a plain engine stand for.
use Rattle.std.specs.Prelude.{length}
use Rattle.dcr_graph.specs.Projection.{HasRoom}
use Rattle.dcr_mark.specs.Standing.{Standing}
use Rattle.dcr_mark.specs.declared.plain.Plain.TheInside.{Inside}

abbrev pub standing_of : Inside → Standing
standing_of p = record { graph = p.graph.now; marking = p.marking }

-- the marking is over the atoms of the graph
abbrev pub IsOverAtoms : Inside → Type 0
IsOverAtoms p = HasRoom (length p.graph.now.names) p.marking
