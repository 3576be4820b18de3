use Rattle.std.proofs.Common.{◌≡◌, map, take}
use Rattle.dcr_graph.specs.Rows.{row}
use Rattle.dcr_nest.proofs.flatten.at.Given as goal

abbrev pub invariant-loop-x : goal.invariant-loop-x
invariant-loop-x l = l.sets.items ≡ map (row l.rows) (take l.x-index l.atoms)
