use Rattle.std.proofs.Common.{◌≡◌}
use Rattle.dcr_load.specs.Each.{some_of_each_below}
use Rattle.dcr_load.specs.LoadGraph.{relation_at}
use Rattle.dcr_load.proofs.graph.relations.Given as goal

abbrev pub invariant-loop-t : goal.invariant-loop-t
invariant-loop-t l = l.relations.items ≡ some_of_each_below l.t (relation_at l.number)
