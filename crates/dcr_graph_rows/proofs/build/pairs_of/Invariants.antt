use Rattle.dcr_graph.specs.Pairs.{AreInRange}
use Rattle.dcr_graph_rows.proofs.build.pairs_of.Given as goal

abbrev pub invariant-loop-pair : goal.invariant-loop-pair
invariant-loop-pair l = AreInRange 4 l.related.items
