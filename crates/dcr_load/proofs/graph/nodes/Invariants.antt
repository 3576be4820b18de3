use Rattle.std.proofs.Common.{◌≡◌}
use Rattle.dcr_load.specs.Each.{each_below}
use Rattle.dcr_load.specs.LoadGraph.{node_at}
use Rattle.dcr_load.proofs.graph.nodes.Given as goal

abbrev pub invariant-loop-i : goal.invariant-loop-i
invariant-loop-i l = l.nodes.items ≡ each_below l.i node_at
