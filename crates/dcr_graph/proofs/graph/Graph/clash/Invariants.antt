use Rattle.std.proofs.Common.{◌≡◌, ℕ, ◌<◌, None}
use Rattle.dcr_set.specs.Least.{least}
use Rattle.dcr_graph.specs.Pairs.{clashes}
use Rattle.dcr_graph.specs.GraphValue.{rules_of}
use Rattle.dcr_graph.proofs.graph.Graph.clash.Given as goal

abbrev pub invariant-loop-number : goal.invariant-loop-number
invariant-loop-number l = (k : ℕ) → k < l.number → least (rules_of l.self).atoms (clashes (rules_of l.self) k) ≡ None
