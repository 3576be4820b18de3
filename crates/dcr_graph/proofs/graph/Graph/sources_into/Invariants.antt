use Rattle.std.proofs.Common.{◌≡◌, ◌<◌, length}
use Rattle.std.specs.List.{All}
use Rattle.dcr_set.specs.EventSet.{has}
use Rattle.dcr_graph.specs.GraphValue.{rules_of}
use Rattle.dcr_graph.specs.Projection.{leads_to}
use Rattle.dcr_graph.proofs.GatheredLemmas.{Joins}
use Rattle.dcr_graph.proofs.graph.Graph.sources_into.Given as goal

abbrev pub invariant-loop-e : goal.invariant-loop-e
invariant-loop-e l = record {
  room : length l.sources ≡ length l.self.names;
  atoms : All (λ e. e < length l.self.names) l.e-iterator;
  joined : Joins (length l.self.names) ((rules_of l.self).related l.kind) (leads_to (rules_of l.self) l.kind (has l.targets)) l.sources l.e-iterator;
}
