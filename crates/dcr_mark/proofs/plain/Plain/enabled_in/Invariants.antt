use Rattle.std.proofs.Common.{◌≡◌, ◌<◌, true, length}
use Rattle.std.specs.List.{All}
use Rattle.dcr_set.specs.EventSet.{has}
use Rattle.dcr_graph.specs.GraphValue.{rules_of}
use Rattle.dcr_graph.specs.Cause.{is_enabled_in}
use Rattle.dcr_graph.proofs.GatheredLemmas.{Gathers}
use Rattle.dcr_mark.proofs.plain.Plain.enabled_in.Given as goal

abbrev pub invariant-loop-e : goal.invariant-loop-e
invariant-loop-e l = record {
  room : length l.enabled ≡ length l.self.graph.names;
  members : All (λ e. has l.events e ≡ true) l.e-iterator;
  atoms : All (λ e. e < length l.self.graph.names) l.e-iterator;
  enabled : Gathers (length l.self.graph.names) (is_enabled_in (rules_of l.self.graph) l.events l.self.marking) l.enabled l.e-iterator;
}
