use Rattle.std.proofs.Common.{◌≡◌, replicate}
use Rattle.dcr_set.specs.EventSet.{no_event}
use Rattle.dcr_graph.proofs.graph.empty_tables.Given as goal

abbrev pub invariant-loop : goal.invariant-loop
invariant-loop l = l.tables.items ≡ replicate l.counter (replicate l.atoms (no_event l.atoms))
