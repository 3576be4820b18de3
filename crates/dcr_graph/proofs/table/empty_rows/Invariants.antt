use Rattle.std.proofs.Common.{◌≡◌, replicate}
use Rattle.dcr_set.specs.EventSet.{no_event}
use Rattle.dcr_graph.proofs.table.empty_rows.Given as goal

abbrev pub invariant-loop : goal.invariant-loop
invariant-loop l = l.rows.items ≡ replicate l.counter (no_event l.atoms)
