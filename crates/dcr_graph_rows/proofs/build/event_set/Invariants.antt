use Rattle.std.proofs.Common.{◌≡◌, length}
use Rattle.dcr_graph_rows.proofs.build.event_set.Given as goal

abbrev pub invariant-loop-number : goal.invariant-loop-number
invariant-loop-number l = length l.set ≡ 4
