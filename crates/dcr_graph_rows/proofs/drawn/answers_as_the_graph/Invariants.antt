use Rattle.std.proofs.Common.{◌≡◌, length}
use Rattle.dcr_graph_rows.proofs.drawn.answers_as_the_graph.Given as goal

abbrev pub invariant-loop-place : goal.invariant-loop-place
invariant-loop-place g l = length l.plain.graph.names ≡ 4
