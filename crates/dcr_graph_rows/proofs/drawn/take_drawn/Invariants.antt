use Rattle.std.proofs.Common.{◌≡◌}
use Rattle.dcr_graph.specs.GraphValue.{rules_of}
use Rattle.dcr_node.specs.Right.{IsRight}
use Rattle.dcr_graph_rows.proofs.drawn.take_drawn.Given as goal

abbrev pub invariant-loop : goal.invariant-loop
invariant-loop l = record { right : IsRight (rules_of l.graph) l.cover.owned l.world.opening l.world; sessions : l.world.journal.sessions ≡ 2 }
