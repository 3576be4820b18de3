use Rattle.std.proofs.Common.{◌≡◌}
use Rattle.dcr_graph.specs.GraphValue.{rules_of}
use Rattle.dcr_node.specs.Right.{IsRight}
use Rattle.dcr_graph_rows.proofs.steps.take_all.Given as goal

abbrev pub invariant-loop-step : goal.invariant-loop-step
invariant-loop-step l = record { right : IsRight (rules_of l.graph) l.cover.owned l.world.opening l.world; sessions : l.world.journal.sessions ≡ 2 }
