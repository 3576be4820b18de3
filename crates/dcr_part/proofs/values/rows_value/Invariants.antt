-- The rows that were added and those to come are all the rows.
use Rattle.std.proofs.Common.{◌≡◌, ◌<◌, ◌++◌, ◌&&◌, length, map}
use Rattle.std.specs.List.{All}
use Rattle.serde_json.specs.View.{view}
use Rattle.dcr_set.specs.EventSet.{has, numbers}
use Rattle.dcr_graph.specs.GraphValue.{rules_of}
use Rattle.dcr_part.specs.PartText.{row_value, sources}
use Rattle.dcr_part.proofs.values.rows_value.Given as goal

abbrev pub invariant-loop-a : goal.invariant-loop-a
invariant-loop-a l = record {
  atoms : All (λ a. a < length l.graph.names) l.a-iterator;
  added : map view l.rows.items ++ map (row_value (length l.graph.names) (λ a b. (rules_of l.graph).related l.kind a b && has l.within b)) l.a-iterator
      ≡ map (row_value (length l.graph.names) (λ a b. (rules_of l.graph).related l.kind a b && has l.within b))
      (numbers (sources (length l.graph.names) (λ a b. (rules_of l.graph).related l.kind a b && has l.within b)));
}
