-- What was added and the names to come are what stood there and all the names.
use Rattle.std.proofs.Common.{◌≡◌, ◌-◌, ◌++◌, length}
use Rattle.dcr_set.specs.EventSet.{numbers_from}
use Rattle.dcr_graph.specs.Names.{comma_names}
use Rattle.dcr_line.specs.Grown.{StartsWith}
use Rattle.dcr_line.proofs.put.put_runs.Given as goal

abbrev pub invariant-loop-first : goal.invariant-loop-first
invariant-loop-first l = record {
  added : l.out.items ++ comma_names l.graph.names (numbers_from l.set l.next) ≡ l.initial.out.items ++ comma_names l.graph.names (numbers_from l.set l.from);
  kept : StartsWith l.initial.out.items l.out.items;
}

-- each run leaves less of the room
abbrev pub decreases-loop-first : goal.decreases-loop-first
decreases-loop-first l = length l.set - l.next
