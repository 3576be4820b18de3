-- The events that were added and those to come are all the events.
use Rattle.std.proofs.Common.{◌≡◌, ◌++◌, true, map}
use Rattle.std.specs.List.{All}
use Rattle.serde_json.specs.View.{view}
use Rattle.dcr_set.specs.EventSet.{has, numbers}
use Rattle.dcr_part.specs.PartText.{event_value}
use Rattle.dcr_part.proofs.values.alphabet_value.Given as goal

abbrev pub invariant-loop-e : goal.invariant-loop-e
invariant-loop-e l = record {
  heard : All (λ e. has l.alphabet e ≡ true) l.e-iterator;
  added : map view l.values.items ++ map (event_value l.own l.names) l.e-iterator ≡ map (event_value l.own l.names) (numbers l.alphabet);
}
