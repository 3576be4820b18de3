-- The numbers that were added and those to come are all the numbers.
use Rattle.std.proofs.Common.{◌≡◌, ◌++◌, map}
use Rattle.serde_json.specs.View.{view}
use Rattle.dcr_set.specs.EventSet.{numbers}
use Rattle.dcr_part.specs.PartText.{number_value}
use Rattle.dcr_part.proofs.values.set_value.Given as goal

abbrev pub invariant-loop-e : goal.invariant-loop-e
invariant-loop-e l = map view l.values.items ++ map number_value l.e-iterator ≡ map number_value (numbers l.set)
