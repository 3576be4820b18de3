-- The numbers so far are the first of the set's.
use Rattle.std.proofs.Common.{◌≡◌, ℕ, List, Bool, length, map}
use Rattle.serde_json.specs.View.{view}
use Rattle.dcr_set.specs.EventSet.{has, numbers}
use Rattle.dcr_part.specs.PartText.{number_value}
use Rattle.dcr_part.proofs.FrontLemmas.{in_front}
use Rattle.dcr_part.proofs.numbers.set_of.Given as goal

abbrev pub invariant-loop-item : goal.invariant-loop-item
invariant-loop-item l = record {
  room : length l.set ≡ l.room;
  read : (s : List Bool) → length s ≡ l.room → map view l.items ≡ map number_value (numbers s) → (k : ℕ) → has l.set k ≡ in_front s l.item-index k;
}
