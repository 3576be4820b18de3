-- What was read is of the first events.
use Rattle.std.proofs.Common.{◌≡◌, length, map}
use Rattle.serde_json.specs.View.{view}
use Rattle.dcr_set.specs.EventSet.{numbers}
use Rattle.dcr_part.specs.PartText.{event_value}
use Rattle.dcr_part.specs.Read.{IsTold}
use Rattle.dcr_part.specs.Told.{Told}
use Rattle.dcr_part.proofs.EventLemmas.{AreFront}
use Rattle.dcr_part.proofs.alphabet.read_events.Given as goal

abbrev pub invariant-loop-value : goal.invariant-loop-value
invariant-loop-value l = record {
  own_room : length l.own ≡ l.atoms;
  names_room : length l.names.items ≡ l.atoms;
  front : (P : Told) → IsTold P → P.rules.atoms ≡ l.atoms → map view l.events ≡ map (event_value P.own P.names) (numbers P.alphabet) → AreFront P l.value-index l.own l.names.items;
}
