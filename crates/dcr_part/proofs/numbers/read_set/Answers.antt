use Rattle.std.proofs.Common.{map}
use Rattle.serde_json.specs.View.{view}
use Rattle.dcr_set.specs.EventSet.{numbers}
use Rattle.dcr_part.specs.PartText.{number_value}
use Rattle.dcr_part.proofs.ReadLemmas.{elements_are}
use Rattle.dcr_part.proofs.numbers.read_set.Goals as goal

pub returns-clause-read : goal.returns-clause-read
returns-clause-read c = λ s room is.
    c.set_of.ensures.read s room (elements_are (map number_value (numbers s)) (view c.args.value.now) (map view c.in_ok-items.items.now) c.in_ok-items.ensures.value is)
