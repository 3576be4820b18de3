use Rattle.std.proofs.Common.{map, ◌∙◌}
use Rattle.std.proofs.lemmas.Option.{none-some, same_Some}
use Rattle.serde_json.specs.View.{view}
use Rattle.dcr_set.specs.EventSet.{numbers}
use Rattle.dcr_part.specs.PartText.{event_value, alphabet_value}
use Rattle.dcr_part.proofs.MemberLemmas.{alphabet_in}
use Rattle.dcr_part.proofs.ReadLemmas.{elements_are, no_elements}
use Rattle.dcr_part.proofs.alphabet.read_alphabet.Goals as goal

pub returns-in_default-clause-read : goal.returns-in_default-clause-read
returns-in_default-clause-read c = λ P it atoms is.
    none-some (alphabet_value P.own P.names P.alphabet) (c.in_default.ensures.value ∙ alphabet_in P (view c.args.value.now) is)

pub returns-in_default-elements-clause-read : goal.returns-in_default-elements-clause-read
returns-in_default-elements-clause-read c = λ P it atoms is.
    no_elements (map (event_value P.own P.names) (numbers P.alphabet)) (view c.in-Some.alphabet.now) c.in_default-elements.ensures.value
    (same_Some _ _ (c.in-Some.ensures.value ∙ alphabet_in P (view c.args.value.now) is))

pub returns-clause-read : goal.returns-clause-read
returns-clause-read c = λ P it atoms is.
    c.read_events.ensures.read P it atoms
    (elements_are (map (event_value P.own P.names) (numbers P.alphabet)) (view c.in-Some.alphabet.now) (map view c.in-Some-elements.events.now) c.in-Some-elements.ensures.value
    (same_Some _ _ (c.in-Some.ensures.value ∙ alphabet_in P (view c.args.value.now) is)))
