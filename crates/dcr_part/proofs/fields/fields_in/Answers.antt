use Rattle.std.proofs.Common.{option_map, sym, ap, ◌∙◌}
use Rattle.std.proofs.lemmas.Option.{none-some, same_Some}
use Rattle.serde_json.specs.View.{view}
use Rattle.dcr_part.specs.PartText.{part_value}
use Rattle.dcr_part.proofs.TextLemmas.{line_json, some_text}
use Rattle.dcr_part.proofs.fields.fields_in.Goals as goal

pub returns-in_default-clause-read : goal.returns-in_default-clause-read
returns-in_default-clause-read c = λ P it is. some_text P c.args.bytes.now is c.in_default.ensures.cases

pub returns-in_default-2-clause-read : goal.returns-in_default-2-clause-read
returns-in_default-2-clause-read c = λ P it is.
    none-some (part_value P)
    (ap (option_map view) (sym c.in_default-2.is) ∙ c.in_ok-value.ensures.json ∙ line_json P it c.args.bytes.now c.in-Some.line.now c.in-Some.field-0-0.now c.in-Some.ensures.cases.0 is)

pub returns-clause-read : goal.returns-clause-read
returns-clause-read c = λ P it is.
    c.read_fields.ensures.read P it (same_Some _ _
    (ap (option_map view) (sym c.in-Some-2.is) ∙ c.in_ok-value.ensures.json ∙ line_json P it c.args.bytes.now c.in-Some.line.now c.in-Some.field-0-0.now c.in-Some.ensures.cases.0 is))
