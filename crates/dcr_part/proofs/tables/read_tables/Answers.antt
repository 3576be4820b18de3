use Rattle.std.proofs.Common.{◌∙◌}
use Rattle.std.proofs.lemmas.Option.{none-some, same_Some}
use Rattle.serde_json.specs.View.{view}
use Rattle.dcr_part.specs.PartText.{relations_value}
use Rattle.dcr_part.proofs.MemberLemmas.{relations_in}
use Rattle.dcr_part.proofs.tables.read_tables.Goals as goal

pub returns-in_default-clause-read : goal.returns-in_default-clause-read
returns-in_default-clause-read c = λ P atoms is. none-some (relations_value P.rules) (c.in_default.ensures.value ∙ relations_in P (view c.args.value.now) is)

pub returns-clause-read : goal.returns-clause-read
returns-clause-read c = λ P atoms is.
    c.tables_of.ensures.read P.rules atoms (same_Some _ _ (c.in-Some.ensures.value ∙ relations_in P (view c.args.value.now) is))
