use Rattle.std.proofs.Common.{◌∙◌, subst}
use Rattle.std.proofs.lemmas.Option.{none-some, same_Some}
use Rattle.serde_json.specs.View.{view}
use Rattle.dcr_graph.specs.Projection.{FitsAtoms}
use Rattle.dcr_part.specs.PartText.{opening_value}
use Rattle.dcr_part.proofs.MemberLemmas.{opening_in}
use Rattle.dcr_part.proofs.numbers.read_opening.Goals as goal

pub returns-in_err-opening-clause-read : goal.returns-in_err-opening-clause-read
returns-in_err-opening-clause-read c = λ P it atoms is.
    absurd (none-some (opening_value P.mark) (c.in_err-opening.ensures.value ∙ opening_in P (view c.args.value.now) is))

pub returns-clause-read : goal.returns-clause-read
returns-clause-read c = λ P it atoms is.
    c.read_marks.ensures.read P.mark (subst (λ n. FitsAtoms n P.mark.executed P.mark.pending P.mark.included) atoms it.marks)
    (same_Some _ _ (c.in_ok-opening.ensures.value ∙ opening_in P (view c.args.value.now) is))
