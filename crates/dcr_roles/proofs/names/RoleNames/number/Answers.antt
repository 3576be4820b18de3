use Rattle.std.proofs.Common.{ap, sym, ◌∙◌}
use Rattle.dcr_graph.specs.IndexModel.{number_at}
use Rattle.dcr_roles.proofs.NumberLemmas.{number_found}
use Rattle.dcr_roles.proofs.names.RoleNames.number.Goals as goal

pub returns-in-Some-clause-number : goal.returns-in-Some-clause-number
returns-in-Some-clause-number c =
    number_found c.args.self.now.numbers c.args.self.now.names.items c.args.text.now c.in-Some.number c.requires.found
    (ap (number_at c.args.self.now.numbers) (sym c.as_bytes.ensures.value) ∙ sym c.find.ensures ∙ c.in-Some.is)
