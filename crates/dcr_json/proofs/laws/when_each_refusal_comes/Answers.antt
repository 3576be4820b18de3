use Rattle.dcr_json.proofs.ClashLemmas.{least_clashes}
use Rattle.dcr_json.proofs.RefusalLemmas.{cases_law, either_law, refusals_law}
use Rattle.dcr_json.proofs.laws.when_each_refusal_comes.Goals as goal

pub returns-clause-refusals : goal.returns-clause-refusals
returns-clause-refusals c = refusals_law

pub returns-clause-cases : goal.returns-clause-cases
returns-clause-cases c = cases_law

pub returns-clause-either : goal.returns-clause-either
returns-clause-either c = either_law

pub returns-clause-clashes : goal.returns-clause-clashes
returns-clause-clashes c = least_clashes
