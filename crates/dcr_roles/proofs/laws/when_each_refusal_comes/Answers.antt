use Rattle.dcr_roles.proofs.AcceptedLemmas.{accepted, one_of_the_two, refusals}
use Rattle.dcr_roles.proofs.laws.when_each_refusal_comes.Goals as goal

pub returns-clause-refusals : goal.returns-clause-refusals
returns-clause-refusals c = refusals

pub returns-clause-accepted : goal.returns-clause-accepted
returns-clause-accepted c = accepted

pub returns-clause-either : goal.returns-clause-either
returns-clause-either c = one_of_the_two
