use Rattle.dcr_laws.proofs.TouchesLemmas.{untouched_marks_stay, untouched_by_the_set}
use Rattle.dcr_laws.proofs.laws.l4.Goals as goal

pub returns-clause-by_the_test : goal.returns-clause-by_the_test
returns-clause-by_the_test c = untouched_marks_stay

pub returns-clause-by_the_set : goal.returns-clause-by_the_set
returns-clause-by_the_set c = untouched_by_the_set
