use Rattle.dcr_laws.proofs.ToldLemmas.{a_run_is_done_lem, a_run_is_of_atoms, each_run_is_spelled}
use Rattle.dcr_laws.proofs.laws.a_run_is_done.Goals as goal

pub returns-clause-answered : goal.returns-clause-answered
returns-clause-answered c = a_run_is_done_lem

pub returns-clause-atoms : goal.returns-clause-atoms
returns-clause-atoms c = a_run_is_of_atoms

pub returns-clause-spelled : goal.returns-clause-spelled
returns-clause-spelled c = each_run_is_spelled
