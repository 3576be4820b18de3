use Rattle.dcr_cell.proofs.DecisionLemmas.{answers_hold, waits_hold}
use Rattle.dcr_cell.proofs.laws.a_decision_holds.Goals as goal

pub returns-clause-answers : goal.returns-clause-answers
returns-clause-answers c = answers_hold

pub returns-clause-waits : goal.returns-clause-waits
returns-clause-waits c = waits_hold
