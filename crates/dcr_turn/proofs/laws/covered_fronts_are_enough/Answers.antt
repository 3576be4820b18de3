use Rattle.dcr_turn.proofs.Covered.{covered_marks_stay, covered_calls_stay, covered_count_stays}
use Rattle.dcr_turn.proofs.laws.covered_fronts_are_enough.Goals as goal

pub returns-clause-marks : goal.returns-clause-marks
returns-clause-marks c = covered_marks_stay

pub returns-clause-calls : goal.returns-clause-calls
returns-clause-calls c = covered_calls_stay

pub returns-clause-count : goal.returns-clause-count
returns-clause-count c = covered_count_stays
