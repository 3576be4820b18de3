use Rattle.dcr_laws.proofs.ToldLemmas.{told_has_each_call_lem, told_has_no_other_session, told_is_sound}
use Rattle.dcr_laws.proofs.laws.told_has_each_call.Goals as goal

pub returns-clause-calls : goal.returns-clause-calls
returns-clause-calls c = told_has_each_call_lem

pub returns-clause-sessions : goal.returns-clause-sessions
returns-clause-sessions c = told_has_no_other_session

pub returns-clause-sound : goal.returns-clause-sound
returns-clause-sound c = told_is_sound
