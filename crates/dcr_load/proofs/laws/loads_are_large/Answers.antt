use Rattle.dcr_load.proofs.SessionLemmas.{session_count, call_count}
use Rattle.dcr_load.proofs.laws.loads_are_large.Goals as goal

pub returns-clause-sessions : goal.returns-clause-sessions
returns-clause-sessions c = session_count

pub returns-clause-calls : goal.returns-clause-calls
returns-clause-calls c = call_count
