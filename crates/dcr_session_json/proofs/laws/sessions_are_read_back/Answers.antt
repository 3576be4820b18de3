use Rattle.dcr_session_json.proofs.RoundLemmas.{read_back}
use Rattle.dcr_session_json.proofs.laws.sessions_are_read_back.Goals as goal

pub returns : goal.returns
returns c = read_back
