use Rattle.dcr_json.proofs.OpenLemmas.{opening_law}
use Rattle.dcr_json.proofs.laws.opening_is_written.Goals as goal

pub returns : goal.returns
returns c = opening_law
