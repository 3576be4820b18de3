use Rattle.dcr_policy.proofs.LawLemmas.{nothing_law}
use Rattle.dcr_policy.proofs.laws.nothing_asked_is_allowed.Goals as goal

pub returns : goal.returns
returns c = nothing_law
