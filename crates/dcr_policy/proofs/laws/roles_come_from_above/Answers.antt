use Rattle.dcr_policy.proofs.LawLemmas.{above_law}
use Rattle.dcr_policy.proofs.laws.roles_come_from_above.Goals as goal

pub returns : goal.returns
returns c = above_law
