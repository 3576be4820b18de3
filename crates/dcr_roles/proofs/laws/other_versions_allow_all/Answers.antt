use Rattle.dcr_roles.proofs.LawLemmas.{others_law}
use Rattle.dcr_roles.proofs.laws.other_versions_allow_all.Goals as goal

pub returns : goal.returns
returns c = others_law
