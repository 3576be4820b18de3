use Rattle.dcr_roles.proofs.PolicyLemmas.{policies_law}
use Rattle.dcr_roles.proofs.laws.when_each_policy_is_refused.Goals as goal

pub returns : goal.returns
returns c = policies_law
