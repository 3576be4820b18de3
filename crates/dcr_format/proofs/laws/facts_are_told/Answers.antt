use Rattle.dcr_format.proofs.OrderLemmas.{facts_told}
use Rattle.dcr_format.proofs.laws.facts_are_told.Goals as goal

pub returns : goal.returns
returns c = facts_told
