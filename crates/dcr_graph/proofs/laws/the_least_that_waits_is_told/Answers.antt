use Rattle.dcr_graph.proofs.CauseLemmas.{waits_for_the_least}
use Rattle.dcr_graph.proofs.laws.the_least_that_waits_is_told.Goals as goal

pub returns : goal.returns
returns c = waits_for_the_least
