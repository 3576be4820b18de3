use Rattle.dcr_laws.proofs.WaitsLemmas.{sites_wait_as_the_graph}
use Rattle.dcr_laws.proofs.laws.l3.Goals as goal

pub returns : goal.returns
returns c = sites_wait_as_the_graph
