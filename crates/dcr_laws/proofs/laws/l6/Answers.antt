use Rattle.dcr_laws.proofs.SitesRunLemmas.{sites_run_as_the_graph}
use Rattle.dcr_laws.proofs.laws.l6.Goals as goal

pub returns : goal.returns
returns c = sites_run_as_the_graph
