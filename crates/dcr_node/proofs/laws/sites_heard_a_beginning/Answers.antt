use Rattle.dcr_node.proofs.LawLemmas.{each_site}
use Rattle.dcr_node.proofs.laws.sites_heard_a_beginning.Goals as goal

pub returns : goal.returns
returns c = each_site
