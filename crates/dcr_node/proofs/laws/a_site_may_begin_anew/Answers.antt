use Rattle.dcr_node.proofs.LawLemmas.{begun_anew_right}
use Rattle.dcr_node.proofs.laws.a_site_may_begin_anew.Goals as goal

pub returns : goal.returns
returns c = begun_anew_right
