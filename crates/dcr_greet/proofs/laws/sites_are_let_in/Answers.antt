use Rattle.dcr_greet.proofs.HelloLemmas.{are_let_in}
use Rattle.dcr_greet.proofs.laws.sites_are_let_in.Goals as goal

pub returns : goal.returns
returns c = are_let_in
