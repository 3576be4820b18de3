use Rattle.dcr_policy.proofs.LawLemmas.{repeats_law}
use Rattle.dcr_policy.proofs.laws.repeats_do_not_count.Goals as goal

pub returns : goal.returns
returns c = repeats_law
