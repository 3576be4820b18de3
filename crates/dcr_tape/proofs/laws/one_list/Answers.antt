use Rattle.dcr_tape.proofs.UniqueLemmas.{one_list_holds}
use Rattle.dcr_tape.proofs.laws.one_list.Goals as goal

pub returns : goal.returns
returns c = one_list_holds
