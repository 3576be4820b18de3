use Rattle.dcr_tape.proofs.UniqueLemmas.{one_cause_holds}
use Rattle.dcr_tape.proofs.laws.one_cause.Goals as goal

pub returns : goal.returns
returns c = one_cause_holds
