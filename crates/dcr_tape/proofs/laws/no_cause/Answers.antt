use Rattle.dcr_tape.proofs.UniqueLemmas.{no_cause_holds}
use Rattle.dcr_tape.proofs.laws.no_cause.Goals as goal

pub returns : goal.returns
returns c = no_cause_holds
