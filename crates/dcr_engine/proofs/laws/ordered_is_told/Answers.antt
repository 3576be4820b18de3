use Rattle.dcr_engine.proofs.LawLemmas.{ordered_is_told_lem}
use Rattle.dcr_engine.proofs.laws.ordered_is_told.Goals as goal

pub returns : goal.returns
returns c = ordered_is_told_lem
