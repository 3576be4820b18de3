use Rattle.dcr_greet.proofs.KeyLemmas.{wrong_is_wrong}
use Rattle.dcr_greet.proofs.laws.wrong_lines_are_wrong.Goals as goal

pub returns : goal.returns
returns c = wrong_is_wrong
