use Rattle.dcr_load.proofs.WordLemmas.{words_in_order}
use Rattle.dcr_load.proofs.laws.words_are_the_generators.Goals as goal

pub returns : goal.returns
returns c = words_in_order
