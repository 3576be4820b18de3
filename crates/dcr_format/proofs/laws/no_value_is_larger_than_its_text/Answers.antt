use Rattle.dcr_format.proofs.SizeLemmas.{no_value_is_larger}
use Rattle.dcr_format.proofs.laws.no_value_is_larger_than_its_text.Goals as goal

pub returns : goal.returns
returns c = no_value_is_larger
