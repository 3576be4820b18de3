use Rattle.dcr_format.proofs.SizeLemmas.{smaller_parts}
use Rattle.dcr_format.proofs.laws.parts_are_smaller.Goals as goal

pub returns : goal.returns
returns c = smaller_parts
