use Rattle.dcr_part.specs.Whole.{part_of}
use Rattle.dcr_part.proofs.TextLemmas.{text_same}
use Rattle.dcr_part.proofs.WholeLemmas.{alike_same}
use Rattle.dcr_part.proofs.laws.what_a_part_tells.Goals as goal

pub returns : goal.returns
returns c = λ V W alike. text_same (part_of V) (part_of W) (alike_same V W alike)
