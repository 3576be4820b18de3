use Rattle.dcr_line.proofs.MarkLemmas.{marks_read}
use Rattle.dcr_line.proofs.laws.marks_are_read.Goals as goal

pub returns : goal.returns
returns c = marks_read
