use Rattle.dcr_line.proofs.EntryLemmas.{entry_lines}
use Rattle.dcr_line.proofs.laws.entry_lines_are_read.Goals as goal

pub returns : goal.returns
returns c = entry_lines
