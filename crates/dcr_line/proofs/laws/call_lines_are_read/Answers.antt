use Rattle.dcr_line.proofs.CallLemmas.{call_lines}
use Rattle.dcr_line.proofs.laws.call_lines_are_read.Goals as goal

pub returns : goal.returns
returns c = call_lines
