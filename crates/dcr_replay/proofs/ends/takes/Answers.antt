use Rattle.dcr_text.specs.Lines.{line_of}
use Rattle.dcr_replay.proofs.EndLemmas.{takes_told}
use Rattle.dcr_replay.proofs.ends.takes.Goals as goal

pub returns-clause-says : goal.returns-clause-says
returns-clause-says c = takes_told c.args.text.now c.args.lines.now (line_of c.in-Some.line.text.now c.in-Some.line.ended) c.says.result c.says.ensures c.in-Some.ensures
