use Rattle.std.proofs.Common.{[]}
use Rattle.dcr_app.proofs.lines.line.Goals as goal

pub returns : goal.returns
returns c = c.and.ensures [] c.new.ensures.items
