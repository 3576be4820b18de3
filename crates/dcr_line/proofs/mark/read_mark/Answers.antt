use Rattle.dcr_line.proofs.MarkLemmas.{mark_fits}
use Rattle.dcr_line.proofs.mark.read_mark.Goals as goal

pub returns-clause-fits : goal.returns-clause-fits
returns-clause-fits c = mark_fits c.args.directory.now.atoms c.args.text.now _ c.mark_of.ensures
