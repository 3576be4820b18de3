use Rattle.dcr_line.proofs.EntryLemmas.{entry_fits}
use Rattle.dcr_line.proofs.entry.read_entry.Goals as goal

pub returns-clause-fits : goal.returns-clause-fits
returns-clause-fits c = entry_fits c.args.directory.now.sites c.args.directory.now.atoms c.args.line.now _ c.entry_of.ensures
