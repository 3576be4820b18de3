use Rattle.dcr_line.proofs.EntryLemmas.{head_in_range}
use Rattle.dcr_line.proofs.entry.read_head.Goals as goal

pub returns-clause-in_range : goal.returns-clause-in_range
returns-clause-in_range c = head_in_range c.args.directory.now.sites c.args.directory.now.atoms c.args.line.now _ c.head_of.ensures
