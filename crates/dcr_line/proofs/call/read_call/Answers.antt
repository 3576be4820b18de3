use Rattle.dcr_line.proofs.CallLemmas.{call_in_range}
use Rattle.dcr_line.proofs.call.read_call.Goals as goal

pub returns-clause-in_range : goal.returns-clause-in_range
returns-clause-in_range c = call_in_range c.args.directory.now.sites c.args.directory.now.atoms c.args.line.now _ c.call_of.ensures
