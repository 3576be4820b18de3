use Rattle.dcr_line.proofs.EntryLemmas.{entry_texts}
use Rattle.dcr_line.proofs.laws.l5.Goals as goal

pub returns : goal.returns
returns c = entry_texts
