use Rattle.dcr_tape.proofs.EachLemmas.{each_content}
use Rattle.dcr_tape.proofs.laws.each_content_is.Goals as goal

pub returns : goal.returns
returns c = each_content
