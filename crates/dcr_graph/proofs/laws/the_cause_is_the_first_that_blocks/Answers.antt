use Rattle.dcr_graph.proofs.CauseLemmas.{cause_is_what_blocks}
use Rattle.dcr_graph.proofs.laws.the_cause_is_the_first_that_blocks.Goals as goal

pub returns : goal.returns
returns c = cause_is_what_blocks
