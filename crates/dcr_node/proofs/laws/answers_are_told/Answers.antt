use Rattle.dcr_node.proofs.LawLemmas.{an_answer, the_ends}
use Rattle.dcr_node.proofs.laws.answers_are_told.Goals as goal

pub returns : goal.returns
returns c = record { answering = an_answer; ends = the_ends }
