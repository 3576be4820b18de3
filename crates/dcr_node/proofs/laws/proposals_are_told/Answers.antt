use Rattle.dcr_node.proofs.LawLemmas.{nothing_else, asking_tells, an_item}
use Rattle.dcr_node.proofs.laws.proposals_are_told.Goals as goal

pub returns : goal.returns
returns c = record { nothing_else = nothing_else; asking = asking_tells; hearing = an_item }
