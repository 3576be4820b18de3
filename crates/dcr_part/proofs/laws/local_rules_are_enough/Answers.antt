use Rattle.dcr_graph.specs.Projection.{local_rules}
use Rattle.dcr_part.proofs.RuleLemmas.{projection_is, itself}
use Rattle.dcr_part.proofs.laws.local_rules_are_enough.Goals as goal

pub returns : goal.returns
returns c = λ G S. projection_is G S (local_rules G S) (itself G S)
