use Rattle.dcr_graph.proofs.LocalLaws.{local_step_is, outside_step}
use Rattle.dcr_laws.proofs.laws.l2.Goals as goal

pub returns-clause-inside : goal.returns-clause-inside
returns-clause-inside c = local_step_is

pub returns-clause-outside : goal.returns-clause-outside
returns-clause-outside c = outside_step
