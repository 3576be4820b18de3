use Rattle.dcr_adapt.proofs.RefusalLemmas.{refusals_law, stages_law, one_law}
use Rattle.dcr_adapt.proofs.laws.when_each_stage_is_refused.Goals as goal

pub returns-clause-refusals : goal.returns-clause-refusals
returns-clause-refusals c = refusals_law

pub returns-clause-stages : goal.returns-clause-stages
returns-clause-stages c = stages_law

pub returns-clause-either : goal.returns-clause-either
returns-clause-either c = one_law
