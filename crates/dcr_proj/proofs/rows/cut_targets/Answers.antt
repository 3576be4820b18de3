use Rattle.std.proofs.Common.{◌∙◌, ap}
use Rattle.dcr_set.specs.EventSet.{intersection}
use Rattle.dcr_set.proofs.ToldLemmas.{intersection-those}
use Rattle.dcr_proj.proofs.rows.cut_targets.Goals as goal

pub returns-clause-targets : goal.returns-clause-targets
returns-clause-targets c = c.common.ensures.common ∙ ap (λ s. intersection s c.args.within.now) c.targets.ensures.targets ∙ intersection-those _ _ c.args.within.now
