use Rattle.std.proofs.Common.{sym, ◌∙◌}
use Rattle.dcr_set.proofs.StandsLemmas.{stands}
use Rattle.dcr_set.proofs.set.EventSet.first_missing_from.Goals as goal

pub returns-clause-missing : goal.returns-clause-missing
returns-clause-missing c =
    let whole = stands c.self.inside _ c.self.invariant c.self.view_is in sym (whole.members c.first_clear.result) ∙ c.first_clear.ensures.clear

pub returns-clause-run : goal.returns-clause-run
returns-clause-run c =
    let whole = stands c.self.inside _ c.self.invariant c.self.view_is in λ k above below. sym (whole.members k) ∙ c.first_clear.ensures.set_before k above below
