use Rattle.std.proofs.Common.{take}
use Rattle.dcr_run.proofs.SitesLemmas.{HeardSites}
use Rattle.dcr_run.proofs.sites.hear_each.Given as goal

abbrev pub invariant-loop-participant : goal.invariant-loop-participant
invariant-loop-participant l = HeardSites l.e (take l.participant-index l.participants) l.fn.members l.members
